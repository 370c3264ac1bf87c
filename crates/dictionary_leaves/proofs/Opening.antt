-- The first page of a dictionary's column.
use Rattle.std.proofs.Common.{◌≡◌, inl, inr, ℕ, zero, suc, ◌<◌, ◌≤◌, Option, Some, None, Bool, true, false, cond, List, [], ◌∷◌, ◌++◌, map, length, take, All, refl, arith, ap, sym, ◌∙◌, subst, true≢false, length-append}
use Rattle.std.specs.Prelude.{flat_map, IfSome}
use Rattle.std.specs.List.{AllZip}
use Rattle.std.proofs.lemmas.List.{length-map, take_at}
use Rattle.std.proofs.lemmas.List.Elements.{All-cons, All-head, All-nil, All-tail}
use Rattle.std.proofs.lemmas.Option.{same_Some}
use Rattle.columns_base.specs.declared.error.Error.{Error}
use Rattle.columns_base.specs.declared.error.Error.TheVariants.{OutOfSpec, NotYetImplemented, Overflow}
use Rattle.columns_base.specs.declared.error.N.TheVariants.{N4}
use Rattle.columns_base.specs.declared.error.S.TheVariants.{S3, S9}
use Rattle.columns_base.specs.declared.error.V.TheVariants.{V2}
use Rattle.columns_core.specs.Shapes.{base, leaf_type}
use Rattle.columns_core.specs.Tree.{TypeTree, t_boolean, t_dictionary, t_extension}
use Rattle.columns_core.specs.declared.types.IntegerType.{IntegerType}
use Rattle.columns_core.specs.declared.types.IntegerType.TheVariants as K
use Rattle.columns_slots.specs.Types.{entry_type, is_boolean, key_type}
use Rattle.dictionary_columns.proofs.Pages.{indexed, not-indexed}
use Rattle.dictionary_columns.specs.Columns.{key_column, key_leaf}
use Rattle.dictionary_columns.specs.Keys.{key_physical, key_tree, stored_keys}
use Rattle.dictionary_columns.specs.Laws.{HasKeys, before_others, keys_of_column}
use Rattle.dictionary_columns.specs.Sources.{has_indices, keyed_outcome, keyed_outcomes}
use Rattle.pq_files.specs.Chunk.{Chunk, IsData, Page, RawPage, triples_of}
use Rattle.pq_files.specs.Page.{rows_in}
use Rattle.pq_files.specs.PageReasons.{IsOutside}
use Rattle.pq_files.specs.Plain.{InARow}
use Rattle.pq_files.specs.Reasons.{AnyOf}
use Rattle.pq_files.specs.Stored.{IsStored}
use Rattle.pq_headline.specs.Columns.{ArrowColumn, is_dictionary}
use Rattle.pq_headline.specs.FieldReasons.{BeginsWithEntries, HasN4Page, IsOfRows, PassesKeys, SomeV2, key_room}
use Rattle.pq_headline.specs.Openings.{leaf_levels}
use Rattle.pq_headline.specs.Rows.{IsEntryOf}
use Rattle.pq_pages.specs.Held.{AreEntriesIn, ArePagesIn, HoldsChunk}
use Rattle.pq_pages.specs.Outcomes.{IsGiven, IsOfLevels, Levels, Outcome, gives_dictionary, gives_page, fails}
use Rattle.pq_tree.specs.Physical.{Physical, boolean}
use Rattle.pq_tree.specs.Tree.{Leaf}
use Rattle.read_column.specs.Dictionary.{CannotHold}
use Rattle.read_column.specs.Foreseen.{foreseen}
use Rattle.read_pieces.specs.Columns.{AreColumnRows, ColumnOpening, FailsAs, IsColumnOpening, IsReadable, IsWhole, RefusesPiece}
use Rattle.read_pieces.specs.Leaves.{IsLoaded, ReadsLeaf, ReadsPlain}
use Rattle.read_types.proofs.KindsRead.{leaves-read}
use Rattle.read_types.specs.Reads.{limit_of, physical_of, stored_of, types_of}
use Rattle.read_types.specs.declared.kind.LeafKind.{LeafKind}
use Rattle.read_types.specs.declared.kind.LeafKind.TheVariants as L
use Rattle.read_walk.specs.Values.{Stored}
use Rattle.shredding.specs.Shape.{LeafType}
use Rattle.shredding.specs.Slot.{Slot, Value}
use Rattle.dictionary_leaves.specs.Dictionaries.{HasDictionary, may_be_entry}
use Rattle.dictionary_leaves.specs.Entries.{BeginWith}
use Rattle.dictionary_leaves.specs.KeyColumns.{number_kind}

-- ---- no page, or an error in its place

pub source-failed : (o : ColumnOpening) (e : Error) (after : List Outcome) → All FailsAs o.outcomes → o.outcomes ≡ fails e ∷ after → RefusesPiece o e
source-failed o e after failing is =
    let all : All FailsAs (fails e ∷ after) = subst (λ (xs : List Outcome). All FailsAs xs) is failing in
    let own : AnyOf (λ x. x ≡ fails e) o.outcomes = subst (λ (xs : List Outcome). AnyOf (λ x. x ≡ fails e) xs) (sym is) (inl refl) in
    inr (inl (All-head FailsAs (fails e) after all, own))

abbrev no-chunk : Chunk
no-chunk = record { entries = None; pages = [] }

pub nothing-whole : (o : ColumnOpening) → o.outcomes ≡ [] → o.rows ≡ 0 → IsWhole o []
nothing-whole o none rows = record {
  given = subst (λ (xs : List Outcome). All IsGiven xs) (sym none) (All-nil IsGiven);
  chunk = no-chunk;
  holds = subst (λ (xs : List Outcome). HoldsChunk o.leaf xs no-chunk) (sym none) (refl, tt);
  stored = tt;
  inside = tt;
  counted = sym rows;
}

no-pages : (l : Leaf) (es : Option (List Value)) (qs : List Page) → ArePagesIn l es [] qs → qs ≡ []
no-pages l es [] a = refl
no-pages l es (q ∷ qs) a = absurd a

of-rows : (o : ColumnOpening) (e : Error) → IsOfRows e → ((rows : List Slot) → AreColumnRows o rows → ⊥) → RefusesPiece o e
of-rows o e s none = inr (inr (inr (inr (inr (inr (s, none))))))

pub nothing-refused : (o : ColumnOpening) → o.outcomes ≡ [] → 0 < o.rows → RefusesPiece o (OutOfSpec S9)
nothing-refused o none some = of-rows o (OutOfSpec S9) (inr (inr (inr (inr (inl refl))))) by
  where
    by : (rows : List Slot) → AreColumnRows o rows → ⊥
    by rows a =
        let h : HoldsChunk o.leaf [] a.chunk = subst (λ (xs : List Outcome). HoldsChunk o.leaf xs a.chunk) none a.holds.holds in
        let empty : rows_in (triples_of a.chunk) ≡ 0 = ap (λ (qs : List Page). rows_in (flat_map (λ (q : Page). q.triples) qs)) (no-pages o.leaf (a.chunk).entries (a.chunk).pages h.1) in
        omega (arith, some, a.count, a.holds.counted, empty)

-- ---- a data page

pub index-page : (o : ColumnOpening) (p : RawPage) (levels : Levels) (behind : List Outcome) → o.outcomes ≡ gives_page p levels ∷ behind → IsData p.header → has_indices p.header ≡ true → RefusesPiece o (OutOfSpec S3)
index-page o p levels behind is is_data has = inr (inr (inl (
  refl,
  record {
    before = [];
    outcome = gives_page p levels;
    rest = behind;
    parts = is;
    misplaced = inr (indexed p.header is_data has, λ b. subst (λ (xs : List Outcome). BeginsWithEntries xs) is b);
  },
)))

pub other-page : (o : ColumnOpening) (p : RawPage) (levels : Levels) (behind : List Outcome) → is_dictionary o.column.data_type ≡ true → o.outcomes ≡ gives_page p levels ∷ behind → has_indices p.header ≡ false → RefusesPiece o (NotYetImplemented N4)
other-page o p levels behind typed is none =
    let other = not-indexed p.header none in
    let own : AnyOf (HasN4Page o.column o.leaf) (gives_page p levels ∷ behind) = inl (inr (inl (typed, other.0, other.1))) in
    inr (inr (inr (inl (refl, subst (λ (xs : List Outcome). AnyOf (HasN4Page o.column o.leaf) xs) (sym is) own))))

-- ---- types

pub of-dictionary : (t : TypeTree) (key : IntegerType) → key_type t ≡ Some key → is_dictionary t ≡ true
of-dictionary (t_dictionary k e s) key keyed = refl
of-dictionary t key keyed = absurd (cc keyed)

leaf-base : (t : TypeTree) → leaf_type (base t) ≡ leaf_type t
leaf-base (t_extension n t m) = leaf-base t
leaf-base t = refl

pub entry-leaf : (t entry : TypeTree) → entry_type t ≡ Some entry → leaf_type (base entry) ≡ leaf_type t
entry-leaf (t_dictionary k e s) entry typed = ap (λ (x : TypeTree). leaf_type (base x)) (sym (same_Some e entry typed)) ∙ leaf-base e
entry-leaf t entry typed = absurd (cc typed)

passes : (t : TypeTree) (key : IntegerType) (n : ℕ) → key_type t ≡ Some key → key_room key < n → PassesKeys t n
passes (t_dictionary k e s) key n keyed h = subst (λ (x : IntegerType). key_room x < n) (sym (same_Some k key keyed)) h
passes t key n keyed h = absurd (cc keyed)

not-boolean : (t : TypeTree) → is_boolean t ≡ true → may_be_entry t ≡ true → ⊥
not-boolean t_boolean a b = true≢false (sym b)
not-boolean t a b = true≢false (sym a)

not-truths : (k : LeafKind) (t : TypeTree) → types_of k t ≡ true → may_be_entry t ≡ true → physical_of k ≡ boolean → ⊥
not-truths L.Boolean t a b e = not-boolean t a b
not-truths k t a b e = absurd (cc e)

-- ---- more entries than keys

pub past-keys : (o : ColumnOpening) (key : IntegerType) (n : ℕ) (body : List ℕ) (behind : List Outcome) → key_type o.column.data_type ≡ Some key → o.outcomes ≡ gives_dictionary n body ∷ behind → key_room key < n → RefusesPiece o (Overflow V2)
past-keys o key n body behind keyed is h =
    let own : SomeV2 (o.column ∷ []) ((gives_dictionary n body ∷ behind) ∷ []) = inl (passes o.column.data_type key n keyed h) in
    inr (inr (inr (inr (inr (inl (inr (refl, subst (λ (xs : List Outcome). SomeV2 (o.column ∷ []) (xs ∷ [])) (sym is) own)))))))

-- ---- entries that are cut or outside

held-entries : (l : Leaf) (n : ℕ) (body : List ℕ) (os outcomes : List Outcome) (got : Chunk) (c : ArrowColumn) → outcomes ≡ gives_dictionary n body ∷ os → HoldsChunk l outcomes got → IfSome got.entries (All (λ v. ¬ IsOutside (leaf_type c.data_type) l.physical v)) → (es : List Value) × AreEntriesIn l n body es × All (λ v. ¬ IsOutside (leaf_type c.data_type) l.physical v) es
held-entries l n body os outcomes got c e h inside =
    let g : HoldsChunk l (gives_dictionary n body ∷ os) got = rw e at h in
    (g.0, g.2, rw g.1 at inside)

outside-in : (t : LeafType) (p : Physical) (front : List Value) (rest : List Stored) (n : ℕ) (es : List Value) → length front < n → AllZip (IsLoaded t p) (take n (map Some front ++ None ∷ rest)) es → All (λ v. ¬ IsOutside t p v) es → ⊥
outside-in t p front rest zero es few a h = omega (arith, few)
outside-in t p [] rest (suc n) [] few a h = a
outside-in t p [] rest (suc n) (e ∷ es) few a h = All-head (λ v. ¬ IsOutside t p v) e es h a.0
outside-in t p (v ∷ front) rest (suc n) [] few a h = a
outside-in t p (v ∷ front) rest (suc n) (e ∷ es) few a h = outside-in t p front rest n es (omega (arith, few)) a.1 (All-tail (λ v. ¬ IsOutside t p v) e es h)

not-held : (t : LeafType) (l : Leaf) (stored : List ℕ → List Stored) (n : ℕ) (body : List ℕ) (e : Error) (es : List Value) → ReadsPlain t l.physical stored → CannotHold stored n body e → AreEntriesIn l n body es → All (λ v. ¬ IsOutside t l.physical v) es → ⊥
not-held t l stored n body e es r why are inside =
    let read = r.read body es are.plain in
    elim why [
      | inl cut ↦ omega (arith, cut.1, read.0, are.count)
      | inr out ↦ outside-in t l.physical (out.1).front (out.1).rest n es (out.1).few (rw (← are.count, (out.1).parts) at read.1) inside
    ]

pub not-all-held : (o : ColumnOpening) (stored : List ℕ → List Stored) (n : ℕ) (body : List ℕ) (behind : List Outcome) (e : Error) → ReadsPlain (leaf_type o.column.data_type) o.leaf.physical stored → o.outcomes ≡ gives_dictionary n body ∷ behind → CannotHold stored n body e → RefusesPiece o e
not-all-held o stored n body behind e plain is why = of-rows o e (which why) (λ rows a. (
    let h = held-entries o.leaf n body behind o.outcomes a.chunk o.column is a.holds.holds a.holds.inside in
    not-held (leaf_type o.column.data_type) o.leaf stored n body e h.0 plain why h.1 h.2))
  where
    which : CannotHold stored n body e → IsOfRows e
    which (inl cut) = inr (inr (inl cut.0))
    which (inr out) = inr (inr (inr (inl out.0)))

-- ---- entries that are there

-- as the column's own values
pub reads-entries : (o : ColumnOpening) (t entry : TypeTree) (k : LeafKind) → IsColumnOpening o t (physical_of k) → entry_type (base t) ≡ Some entry → types_of k (base entry) ≡ true → ReadsPlain (leaf_type o.column.data_type) o.leaf.physical (stored_of k)
reads-entries o t entry k opening typed made =
    let own : ReadsLeaf (record { way = o.column.way; limits = o.column.limits; data_type = base entry }) (physical_of k) (stored_of k) (limit_of k) = leaves-read k (record { way = o.column.way; limits = o.column.limits; data_type = base entry }) made in
    let same : leaf_type o.column.data_type ≡ leaf_type (base entry) = ap leaf_type opening.typed ∙ sym (entry-leaf (base t) entry typed) in
    rw (same, opening.physical) own.plain

taken-front : (vs : List Value) (rest : List Stored) → take (length vs) (map Some vs ++ rest) ≡ map Some vs
taken-front vs rest = take_at (map Some vs) rest (length vs) (length-map vs Some)

stored-all : (t : LeafType) (p : Physical) (vs es : List Value) → AllZip (IsLoaded t p) (map Some vs) es → AllZip (IsStored t p) vs es
stored-all t p [] [] a = a
stored-all t p [] (e ∷ es) a = absurd a
stored-all t p (v ∷ vs) [] a = absurd a
stored-all t p (v ∷ vs) (e ∷ es) a = (a.0, stored-all t p vs es a.1)

entries-of : (t : TypeTree) (p : Physical) (vs es : List Value) → AllZip (IsStored (leaf_type t) p) vs es → AllZip (IsEntryOf t p) (map Some vs) es
entries-of t p [] [] a = a
entries-of t p [] (e ∷ es) a = absurd a
entries-of t p (v ∷ vs) [] a = absurd a
entries-of t p (v ∷ vs) (e ∷ es) a = (a.0, entries-of t p vs es a.1)

zipped : {A B : Type 0} (R : A → B → Type 0) (xs : List A) (ys : List B) → AllZip R xs ys → length xs ≡ length ys
zipped R [] [] a = refl
zipped R [] (y ∷ ys) a = absurd a
zipped R (x ∷ xs) [] a = absurd a
zipped R (x ∷ xs) (y ∷ ys) a = ap suc (zipped R xs ys a.1)

pub record OwnEntries (o : ColumnOpening) (n : ℕ) (body : List ℕ) (vs : List Value) : Type 0 where
  pub stored : List Value
  pub are : AreEntriesIn o.leaf n body stored
  pub zip : AllZip (IsStored (leaf_type o.column.data_type) o.leaf.physical) vs stored

pub own-entries : (o : ColumnOpening) (stored : List ℕ → List Stored) (n : ℕ) (body : List ℕ) (vs : List Value) → ReadsPlain (leaf_type o.column.data_type) o.leaf.physical stored → BeginWith stored n body vs → OwnEntries o n body vs
own-entries o stored n body vs plain b =
    let size : n ≤ length (stored body) = omega (arith, b.count, ap length b.parts, length-append (map Some vs) b.rest, length-map vs Some) in
    let s = plain.spelled body n size in
    let front : take n (stored body) ≡ map Some vs = ap (λ (m : ℕ). take m (stored body)) (sym b.count) ∙ (ap (take (length vs)) b.parts ∙ taken-front vs b.rest) in
    let zip = stored-all (leaf_type o.column.data_type) o.leaf.physical vs s.0 (rw front at s.2) in
    record {
      stored = s.0;
      are = record { count = sym b.count ∙ zipped (IsStored (leaf_type o.column.data_type) o.leaf.physical) vs s.0 zip; plain = s.1 };
      zip = zip;
    }

pub has-dictionary : (o : ColumnOpening) (n : ℕ) (body : List ℕ) (behind : List Outcome) (vs : List Value) → o.outcomes ≡ gives_dictionary n body ∷ behind → OwnEntries o n body vs → HasDictionary o vs
has-dictionary o n body behind vs is own = record {
  n = n;
  body = body;
  behind = behind;
  outcomes = is;
  stored = own.stored;
  are = own.are;
  entries = entries-of o.column.data_type o.leaf.physical vs own.stored own.zip;
}

pub has-keys : (o : ColumnOpening) (t entry : TypeTree) (key : IntegerType) (k : LeafKind) (n : ℕ) (body text : List ℕ) (behind : List Outcome) (vs : List Value) → IsColumnOpening o t (physical_of k) → key_type (base t) ≡ Some key → types_of k (base entry) ≡ true → may_be_entry (base entry) ≡ true → o.outcomes ≡ gives_dictionary n body ∷ behind → length vs ≡ n → (own : OwnEntries o n body vs) → n ≤ key_room key → InARow (key_physical key) text (stored_keys key 0 n) → HasKeys key o body text behind vs own.stored
has-keys o t entry key k n body text behind vs opening keyed made may_be is count own few keys = record {
  typed = of-dictionary o.column.data_type key (ap key_type opening.typed ∙ keyed);
  some = λ e. not-truths k (base entry) made may_be (sym opening.physical ∙ e);
  definition = opening.definition;
  outcomes = is ∙ ap (λ (m : ℕ). gives_dictionary m body ∷ behind) (sym count);
  own = rw count own.are;
  stored = own.zip;
  few = rw count few;
  keys = rw count keys;
}

-- ---- the column of the keys

keyed-levels : (levels : Levels) (os : List Outcome) → All (IsOfLevels levels) os → All (IsOfLevels levels) (map keyed_outcome os)
keyed-levels levels [] a = All-nil (IsOfLevels levels)
keyed-levels levels (x ∷ os) a = All-cons (IsOfLevels levels) (keyed_outcome x) (map keyed_outcome os) (one x (All-head (IsOfLevels levels) x os a)) (keyed-levels levels os (All-tail (IsOfLevels levels) x os a))
  where
    by : (b : Bool) (p : RawPage) (own : Levels) → own ≡ levels → IsOfLevels levels (cond b (gives_page p own) (fails (NotYetImplemented N4)))
    by true p own e = e
    by false p own e = tt

    one : (x : Outcome) → IsOfLevels levels x → IsOfLevels levels (keyed_outcome x)
    one (gives_page p own) e = by (has_indices p.header) p own e
    one (gives_dictionary n body) e = tt
    one (fails f) e = tt

keyed-failing : (os : List Outcome) → All FailsAs os → All FailsAs (map keyed_outcome os)
keyed-failing [] a = All-nil FailsAs
keyed-failing (x ∷ os) a = All-cons FailsAs (keyed_outcome x) (map keyed_outcome os) (one x (All-head FailsAs x os a)) (keyed-failing os (All-tail FailsAs x os a))
  where
    by : (b : Bool) (p : RawPage) (own : Levels) → FailsAs (cond b (gives_page p own) (fails (NotYetImplemented N4)))
    by true p own = tt
    by false p own = inr refl

    one : (x : Outcome) → FailsAs x → FailsAs (keyed_outcome x)
    one (gives_page p own) e = by (has_indices p.header) p own
    one (gives_dictionary n body) e = tt
    one (fails f) e = e

foreseen-all : (P : Outcome → Type 0) (os others : List Outcome) → All P os → All P others → All P (foreseen os others)
foreseen-all P [] others a b = All-nil P
foreseen-all P (gives_page p own ∷ os) others a b = All-cons P (gives_page p own) (foreseen os others) (All-head P (gives_page p own) os a) (foreseen-all P os others (All-tail P (gives_page p own) os a) b)
foreseen-all P (gives_dictionary n body ∷ os) others a b = All-cons P (gives_dictionary n body) (foreseen os others) (All-head P (gives_dictionary n body) os a) (foreseen-all P os others (All-tail P (gives_dictionary n body) os a) b)
foreseen-all P (fails e ∷ os) others a b = b

given-failing : (os : List Outcome) → All IsGiven os → All FailsAs os
given-failing [] a = All-nil FailsAs
given-failing (x ∷ os) a = All-cons FailsAs x os (one x (All-head IsGiven x os a)) (given-failing os (All-tail IsGiven x os a))
  where
    one : (x : Outcome) → IsGiven x → FailsAs x
    one (gives_page p own) g = tt
    one (gives_dictionary n body) g = tt
    one (fails e) g = absurd g

key-made : (key : IntegerType) → types_of (number_kind key) (key_tree key) ≡ true
key-made K.Int8 = refl
key-made K.Int16 = refl
key-made K.Int32 = refl
key-made K.Int64 = refl
key-made K.UInt8 = refl
key-made K.UInt16 = refl
key-made K.UInt32 = refl
key-made K.UInt64 = refl

key-direct : (key : IntegerType) → is_dictionary (key_tree key) ≡ false
key-direct K.Int8 = refl
key-direct K.Int16 = refl
key-direct K.Int32 = refl
key-direct K.Int64 = refl
key-direct K.UInt8 = refl
key-direct K.UInt16 = refl
key-direct K.UInt32 = refl
key-direct K.UInt64 = refl

key-reads : (key : IntegerType) (c : ArrowColumn) → ReadsLeaf (key_column key c) (key_physical key) (stored_of (number_kind key)) 1
key-reads K.Int8 c = leaves-read L.Int8 (key_column K.Int8 c) refl
key-reads K.Int16 c = leaves-read L.Int16 (key_column K.Int16 c) refl
key-reads K.Int32 c = leaves-read L.Int32 (key_column K.Int32 c) refl
key-reads K.Int64 c = leaves-read L.Int64 (key_column K.Int64 c) refl
key-reads K.UInt8 c = leaves-read L.UInt8 (key_column K.UInt8 c) refl
key-reads K.UInt16 c = leaves-read L.UInt16 (key_column K.UInt16 c) refl
key-reads K.UInt32 c = leaves-read L.UInt32 (key_column K.UInt32 c) refl
key-reads K.UInt64 c = leaves-read L.UInt64 (key_column K.UInt64 c) refl

abbrev KeysOver : IntegerType → ColumnOpening → List Outcome → ColumnOpening
KeysOver key o xs = record { column = key_column key o.column; leaf = key_leaf key o.leaf; outcomes = xs; rows = o.rows; chunk_size = o.chunk_size }

readable : (o : ColumnOpening) (t : TypeTree) (p : Physical) (key : IntegerType) (xs : List Outcome) → IsColumnOpening o t p → All (IsOfLevels (leaf_levels o.leaf)) xs → All FailsAs xs → IsReadable (KeysOver key o xs) (stored_of (number_kind key)) 1
readable o t p key xs opening levels failing = record {
  repetition = opening.repetition;
  definition = opening.definition;
  levels = levels;
  failing = failing;
  values = key-reads key o.column;
  direct = key-direct key;
  lists = opening.lists;
  limited = opening.limited;
  some = opening.some;
}

-- its outcomes are of the levels, and fail as sources do
record AreKeyed (o : ColumnOpening) (text : List ℕ) (m : ℕ) (behind : List Outcome) : Type 0 where
  levels : All (IsOfLevels (leaf_levels o.leaf)) (keyed_outcomes (gives_dictionary m text) behind)
  failing : All FailsAs (keyed_outcomes (gives_dictionary m text) behind)

are-keyed : (o : ColumnOpening) (t : TypeTree) (p : Physical) (n m : ℕ) (body text : List ℕ) (behind : List Outcome) → IsColumnOpening o t p → o.outcomes ≡ gives_dictionary n body ∷ behind → AreKeyed o text m behind
are-keyed o t p n m body text behind opening is =
    let levels : All (IsOfLevels (leaf_levels o.leaf)) behind = All-tail (IsOfLevels (leaf_levels o.leaf)) (gives_dictionary n body) behind (subst (λ (xs : List Outcome). All (IsOfLevels (leaf_levels o.leaf)) xs) is opening.levels) in
    let failing : All FailsAs behind = All-tail FailsAs (gives_dictionary n body) behind (subst (λ (xs : List Outcome). All FailsAs xs) is opening.failing) in
    record {
      levels = All-cons (IsOfLevels (leaf_levels o.leaf)) (gives_dictionary m text) (map keyed_outcome behind) tt (keyed-levels (leaf_levels o.leaf) behind levels);
      failing = All-cons FailsAs (gives_dictionary m text) (map keyed_outcome behind) tt (keyed-failing behind failing);
    }

pub keys-readable : (o : ColumnOpening) (t : TypeTree) (p : Physical) (key : IntegerType) (n : ℕ) (body text : List ℕ) (behind : List Outcome) (vs : List Value) → IsColumnOpening o t p → o.outcomes ≡ gives_dictionary n body ∷ behind → IsReadable (keys_of_column key text behind vs o) (stored_of (number_kind key)) 1
keys-readable o t p key n body text behind vs opening is =
    let a = are-keyed o t p n (length vs) body text behind opening is in
    readable o t p key (keyed_outcomes (gives_dictionary (length vs) text) behind) opening a.levels a.failing

pub others-readable : (o : ColumnOpening) (t : TypeTree) (p : Physical) (key : IntegerType) (n : ℕ) (body text : List ℕ) (behind : List Outcome) (vs : List Value) (others : List Outcome) → IsColumnOpening o t p → o.outcomes ≡ gives_dictionary n body ∷ behind → All IsGiven others → All (IsOfLevels (leaf_levels o.leaf)) others → IsReadable (before_others (keys_of_column key text behind vs o) others) (stored_of (number_kind key)) 1
others-readable o t p key n body text behind vs others opening is given levels =
    let a = are-keyed o t p n (length vs) body text behind opening is in
    readable o t p key (foreseen (keyed_outcomes (gives_dictionary (length vs) text) behind) others) opening (foreseen-all (IsOfLevels (leaf_levels o.leaf)) (keyed_outcomes (gives_dictionary (length vs) text) behind) others a.levels levels) (foreseen-all FailsAs (keyed_outcomes (gives_dictionary (length vs) text) behind) others a.failing (given-failing others given))
