-- What comes of the first page of a dictionary's column.
use Rattle.std.proofs.Common.{◌≡◌, ◌⊎◌, inl, inr, ℕ, ◌<◌, ◌≤◌, Option, Some, None, true, false, List, [], ◌∷◌, length, All, refl, arith, ap, sym, ◌∙◌, subst}
use Rattle.std.specs.Prelude.{sum_by, Err}
use Rattle.std.specs.List.{AllZip}
use Rattle.std.proofs.lemmas.List.Elements.{All-cons, All-nil}
use Rattle.std.proofs.lemmas.List.Sums.{sum_by-cons}
use Rattle.std.proofs.lemmas.Option.{same_Some}
use Rattle.columns_base.specs.declared.error.Error.{Error}
use Rattle.columns_base.specs.declared.error.Error.TheVariants.{NotYetImplemented, OutOfSpec}
use Rattle.columns_base.specs.declared.error.N.TheVariants.{N4}
use Rattle.columns_base.specs.declared.error.S.TheVariants.{S3, S9}
use Rattle.columns_core.specs.Shapes.{base, leaf_type}
use Rattle.columns_core.specs.Tree.{TypeTree, t_binary, t_dictionary, t_large_binary, t_large_utf8, t_utf8}
use Rattle.columns_core.specs.declared.types.IntegerType.{IntegerType}
use Rattle.columns_slots.specs.Tree.{ArrayTree}
use Rattle.columns_slots.specs.Types.{entry_type, key_type}
use Rattle.dictionary_columns.specs.Keys.{key_physical}
use Rattle.dictionary_columns.specs.Laws.{before_others, keys_of_column}
use Rattle.dictionary_columns.specs.Sources.{has_indices, keyed_outcomes}
use Rattle.pq_files.specs.Chunk.{IsData, RawPage}
use Rattle.pq_files.specs.PageReasons.{IsOutside}
use Rattle.pq_files.specs.Stored.{IsStored}
use Rattle.pq_headline.specs.FieldReasons.{EntriesPass, HasLongEntries, PassesTexts, text_size}
use Rattle.pq_pages.specs.Outcomes.{Advances, Levels, Outcome, Takes, gives_dictionary, gives_page}
use Rattle.pq_tree.specs.Physical.{Physical, byte_array}
use Rattle.pq_tree.specs.Views.{typed_view}
use Rattle.pq_tree.specs.declared.types.DataPageHeader.{DataPageHeader}
use Rattle.pq_tree.specs.declared.types.DataPageHeader.TheVariants as D
use Rattle.pq_tree.specs.declared.types.TypedPageHeader.TheVariants as T
use Rattle.read_column.specs.Foreseen.{foreseeing, foreseen}
use Rattle.read_column.specs.Reading.{IsReading, Reading}
use Rattle.read_pieces.specs.Columns.{ColumnOpening, IsColumnOpening, IsReadable, IsWhole, RefusesPiece}
use Rattle.read_pieces.specs.Leaves.{ReadsLeaf}
use Rattle.read_state.specs.Initial.{IsWay}
use Rattle.read_state.specs.declared.init.InitNested.{InitNested}
use Rattle.read_types.proofs.KindsRead.{leaves-read}
use Rattle.read_types.specs.Reads.{limit_of, physical_of, stored_of, types_of}
use Rattle.read_types.specs.declared.kind.LeafKind.{LeafKind}
use Rattle.read_walk.specs.Values.{byte_size, bytes_of}
use Rattle.shredding.specs.Along.{thin}
use Rattle.shredding.specs.Shape.{LeafType, binary as binary_type, text as text_type}
use Rattle.shredding.specs.Slot.{Value, bytes, number, truth}
use Rattle.dictionary_leaves.proofs.Opening.{OwnEntries, entry-leaf, has-dictionary, has-keys, index-page, keys-readable, not-all-held, nothing-refused, nothing-whole, of-dictionary, other-page, others-readable, own-entries, past-keys, reads-entries, source-failed}
use Rattle.dictionary_leaves.specs.Dictionaries.{AreRead, CannotRead, IsOpenDictionary, IsUnreadDictionary}
use Rattle.dictionary_leaves.specs.Entries.{AreLong}
use Rattle.dictionary_leaves.specs.EntryTypes.{EntryReading}
use Rattle.dictionary_leaves.specs.KeyColumns.{number_kind}

-- ---- the first outcome

pub first-taken : (given after : List Outcome) (x : Outcome) → Takes given after (Some x) → given ≡ x ∷ after
first-taken [] after x h = absurd (cc h.1)
first-taken (y ∷ os) after x h = ap (λ (z : Outcome). z ∷ os) (sym (same_Some x y h.2)) ∙ ap (λ (zs : List Outcome). x ∷ zs) (sym h.1)

pub none-taken : (given after : List Outcome) → Takes given after None → given ≡ []
none-taken [] after h = refl
none-taken (y ∷ os) after h = absurd (cc h.2)

-- ---- texts that are too long

value-size : (v : Value) → byte_size v ≡ text_size v
value-size (truth b) = refl
value-size (number z) = refl
value-size (bytes s) = refl

sizes : (vs : List Value) → bytes_of vs ≡ sum_by text_size vs
sizes [] = refl
sizes (v ∷ vs) = omega (arith, sizes vs, value-size v, sum_by-cons text_size v vs)

text-size : (p : Physical) (v s : Value) → IsStored text_type p v s → text_size s ≡ text_size v
text-size byte_array (bytes x) s h = ap text_size h.1
text-size p v s h = absurd h

binary-size : (p : Physical) (v s : Value) → IsStored binary_type p v s → text_size s ≡ text_size v
binary-size byte_array (bytes x) s h = ap text_size h
binary-size p v s h = absurd h

same-sizes : (R : Value → Value → Type 0) (vs es : List Value) → ((v s : Value) → R v s → text_size s ≡ text_size v) → AllZip R vs es → sum_by text_size es ≡ sum_by text_size vs
same-sizes R [] [] f a = refl
same-sizes R [] (e ∷ es) f a = absurd a
same-sizes R (v ∷ vs) [] f a = absurd a
same-sizes R (v ∷ vs) (e ∷ es) f a = omega (arith, f v e a.0, same-sizes R vs es f a.1, sum_by-cons text_size v vs, sum_by-cons text_size e es)

passes-stored : (t : TypeTree) (p : Physical) (vs es : List Value) → AllZip (IsStored (leaf_type t) p) vs es → PassesTexts t vs → PassesTexts t es
passes-stored t_utf8 p vs es a h = omega (arith, h, same-sizes (IsStored text_type p) vs es (text-size p) a)
passes-stored t_large_utf8 p vs es a h = omega (arith, h, same-sizes (IsStored text_type p) vs es (text-size p) a)
passes-stored t_binary p vs es a h = omega (arith, h, same-sizes (IsStored binary_type p) vs es (binary-size p) a)
passes-stored t_large_binary p vs es a h = omega (arith, h, same-sizes (IsStored binary_type p) vs es (binary-size p) a)
passes-stored t p vs es a h = absurd h

entries-pass : (t entry : TypeTree) (es : List Value) → entry_type t ≡ Some entry → PassesTexts (base entry) es → EntriesPass t (Some es)
entries-pass (t_dictionary k e s) entry es typed h = subst (λ (x : TypeTree). PassesTexts (base x) es) (sym (same_Some e entry typed)) h
entries-pass t entry es typed h = absurd (cc typed)

all-inside : (t : LeafType) (p : Physical) (vs es : List Value) → AllZip (IsStored t p) vs es → All (λ v. ¬ IsOutside t p v) es
all-inside t p [] [] a = All-nil (λ v. ¬ IsOutside t p v)
all-inside t p [] (e ∷ es) a = absurd a
all-inside t p (v ∷ vs) [] a = absurd a
all-inside t p (v ∷ vs) (e ∷ es) a = All-cons (λ v. ¬ IsOutside t p v) e es (λ out. out v a.0) (all-inside t p vs es a.1)

all-stored : (t : LeafType) (p : Physical) (vs es : List Value) → AllZip (IsStored t p) vs es → All (λ v. (s : Value) × IsStored t p v s) vs
all-stored t p [] [] a = All-nil (λ v. (s : Value) × IsStored t p v s)
all-stored t p [] (e ∷ es) a = absurd a
all-stored t p (v ∷ vs) [] a = absurd a
all-stored t p (v ∷ vs) (e ∷ es) a = All-cons (λ v. (s : Value) × IsStored t p v s) v vs (e, a.0) (all-stored t p vs es a.1)

moved : (s t : LeafType) (p q : Physical) (vs es : List Value) → s ≡ t → p ≡ q → AllZip (IsStored s p) vs es → AllZip (IsStored t q) vs es
moved s t p q vs es e f a = subst (λ (x : Physical). AllZip (IsStored t x) vs es) f (subst (λ (x : LeafType). AllZip (IsStored x p) vs es) e a)

long-entries : (o : ColumnOpening) (t entry : TypeTree) (k : LeafKind) (n : ℕ) (body : List ℕ) (behind : List Outcome) → IsColumnOpening o t (physical_of k) → entry_type (base t) ≡ Some entry → types_of k (base entry) ≡ true → o.outcomes ≡ gives_dictionary n body ∷ behind → AreLong (stored_of k) (limit_of k) n body → HasLongEntries o.column o.leaf o.outcomes
long-entries o t entry k n body behind opening typed made is long =
    let own : OwnEntries o n body long.values = own-entries o (stored_of k) n body long.values (reads-entries o t entry k opening typed made) long.begin in
    let same : leaf_type o.column.data_type ≡ leaf_type (base entry) = ap leaf_type opening.typed ∙ sym (entry-leaf (base t) entry typed) in
    let zip : AllZip (IsStored (leaf_type (base entry)) (physical_of k)) long.values own.stored = moved (leaf_type o.column.data_type) (leaf_type (base entry)) o.leaf.physical (physical_of k) long.values own.stored same opening.physical own.zip in
    let leaf : ReadsLeaf (record { way = o.column.way; limits = o.column.limits; data_type = base entry }) (physical_of k) (stored_of k) (limit_of k) = leaves-read k (record { way = o.column.way; limits = o.column.limits; data_type = base entry }) made in
    let much : limit_of k ≤ sum_by text_size long.values = omega (arith, long.long, sizes long.values) in
    let passed = leaf.limited long.values (all-stored (leaf_type (base entry)) (physical_of k) long.values own.stored zip) long.some much in
    record {
      n = n;
      body = body;
      behind = behind;
      outcomes_are = is;
      entries = own.stored;
      are = own.are;
      inside = all-inside (leaf_type o.column.data_type) o.leaf.physical long.values own.stored own.zip;
      long = entries-pass o.column.data_type entry own.stored (ap entry_type opening.typed ∙ typed) (passes-stored (base entry) (physical_of k) long.values own.stored zip passed);
    }

-- ---- the dictionary page

opening-of : (o : ColumnOpening) (t : TypeTree) (e : EntryReading) (given : List Outcome) (parts : List InitNested) (size : Option ℕ) (num : ℕ) → IsUnreadDictionary o t e given parts size num → IsColumnOpening o t (physical_of e.kind)
opening-of o t e given parts size num u = subst (λ (p : Physical). IsColumnOpening o t p) (sym u.are.physical) u.opening

pub cannot-read : (o : ColumnOpening) (t : TypeTree) (e : EntryReading) (given after : List Outcome) (parts : List InitNested) (size : Option ℕ) (num n : ℕ) (body : List ℕ) (error : Error) → IsUnreadDictionary o t e given parts size num → given ≡ gives_dictionary n body ∷ after → CannotRead e n body error → RefusesPiece o error
cannot-read o t e given after parts size num n body error u is (inl m) = inl m
cannot-read o t e given after parts size num n body error u is (inr (inl (inl why))) = not-all-held o (stored_of e.kind) n body after error (reads-entries o t e.data_type e.kind (opening-of o t e given parts size num u) u.are.typed u.are.made) (u.outcomes ∙ is) why
cannot-read o t e given after parts size num n body error u is (inr (inl (inr why))) = inr (inr (inr (inr (inr (inl (inl (why.0, inr (long-entries o t e.data_type e.kind n body after (opening-of o t e given parts size num u) u.are.typed u.are.made (u.outcomes ∙ is) why.1))))))))
cannot-read o t e given after parts size num n body error u is (inr (inr why)) = subst (λ (x : Error). RefusesPiece o x) (sym why.0) (past-keys o e.key n body after (ap key_type u.opening.typed ∙ u.are.keyed) (u.outcomes ∙ is) why.1)

-- how a column of keys over this page and those behind it is read
abbrev pub ReadsKeys : IntegerType → Outcome → List Outcome → List InitNested → Option ℕ → ℕ → Reading → Type 0
ReadsKeys key page after parts size num r =
    (x : ColumnOpening) → IsReadable x (stored_of (number_kind key)) 1 → x.leaf.physical ≡ key_physical key → x.outcomes ≡ keyed_outcomes page after → IsWay parts (thin x.column.way) → x.rows ≡ num → x.chunk_size ≡ size →
    IsReading (stored_of (number_kind key)) 1 x [] r

-- the same before any other pages behind those that it takes
abbrev pub ForeseesKeys : IntegerType → Outcome → List Outcome → List InitNested → Option ℕ → ℕ → Reading → Type 0
ForeseesKeys key page after parts size num r =
    (x : ColumnOpening) (others : List Outcome) → IsReadable x (stored_of (number_kind key)) 1 → x.leaf.physical ≡ key_physical key → x.outcomes ≡ foreseen (keyed_outcomes page after) others → IsWay parts (thin x.column.way) → x.rows ≡ num → x.chunk_size ≡ size →
    IsReading (stored_of (number_kind key)) 1 x [] (foreseeing others r)

pub opened : (o : ColumnOpening) (t : TypeTree) (e : EntryReading) (given after : List Outcome) (parts : List InitNested) (size : Option ℕ) (num n : ℕ) (body : List ℕ) (a : ArrayTree) (page : Outcome) (r : Reading) → IsUnreadDictionary o t e given parts size num → given ≡ gives_dictionary n body ∷ after → AreRead e n body a page → ReadsKeys e.key page after parts size num r → ForeseesKeys e.key page after parts size num r → IsOpenDictionary o t [] e.key r a
opened o t e given after parts size num n body a page r u is got reads foresees =
    let opening : IsColumnOpening o t (physical_of e.kind) = opening-of o t e given parts size num u in
    let all = u.outcomes ∙ is in
    let vs = (got.entries).values in
    let leaf = (got.entries).is in
    let count = ((got.entries).begin).count in
    let own : OwnEntries o n body vs = own-entries o (stored_of e.kind) n body vs (reads-entries o t e.data_type e.kind opening u.are.typed u.are.made) (got.entries).begin in
    let page-is : gives_dictionary (length vs) got.text ≡ page = ap (λ (m : ℕ). gives_dictionary m got.text) count ∙ sym got.shown in
    record {
      keyed = u.are.keyed;
      typed = u.are.typed ∙ ap Some (sym leaf.typed);
      values = vs;
      stored = own.stored;
      body = body;
      text = got.text;
      behind = after;
      has = has-keys o t e.data_type e.key e.kind n body got.text after vs opening u.are.keyed u.are.made u.are.may_be all count own got.few got.keys;
      failing = opening.failing;
      entries = leaf.same;
      key_pieces = [];
      given = refl;
      reads = reads (keys_of_column e.key got.text after vs o) (keys-readable o t (physical_of e.kind) e.key n body got.text after vs opening all) refl (ap (λ (x : Outcome). keyed_outcomes x after) page-is) u.way u.rows u.chunk_size;
      foreseen = λ others given levels. foresees (before_others (keys_of_column e.key got.text after vs o) others) others (others-readable o t (physical_of e.kind) e.key n body got.text after vs others opening all given levels) refl (ap (λ (x : Outcome). foreseen (keyed_outcomes x after) others) page-is) u.way u.rows u.chunk_size;
      dictionary = has-dictionary o n body after vs all own;
    }

-- ---- the other first outcomes

pub source-refused : (o : ColumnOpening) (t : TypeTree) (e : EntryReading) (given after : List Outcome) (parts : List InitNested) (size : Option ℕ) (num : ℕ) (lent : Option Outcome) (error : Error) → IsUnreadDictionary o t e given parts size num → Advances (Err error) given after lent → RefusesPiece o error
source-refused o t e given after parts size num lent error u (h, inl m) = inl m.0
source-refused o t e given after parts size num lent error u (h, inr is) = source-failed o error after u.opening.failing (u.outcomes ∙ is)

pub ended : (o : ColumnOpening) (t : TypeTree) (e : EntryReading) (given after : List Outcome) (parts : List InitNested) (size : Option ℕ) (num : ℕ) → IsUnreadDictionary o t e given parts size num → Takes given after None → num ≡ 0 → IsWhole o []
ended o t e given after parts size num u takes none = nothing-whole o (u.outcomes ∙ none-taken given after takes) (u.rows ∙ none)

pub ended-early : (o : ColumnOpening) (t : TypeTree) (e : EntryReading) (given after : List Outcome) (parts : List InitNested) (size : Option ℕ) (num : ℕ) → IsUnreadDictionary o t e given parts size num → Takes given after None → 0 < num → RefusesPiece o (OutOfSpec S9)
ended-early o t e given after parts size num u takes some = nothing-refused o (u.outcomes ∙ none-taken given after takes) (omega (arith, some, u.rows))

pub data-shown : (h : DataPageHeader) → IsData (typed_view (T.Data h))
data-shown (D.V1 h) = tt
data-shown (D.V2 h) = tt

pub page-refused : (o : ColumnOpening) (t : TypeTree) (e : EntryReading) (given after : List Outcome) (parts : List InitNested) (size : Option ℕ) (num : ℕ) (p : RawPage) (levels : Levels) (error : Error) → IsUnreadDictionary o t e given parts size num → Takes given after (Some (gives_page p levels)) → IsData p.header → ((error ≡ OutOfSpec S3) × (has_indices p.header ≡ true)) ⊎ ((error ≡ NotYetImplemented N4) × (has_indices p.header ≡ false)) → RefusesPiece o error
page-refused o t e given after parts size num p levels error u takes is_data (inl h) = subst (λ (x : Error). RefusesPiece o x) (sym h.0) (index-page o p levels after (u.outcomes ∙ first-taken given after (gives_page p levels) takes) is_data h.1)
page-refused o t e given after parts size num p levels error u takes is_data (inr h) = subst (λ (x : Error). RefusesPiece o x) (sym h.0) (other-page o p levels after (of-dictionary o.column.data_type e.key (ap key_type u.opening.typed ∙ u.are.keyed)) (u.outcomes ∙ first-taken given after (gives_page p levels) takes) h.1)
