-- A dictionary page that was taken, or refused.
use Rattle.std.proofs.Common.{◌≡◌, ◌⊎◌, inl, inr, ℕ, zero, suc, ◌*◌, ◌<◌, Bool, true, false, is_some, Option, Some, None, List, [], ◌∷◌, ◌++◌, map, length, take, All, refl, arith, ap, sym, subst, ◌∙◌}
use Rattle.std.specs.Prelude.{IfSome}
use Rattle.std.specs.List.{AllZip}
use Rattle.std.proofs.lemmas.List.{length-map, length-take}
use Rattle.std.proofs.lemmas.List.Elements.{All-nil, All-cons, All-head, All-tail}
use Rattle.columns_base.specs.declared.error.Error.{Error}
use Rattle.columns_base.specs.declared.error.Error.TheVariants.{OutOfSpec}
use Rattle.columns_base.specs.declared.error.S.TheVariants.{S3}
use Rattle.columns_core.specs.Shapes.{leaf_type}
use Rattle.shredding.specs.Shape.{LeafType}
use Rattle.shredding.specs.Shred.{Triple}
use Rattle.shredding.specs.Slot.{Value}
use Rattle.pq_files.specs.Chunk.{Chunk, Page}
use Rattle.pq_files.specs.Reasons.{AnyOf}
use Rattle.pq_files.specs.PageReasons.{IsOutside}
use Rattle.pq_headline.specs.Columns.{ArrowColumn}
use Rattle.pq_headline.specs.FieldReasons.{GivesPage, HasMisplaced, IsOfRows, ReadsFront}
use Rattle.pq_pages.specs.Held.{AreEntriesIn, ArePagesIn, HoldsChunk}
use Rattle.pq_pages.specs.Outcomes.{Outcome, gives_page, gives_dictionary, fails}
use Rattle.pq_tree.specs.Physical.{Physical}
use Rattle.pq_tree.specs.Tree.{Leaf}
use Rattle.read_pieces.specs.Columns.{ColumnOpening, RefusesPiece}
use Rattle.read_pieces.specs.Leaves.{IsLoaded, ReadsPlain, in_bytes}
use Rattle.read_walk.specs.Values.{Stored}
use Rattle.read_column.specs.Dictionary.{AreTextsOf, CannotHold, HoldsEntries, IsEntry, Means, Texts, means}
use Rattle.read_column.specs.Opened.{IsServedPage}
use Rattle.read_column.specs.Queues.{Waiting}
use Rattle.read_column.specs.Reading.{IsReading, reading}
use Rattle.read_column.proofs.Columns.{behind-none}
use Rattle.read_column.proofs.Dictionaries.{all-read, entries-plain, own-bytes, zip-length}
use Rattle.read_column.proofs.Readings.{of-rows}

-- ---- entries that are held
record Held (t : LeafType) (l : Leaf) (stored : List ℕ → List Stored) (n : ℕ) (body : List ℕ) (texts : Texts) : Type 0 where
  entries : List Value
  are : AreEntriesIn l n body entries
  inside : All (λ v. IsOutside t l.physical v → ⊥) entries
  texts-are : AreTextsOf stored l.physical (Some texts) (Some entries)

loaded-inside : (t : LeafType) (p : Physical) (n : ℕ) (vs es : List Value) → AllZip (IsLoaded t p) (take n (map Some vs)) es → All (λ v. IsOutside t p v → ⊥) es
loaded-inside t p n vs [] a = All-nil (λ v. IsOutside t p v → ⊥)
loaded-inside t p zero vs (e ∷ es) a = absurd a
loaded-inside t p (suc n) [] (e ∷ es) a = absurd a
loaded-inside t p (suc n) (v ∷ vs) (e ∷ es) a = All-cons (λ v. IsOutside t p v → ⊥) e es (λ out. out v a.0) (loaded-inside t p n vs es a.1)

held-own : (t : LeafType) (l : Leaf) (stored : List ℕ → List Stored) (n : ℕ) (body : List ℕ) (texts : Texts) → ReadsPlain t l.physical stored → in_bytes stored ≡ true → HoldsEntries stored n body texts → Held t l stored n body texts
held-own t l stored n body texts r own h =
    let a = h.own own in
    let read = all-read t l.physical stored texts a.values r a.are in
    record {
      entries = read.entries;
      are = record { count = sym a.count ∙ zip-length (IsEntry stored l.physical) texts read.entries read.are; plain = rw a.parts (entries-plain stored l.physical texts a.rest read.entries (own-bytes t l.physical stored r own) read.are) };
      inside = read.inside;
      texts-are = λ _. read.are;
    }

not-own : (b : Bool) → b ≡ false → b ≡ true → ⊥
not-own b f t = cc (f, t)

held-bits : (t : LeafType) (l : Leaf) (stored : List ℕ → List Stored) (n : ℕ) (body : List ℕ) (texts : Texts) → ReadsPlain t l.physical stored → in_bytes stored ≡ false → HoldsEntries stored n body texts → Held t l stored n body texts
held-bits t l stored n body texts r own h =
    let b = h.bits own in
    let count : length (stored body) ≡ 8 * length body = ap length b.0.are ∙ (length-map {B = Stored} b.0.values Some ∙ b.0.count) in
    let s = r.spelled body n (omega (arith, count, b.1)) in
    record {
      entries = s.0;
      are = record { count = omega (arith, length-take n (stored body), count, b.1, zip-length (IsLoaded t l.physical) (take n (stored body)) s.0 s.2); plain = s.1 };
      inside = loaded-inside t l.physical n b.0.values s.0 (subst (λ (xs : List Stored). AllZip (IsLoaded t l.physical) (take n xs) s.0) b.0.are s.2);
      texts-are = λ f. absurd (not-own (in_bytes stored) own f);
    }

held : (t : LeafType) (l : Leaf) (stored : List ℕ → List Stored) (n : ℕ) (body : List ℕ) (texts : Texts) → ReadsPlain t l.physical stored → HoldsEntries stored n body texts → Held t l stored n body texts
held t l stored n body texts r h = by (in_bytes stored) refl
  where
    by : (b : Bool) → in_bytes stored ≡ b → Held t l stored n body texts
    by true own = held-own t l stored n body texts r own h
    by false own = held-bits t l stored n body texts r own h

-- ---- where nothing was taken
front-none : (stored : List ℕ → List Stored) (c : ArrowColumn) (l : Leaf) (taken : List Outcome) (d : Option Texts) (es : Option (List Value)) (behind : List Outcome) → AreTextsOf stored l.physical d es → ReadsFront c l taken es behind → d ≡ None → behind ≡ [] → taken ≡ []
front-none stored c l [] d es behind a f e none = refl
front-none stored c l (gives_page p levels ∷ os) d es behind a f e none = sym f.1 ∙ none
front-none stored c l (fails x ∷ os) d es behind a f e none = sym f.1 ∙ none
front-none stored c l (gives_dictionary n body ∷ os) None None behind a f e none = absurd (cc f.1)
front-none stored c l (gives_dictionary n body ∷ os) None (Some es) behind a f e none = absurd a
front-none stored c l (gives_dictionary n body ∷ os) (Some x) es behind a f e none = absurd (cc e)

nothing-taken : (stored : List ℕ → List Stored) (limit : ℕ) (o : ColumnOpening) (pieces : List (List Triple)) (os : List Outcome) (d : Means) (q : Waiting) (b : Bool) → (r : IsReading stored limit o pieces (reading os d q b)) → b ≡ false → d.entries ≡ None → r.taken ≡ []
nothing-taken stored limit o pieces os d q b r began none = elim r.began [
  | inl x ↦ absurd (not-own b began x.0)
  | inr x ↦ front-none stored o.column o.leaf r.taken d.entries r.entries r.behind r.texts r.front none x.1
]

-- the first page was taken
pub entries-taken : (stored : List ℕ → List Stored) (limit : ℕ) (o : ColumnOpening) (pieces : List (List Triple)) (n : ℕ) (body : List ℕ) (os : List Outcome) (d : Means) (q : Waiting) (b : Bool) (texts : Texts) → IsReading stored limit o pieces (reading (gives_dictionary n body ∷ os) d q b) → b ≡ false → d.entries ≡ None → HoldsEntries stored n body texts → IsReading stored limit o pieces (reading os (means (Some texts) d.deltas) q b)
entries-taken stored limit o pieces n body os d q b texts r began none h =
    let t = leaf_type o.column.data_type in
    let taken : r.taken ≡ [] = nothing-taken stored limit o pieces (gives_dictionary n body ∷ os) d q b r began none in
    let behind : r.behind ≡ [] = behind-none o.column o.leaf r.taken r.entries r.behind r.front taken in
    let e = held t o.leaf stored n body texts r.readable.values.plain h in
    let pages : r.pages ≡ [] = no-pages o.leaf r.entries r.behind r.pages behind r.are in
    record {
      readable = r.readable;
      queue = r.queue;
      has = r.has;
      chunk = r.chunk;
      middle = r.middle;
      sized = r.sized;
      whole = r.whole;
      last = r.last;
      queued = r.queued;
      wants = r.wants;
      taken = gives_dictionary n body ∷ [];
      outcomes = r.outcomes ∙ ap (λ (xs : List Outcome). xs ++ gives_dictionary n body ∷ os) taken;
      entries = Some e.entries;
      behind = [];
      front = (e.entries, refl, e.are, e.inside, refl);
      texts = e.texts-are;
      deltas = r.deltas;
      began = inr (began, refl);
      pages = [];
      are = tt;
      served = All-nil (IsServedPage o.column);
      triples = rw pages at r.triples;
    }
  where
    no-pages : (l : Leaf) (es : Option (List Value)) (os : List Outcome) (ps : List Page) → os ≡ [] → ArePagesIn l es os ps → ps ≡ []
    no-pages l es [] [] e a = refl
    no-pages l es [] (p ∷ ps) e a = absurd a
    no-pages l es (x ∷ os) ps e a = absurd (cc e)

-- ---- or not
not-nothing : (stored : List ℕ → List Stored) (c : ArrowColumn) (l : Leaf) (taken : List Outcome) (d : Option Texts) (es : Option (List Value)) (behind : List Outcome) → AreTextsOf stored l.physical d es → ReadsFront c l taken es behind → is_some d ≡ true → taken ≡ [] → ⊥
not-nothing stored c l [] None es behind a f s e = cc s
not-nothing stored c l [] (Some x) None behind a f s e = a
not-nothing stored c l [] (Some x) (Some es) behind a f s e = absurd (cc f.0)
not-nothing stored c l (o ∷ os) d es behind a f s e = absurd (cc e)

no-page : (os : List Outcome) → os ≡ [] → AnyOf GivesPage os → ⊥
no-page [] e a = a
no-page (x ∷ os) e a = cc e

-- it is not the first
pub entries-misplaced : (stored : List ℕ → List Stored) (limit : ℕ) (o : ColumnOpening) (pieces : List (List Triple)) (n : ℕ) (body : List ℕ) (os : List Outcome) (d : Means) (q : Waiting) (b : Bool) → (r : IsReading stored limit o pieces (reading (gives_dictionary n body ∷ os) d q b)) → (b ≡ true) ⊎ (is_some d.entries ≡ true) → HasMisplaced o.outcomes
entries-misplaced stored limit o pieces n body os d q b r why = record {
  before = r.taken;
  outcome = gives_dictionary n body;
  rest = os;
  parts = r.outcomes;
  misplaced = inl (λ none. by none why r.began, tt);
}
  where
    by : r.taken ≡ [] → (b ≡ true) ⊎ (is_some d.entries ≡ true) → ((b ≡ true) × AnyOf GivesPage r.behind) ⊎ ((b ≡ false) × (r.behind ≡ [])) → ⊥
    by none (inr s) began = not-nothing stored o.column o.leaf r.taken d.entries r.entries r.behind r.texts r.front s none
    by none (inl x) (inr y) = not-own b y.0 x
    by none (inl x) (inl y) = no-page r.behind (behind-none o.column o.leaf r.taken r.entries r.behind r.front none) y.1

-- the entries of a column of rows
held-entries : (l : Leaf) (n : ℕ) (body : List ℕ) (os : List Outcome) (outcomes : List Outcome) (got : Chunk) (c : ArrowColumn) → outcomes ≡ gives_dictionary n body ∷ os → HoldsChunk l outcomes got → IfSome got.entries (All (λ v. ¬ IsOutside (leaf_type c.data_type) l.physical v)) → (es : List Value) × AreEntriesIn l n body es × All (λ v. ¬ IsOutside (leaf_type c.data_type) l.physical v) es
held-entries l n body os outcomes got c e h inside =
    let g : HoldsChunk l (gives_dictionary n body ∷ os) got = rw e at h in
    (g.0, g.2, rw g.1 at inside)

outside-in : (t : LeafType) (p : Physical) (front : List Value) (rest : List Stored) (n : ℕ) (es : List Value) → length front < n → AllZip (IsLoaded t p) (take n (map Some front ++ None ∷ rest)) es → All (λ v. ¬ IsOutside t p v) es → ⊥
outside-in t p front rest zero es few a h = omega (arith, few)
outside-in t p [] rest (suc n) [] few a h = a
outside-in t p [] rest (suc n) (e ∷ es) few a h = All-head (λ v. ¬ IsOutside t p v) e es h a.0
outside-in t p (v ∷ front) rest (suc n) [] few a h = a
outside-in t p (v ∷ front) rest (suc n) (e ∷ es) few a h = outside-in t p front rest n es (omega (arith, few)) a.1 (All-tail (λ v. ¬ IsOutside t p v) e es h)

not-held : (t : LeafType) (l : Leaf) (stored : List ℕ → List Stored) (n : ℕ) (body : List ℕ) (e : Error) (es : List Value) → ReadsPlain t l.physical stored → CannotHold stored n body e → AreEntriesIn l n body es → All (λ v. ¬ IsOutside t l.physical v) es → ⊥
not-held t l stored n body e es r why are inside =
    let read = r.read body es are.plain in
    elim why [
      | inl cut ↦ omega (arith, cut.1, read.0, are.count)
      | inr out ↦ outside-in t l.physical (out.1).front (out.1).rest n es (out.1).few (rw (← are.count, (out.1).parts) at read.1) inside
    ]

pub entries-refused : (stored : List ℕ → List Stored) (limit : ℕ) (o : ColumnOpening) (pieces : List (List Triple)) (n : ℕ) (body : List ℕ) (os : List Outcome) (d : Means) (q : Waiting) (b : Bool) (e : Error) → (r : IsReading stored limit o pieces (reading (gives_dictionary n body ∷ os) d q b)) → ((e ≡ OutOfSpec S3) × ((b ≡ true) ⊎ (is_some d.entries ≡ true))) ⊎ ((b ≡ false) × (d.entries ≡ None) × CannotHold stored n body e) → RefusesPiece o e
entries-refused stored limit o pieces n body os d q b e r (inl s3) = inr (inr (inl (s3.0, entries-misplaced stored limit o pieces n body os d q b r s3.1)))
entries-refused stored limit o pieces n body os d q b e r (inr x) =
    let t = leaf_type o.column.data_type in
    let taken : r.taken ≡ [] = nothing-taken stored limit o pieces (gives_dictionary n body ∷ os) d q b r x.0 x.1 in
    let all : o.outcomes ≡ gives_dictionary n body ∷ os = r.outcomes ∙ ap (λ (xs : List Outcome). xs ++ gives_dictionary n body ∷ os) taken in
    of-rows o e (which x.2) (λ rows a. (
    let h = held-entries o.leaf n body os o.outcomes a.chunk o.column all a.holds.holds a.holds.inside in
    not-held t o.leaf stored n body e h.0 r.readable.values.plain x.2 h.1 h.2))
  where
    which : CannotHold stored n body e → IsOfRows e
    which (inl cut) = inr (inr (inl cut.0))
    which (inr out) = inr (inr (inr (inl out.0)))
