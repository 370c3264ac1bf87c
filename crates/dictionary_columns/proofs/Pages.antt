-- The pages of a dictionary's column, by those of its keys.
use Rattle.std.proofs.Common.{◌≡◌, ◌⊎◌, inl, inr, ℕ, Bool, true, false, cond, Option, Some, None, List, [], ◌∷◌, ◌++◌, map, All, refl, arith, ap, sym, subst}
use Rattle.std.specs.Prelude.{flat_map, pos, negsuc, ℤ, slice_get, ◌||◌, ◌==◌, if◌then◌else◌}
use Rattle.std.proofs.lemmas.Bool.Decides.{eqb_tells}
use Rattle.std.specs.List.{AllZip}
use Rattle.std.proofs.lemmas.List.{length-map}
use Rattle.std.proofs.lemmas.List.Elements.{filter_map-append, All-nil, All-cons}
use Rattle.columns_base.specs.declared.error.Error.TheVariants.{NotYetImplemented}
use Rattle.columns_base.specs.declared.error.N.TheVariants.{N4}
use Rattle.shredding.specs.Shape.{LeafType}
use Rattle.shredding.specs.Shred.{Triple}
use Rattle.shredding.specs.Slot.{Value}
use Rattle.pq_files.specs.Chunk.{IsData, IsPageIn, Page, RawPage}
use Rattle.pq_files.specs.Indices.{IsIndexed}
use Rattle.pq_files.specs.Page.{Encoding, plain, dictionary, delta, delta_length, HasEncoding, encoding_numbered, IsSpelled, IsSplit, Sections, values_in}
use Rattle.pq_files.specs.PageReasons.{IsOutside, IsRead, ShowsPairs}
use Rattle.pq_files.specs.Prefixes.{BeginsValues}
use Rattle.pq_files.specs.RowReasons.{ReadsTriples, without_value}
use Rattle.pq_files.proofs.PageOnce.{encoding_same}
use Rattle.pq_numbers.specs.Texts.{Begins}
use Rattle.pq_pages.specs.Held.{ArePagesIn}
use Rattle.pq_pages.specs.Outcomes.{Levels, Outcome, gives_page, gives_dictionary, fails}
use Rattle.pq_tree.specs.Headers.{Header, data_page, data_page_2, dictionary_page}
use Rattle.pq_tree.specs.Physical.{Physical, boolean}
use Rattle.pq_tree.specs.Tree.{Leaf, max_definition}
use Rattle.dictionary_columns.specs.Keys.{with_value}
use Rattle.dictionary_columns.specs.Sources.{has_indices, is_indices, keyed_outcome}
use Rattle.dictionary_columns.proofs.Looked.{Looks, beside, indexed-forth, page-forth, runs-back, runs-forth, split-back, split-forth}
use Rattle.dictionary_columns.proofs.Triples.{present-with, values-with, without-with}

-- ---- what can be read of a page
pub shows-forth : (l : Leaf) (p : Physical) (raw : RawPage) (ts : List Triple) → ShowsPairs (beside l p) raw ts → ShowsPairs l raw ts
shows-forth l p raw ts s = record {
  runs = runs-forth l p raw.header s.runs;
  sections = s.sections;
  split = split-forth l p raw.header raw.body s.sections s.split;
  repetitions = s.repetitions;
  definitions = s.definitions;
  none = s.none;
  few = s.few;
}

pub shows-back : (l : Leaf) (p : Physical) (raw : RawPage) (ts : List Triple) → ShowsPairs l raw ts → ShowsPairs (beside l p) raw ts
shows-back l p raw ts s = record {
  runs = runs-back l p raw.header s.runs;
  sections = s.sections;
  split = split-back l p raw.header raw.body s.sections s.split;
  repetitions = s.repetitions;
  definitions = s.definitions;
  none = s.none;
  few = s.few;
}

-- with other values
abbrev shows-with : (l : Leaf) (p : Physical) (f : Value → Value) (raw : RawPage) (ts : List Triple) → ShowsPairs (beside l p) raw (map without_value ts) → ShowsPairs l raw (map without_value (map (with_value f) ts))
shows-with l p f raw ts s = record {
  runs = runs-forth l p raw.header s.runs;
  sections = s.sections;
  split = split-forth l p raw.header raw.body s.sections s.split;
  repetitions = rw (without-with f ts) s.repetitions;
  definitions = rw (without-with f ts) s.definitions;
  none = rw (without-with f ts) s.none;
  few = rw (without-with f ts) s.few;
}

-- entries at indices
pub zip-inside : (P : Value → Type 0) (es : List Value) (ns : List ℕ) (vs : List Value) → ((i : ℕ) (v : Value) → slice_get es i ≡ Some v → P v) → AllZip (λ n v. slice_get es n ≡ Some v) ns vs → All P vs
zip-inside P es ns [] h a = All-nil P
zip-inside P es [] (v ∷ vs) h a = absurd a
zip-inside P es (n ∷ ns) (v ∷ vs) h a = All-cons P v vs (h n v a.0) (zip-inside P es ns vs h a.1)

begins-forth : (l : Leaf) (p : Physical) (keys es : List Value) (f : Value → Value) (e : Encoding) (n : ℕ) (section : List ℕ) (vs : List Value) → Looks keys es f → e ≡ dictionary → BeginsValues e (beside l p) (Some keys) n section vs → BeginsValues e l (Some es) n section (map f vs) × Begins (IsIndexed es) section (map f vs)
begins-forth l p keys es f e n section vs k same b =
    let own : BeginsValues dictionary (beside l p) (Some keys) n section vs = subst (λ (x : Encoding). BeginsValues x (beside l p) (Some keys) n section vs) same b in
    let forth = indexed-forth keys es f section vs k own.1 in
    let all : BeginsValues dictionary l (Some es) n section (map f vs) = (omega (arith, own.0, length-map vs f), forth) in
    (subst (λ (x : Encoding). BeginsValues x l (Some es) n section (map f vs)) (sym same) all, forth)

pub reads-forth : (t t' : LeafType) (l : Leaf) (p : Physical) (keys es : List Value) (f : Value → Value) (raw : RawPage) (ts : List Triple) → (l.physical ≡ boolean → ⊥) → Looks keys es f → HasEncoding raw.header dictionary → ((i : ℕ) (v : Value) → slice_get es i ≡ Some v → IsOutside t l.physical v → ⊥) → ReadsTriples t' (beside l p) (Some keys) raw ts → ReadsTriples t l (Some es) raw (map (with_value f) ts)
reads-forth t t' l p keys es f raw ts some k has inside r =
    let same : r.pairs.encoding ≡ dictionary = encoding_same raw.header r.pairs.encoding dictionary r.pairs.has_encoding has in
    let b = begins-forth l p keys es f r.pairs.encoding r.called r.pairs.shows.sections.values (values_in ts) k same r.begins in
    record {
      pairs = record {
        encoding = r.pairs.encoding;
        has_encoding = r.pairs.has_encoding;
        is_read = subst (IsRead l) (sym same) some;
        shows = shows-with l p f raw ts r.pairs.shows;
        begins_row = rw (without-with f ts) r.pairs.begins_row;
      };
      present = present-with f (max_definition l) ts r.present;
      called = r.called;
      calls = λ all h. r.calls all (shows-back l p raw all h.0, h.1);
      begins = rw (values-with f ts) b.0;
      inside = rw (values-with f ts) (zip-inside (λ v. IsOutside t l.physical v → ⊥) es b.1.spells.0 (map f (values_in ts)) inside b.1.spells.2);
    }

-- ---- the encoding
either : (a b : Bool) → (a || b) ≡ true → (a ≡ true) ⊎ (b ≡ true)
either true b h = inl refl
either false b h = inr h

told : (n m : ℕ) → (n == m) ≡ true → n ≡ m
told n m h = elim (eqb_tells n m) [
  | inl same ↦ same.1
  | inr other ↦ absurd (cc (h, other.0))
]

numbered : (n : ℕ) → ((n == 2) || (n == 8)) ≡ true → encoding_numbered (pos n) ≡ Some dictionary
numbered n h = elim (either (n == 2) (n == 8) h) [
  | inl two ↦ ap (λ (k : ℕ). encoding_numbered (pos k)) (told n 2 two)
  | inr eight ↦ ap (λ (k : ℕ). encoding_numbered (pos k)) (told n 8 eight)
]

abbrev named : Bool → Bool → Bool → Bool → Bool → Option Encoding
named a b c d e = if a then Some plain else if b then Some dictionary else if c then Some dictionary else if d then Some delta else if e then Some delta_length else None

not-named : (a b c d e : Bool) → (b || c) ≡ false → named a b c d e ≡ Some dictionary → ⊥
not-named true b c d e n h = cc h
not-named false true c d e n h = cc n
not-named false false true d e n h = cc n
not-named false false false true e n h = cc h
not-named false false false false true n h = cc h
not-named false false false false false n h = cc h

of-encoding : (z : ℤ) → is_indices z ≡ true → encoding_numbered z ≡ Some dictionary
of-encoding (pos n) h = numbered n h
of-encoding (negsuc n) h = absurd (cc h)

not-of-encoding : (z : ℤ) → is_indices z ≡ false → encoding_numbered z ≡ Some dictionary → ⊥
not-of-encoding (pos n) h e = not-named (n == 0) (n == 2) (n == 8) (n == 5) (n == 6) h e
not-of-encoding (negsuc n) h e = cc e

pub indexed : (h : Header) → IsData h → has_indices h ≡ true → HasEncoding h dictionary
indexed (data_page h) d e = of-encoding h.encoding e
indexed (data_page_2 h) d e = of-encoding h.encoding e
indexed (dictionary_page h) d e = absurd d

pub not-indexed : (h : Header) → has_indices h ≡ false → IsData h × (HasEncoding h dictionary → ⊥)
not-indexed (data_page h) e = (tt, not-of-encoding h.encoding e)
not-indexed (data_page_2 h) e = (tt, not-of-encoding h.encoding e)
not-indexed (dictionary_page h) e = absurd (cc e)

-- ---- pages one after another
abbrev pub entered_page : (Value → Value) → Page → Page
entered_page f q = record { header = q.header; triples = map (with_value f) q.triples }

pub is-data : (l : Leaf) (h : Header) (body : List ℕ) (s : Sections) → IsSplit l h body s → IsData h
is-data l (data_page h) body s x = tt
is-data l (data_page_2 h) body s x = tt
is-data l (dictionary_page h) body s x = absurd x

page-entered : (l : Leaf) (p : Physical) (keys es : List Value) (f : Value → Value) (raw : RawPage) (q : Page) → (l.physical ≡ boolean → ⊥) → Looks keys es f → has_indices raw.header ≡ true → IsPageIn (beside l p) (Some keys) raw q → IsPageIn l (Some es) raw (entered_page f q)
page-entered l p keys es f raw q some k h is = record {
  header = is.header;
  is = page-forth l p keys es f raw.header raw.body q.triples some k (indexed raw.header (is-data (beside l p) raw.header raw.body is.is.sections is.is.split) h) is.is;
}

-- what the pages of the keys hold that were taken, those of the column hold with the entries
pub record IsEntered (l : Leaf) (keys es : List Value) (f : Value → Value) (os left : List Outcome) (qs : List Page) : Type 0 where
  pub front : List Outcome
  pub behind : List Outcome
  pub parts : os ≡ front ++ behind
  pub left_are : map keyed_outcome behind ≡ left
  pub are : ArePagesIn l (Some es) front (map (entered_page f) qs)
  pub indices : List ℕ
  pub among : AllZip (λ n v. slice_get keys n ≡ Some v) indices (values_in (flat_map (λ q. q.triples) qs))

page-among : (l : Leaf) (p : Physical) (keys : List Value) (raw : RawPage) (q : Page) → has_indices raw.header ≡ true → IsPageIn (beside l p) (Some keys) raw q → (ns : List ℕ) × AllZip (λ n v. slice_get keys n ≡ Some v) ns (values_in q.triples)
page-among l p keys raw q h is =
    let i = is.is in
    let same = encoding_same raw.header i.encoding dictionary i.has_encoding (indexed raw.header (is-data (beside l p) raw.header raw.body i.sections i.split) h) in
    let b : Begins (IsSpelled dictionary (beside l p) (Some keys)) i.sections.values (values_in q.triples) = subst (λ (x : Encoding). Begins (IsSpelled x (beside l p) (Some keys)) i.sections.values (values_in q.triples)) same i.values in
    (b.spells.1.0, b.spells.1.2)

zip-both : (keys : List Value) (ms ns : List ℕ) (us vs : List Value) → AllZip (λ n v. slice_get keys n ≡ Some v) ms us → AllZip (λ n v. slice_get keys n ≡ Some v) ns vs → AllZip (λ n v. slice_get keys n ≡ Some v) (ms ++ ns) (us ++ vs)
zip-both keys [] ns [] vs a b = b
zip-both keys [] ns (u ∷ us) vs a b = absurd a
zip-both keys (m ∷ ms) ns [] vs a b = absurd a
zip-both keys (m ∷ ms) ns (u ∷ us) vs a b = (a.0, zip-both keys ms ns us vs a.1 b)

one-entered : (l : Leaf) (p : Physical) (keys es : List Value) (f : Value → Value) (raw : RawPage) (levels : Levels) (os taken left : List Outcome) (x : Outcome) (qs : List Page) (b : Bool) → (l.physical ≡ boolean → ⊥) → Looks keys es f → has_indices raw.header ≡ b →
    cond b (gives_page raw levels) (fails (NotYetImplemented N4)) ≡ x → ArePagesIn (beside l p) (Some keys) (x ∷ taken) qs → ((rest : List Page) → ArePagesIn (beside l p) (Some keys) taken rest → IsEntered l keys es f os left rest) → IsEntered l keys es f (gives_page raw levels ∷ os) left qs
one-entered l p keys es f raw levels os taken left x qs false some k h e a rest = absurd (subst (λ (y : Outcome). ArePagesIn (beside l p) (Some keys) (y ∷ taken) qs) (sym e) a)
one-entered l p keys es f raw levels os taken left x [] true some k h e a rest = absurd (subst (λ (y : Outcome). ArePagesIn (beside l p) (Some keys) (y ∷ taken) []) (sym e) a)
one-entered l p keys es f raw levels os taken left x (q ∷ qs) true some k h e a rest =
    let own = subst (λ (y : Outcome). ArePagesIn (beside l p) (Some keys) (y ∷ taken) (q ∷ qs)) (sym e) a in
    let r = rest qs own.1 in
    let one = page-among l p keys raw q h own.0 in
    record {
      front = gives_page raw levels ∷ r.front;
      behind = r.behind;
      parts = ap (λ (xs : List Outcome). gives_page raw levels ∷ xs) r.parts;
      left_are = r.left_are;
      are = (page-entered l p keys es f raw q some k h own.0, r.are);
      indices = one.0 ++ r.indices;
      among = rw (filter_map-append (λ (t : Triple). t.value) q.triples (flat_map (λ x. x.triples) qs)) (zip-both keys one.0 r.indices (values_in q.triples) (values_in (flat_map (λ x. x.triples) qs)) one.1 r.among);
    }

pub pages-entered : (l : Leaf) (p : Physical) (keys es : List Value) (f : Value → Value) (os taken left : List Outcome) (qs : List Page) → (l.physical ≡ boolean → ⊥) → Looks keys es f → map keyed_outcome os ≡ taken ++ left → ArePagesIn (beside l p) (Some keys) taken qs → IsEntered l keys es f os left qs
pages-entered l p keys es f os [] left [] some k e a = record { front = []; behind = os; parts = refl; left_are = e; are = tt; indices = []; among = tt }
pages-entered l p keys es f os [] left (q ∷ qs) some k e a = absurd a
pages-entered l p keys es f [] (x ∷ taken) left qs some k e a = absurd (cc e)
pages-entered l p keys es f (gives_page raw levels ∷ os) (x ∷ taken) left qs some k e a =
    let head : keyed_outcome (gives_page raw levels) ≡ x = cc e in
    let tail : map keyed_outcome os ≡ taken ++ left = cc e in
    one-entered l p keys es f raw levels os taken left x qs (has_indices raw.header) some k refl head a (λ rest own. pages-entered l p keys es f os taken left rest some k tail own)
pages-entered l p keys es f (gives_dictionary n body ∷ os) (x ∷ taken) left qs some k e a =
    let head : gives_dictionary n body ≡ x = cc e in
    absurd (subst (λ (y : Outcome). ArePagesIn (beside l p) (Some keys) (y ∷ taken) qs) (sym head) a)
pages-entered l p keys es f (fails z ∷ os) (x ∷ taken) left qs some k e a =
    let head : fails z ≡ x = cc e in
    absurd (subst (λ (y : Outcome). ArePagesIn (beside l p) (Some keys) (y ∷ taken) qs) (sym head) a)
