-- Indices of two lists of entries, and pages by them.
use Rattle.std.proofs.Common.{◌≡◌, ℕ, Some, List, [], ◌∷◌, map, refl, sym, subst, ◌∙◌}
use Rattle.std.specs.Prelude.{slice_get}
use Rattle.std.specs.List.{AllZip}
use Rattle.std.proofs.lemmas.List.{length-map}
use Rattle.shredding.specs.Shred.{Triple}
use Rattle.shredding.specs.Slot.{Value}
use Rattle.pq_files.specs.Indices.{IsIndexed}
use Rattle.pq_files.specs.Page.{Encoding, dictionary, HasEncoding, IsCounted, IsPage, IsSpelled, IsSplit, LevelsAreRuns, Sections, values_in}
use Rattle.pq_files.proofs.PageOnce.{encoding_same}
use Rattle.pq_tree.specs.Headers.{Header, data_page, data_page_2, dictionary_page}
use Rattle.pq_numbers.specs.Texts.{Begins}
use Rattle.pq_tree.specs.Physical.{Physical, boolean}
use Rattle.pq_tree.specs.Tree.{Leaf, max_definition}
use Rattle.dictionary_columns.specs.Keys.{with_value}
use Rattle.dictionary_columns.proofs.Triples.{begins-with, begins-without, defs-with, present-with, present-without, refilled, reps-with, rows-with, values-with}

-- Both lists are as long, and the entry of one at each place tells that of the other.
pub record Looks (keys es : List Value) (f : Value → Value) : Type 0 where
  pub forth : (i : ℕ) (k : Value) → slice_get keys i ≡ Some k → slice_get es i ≡ Some (f k)
  pub back : (i : ℕ) (e : Value) → slice_get es i ≡ Some e → (k : Value) × (slice_get keys i ≡ Some k) × (f k ≡ e)

-- ---- indices
zip-forth : (keys es : List Value) (f : Value → Value) (ns : List ℕ) (vs : List Value) → Looks keys es f → AllZip (λ n v. slice_get keys n ≡ Some v) ns vs → AllZip (λ n v. slice_get es n ≡ Some v) ns (map f vs)
zip-forth keys es f [] [] l a = tt
zip-forth keys es f [] (v ∷ vs) l a = absurd a
zip-forth keys es f (n ∷ ns) [] l a = absurd a
zip-forth keys es f (n ∷ ns) (v ∷ vs) l a = (l.forth n v a.0, zip-forth keys es f ns vs l a.1)

record Backward (keys : List Value) (f : Value → Value) (ns : List ℕ) (vs : List Value) : Type 0 where
  own : List Value
  are : AllZip (λ n v. slice_get keys n ≡ Some v) ns own
  same : map f own ≡ vs

zip-back : (keys es : List Value) (f : Value → Value) (ns : List ℕ) (vs : List Value) → Looks keys es f → AllZip (λ n v. slice_get es n ≡ Some v) ns vs → Backward keys f ns vs
zip-back keys es f [] [] l a = record { own = []; are = tt; same = refl }
zip-back keys es f [] (v ∷ vs) l a = absurd a
zip-back keys es f (n ∷ ns) [] l a = absurd a
zip-back keys es f (n ∷ ns) (v ∷ vs) l a =
    let r = zip-back keys es f ns vs l a.1 in
    let b = l.back n v a.0 in
    record { own = b.0 ∷ r.own; are = (b.1, r.are); same = cc (b.2, r.same) }

pub indexed-forth : (keys es : List Value) (f : Value → Value) (section : List ℕ) (vs : List Value) → Looks keys es f → Begins (IsIndexed keys) section vs → Begins (IsIndexed es) section (map f vs)
indexed-forth keys es f section vs l b = record { text = b.text; rest = b.rest; parts = b.parts; spells = (b.spells.0, b.spells.1, zip-forth keys es f b.spells.0 vs l b.spells.2) }

-- ---- pages

-- the leaf of the keys: it has the same levels
abbrev pub beside : Leaf → Physical → Leaf
beside l p = record { path = l.path; physical = p }

pub split-forth : (l : Leaf) (p : Physical) (h : Header) (body : List ℕ) (s : Sections) → IsSplit (beside l p) h body s → IsSplit l h body s
split-forth l p (data_page h) body s x = record { behind = x.behind; repetition = x.repetition; definition = x.definition }
split-forth l p (data_page_2 h) body s x = x
split-forth l p (dictionary_page h) body s x = x

pub split-back : (l : Leaf) (p : Physical) (h : Header) (body : List ℕ) (s : Sections) → IsSplit l h body s → IsSplit (beside l p) h body s
split-back l p (data_page h) body s x = record { behind = x.behind; repetition = x.repetition; definition = x.definition }
split-back l p (data_page_2 h) body s x = x
split-back l p (dictionary_page h) body s x = x

pub runs-forth : (l : Leaf) (p : Physical) (h : Header) → LevelsAreRuns (beside l p) h → LevelsAreRuns l h
runs-forth l p (data_page h) x = x
runs-forth l p (data_page_2 h) x = x
runs-forth l p (dictionary_page h) x = x

pub runs-back : (l : Leaf) (p : Physical) (h : Header) → LevelsAreRuns l h → LevelsAreRuns (beside l p) h
runs-back l p (data_page h) x = x
runs-back l p (data_page_2 h) x = x
runs-back l p (dictionary_page h) x = x

counted-forth : (h : Header) (f : Value → Value) (ts : List Triple) → IsCounted h ts → IsCounted h (map (with_value f) ts)
counted-forth (data_page h) f ts c = c ∙ sym (length-map ts (with_value f))
counted-forth (data_page_2 h) f ts c = (c.0 ∙ sym (length-map ts (with_value f)), c.1 ∙ sym (rows-with f ts))
counted-forth (dictionary_page h) f ts c = c

counted-back : (h : Header) (f : Value → Value) (ts : List Triple) → IsCounted h (map (with_value f) ts) → IsCounted h ts
counted-back (data_page h) f ts c = c ∙ length-map ts (with_value f)
counted-back (data_page_2 h) f ts c = (c.0 ∙ length-map ts (with_value f), c.1 ∙ rows-with f ts)
counted-back (dictionary_page h) f ts c = c

pub spelled-forth : (l : Leaf) (p : Physical) (keys es : List Value) (f : Value → Value) (e : Encoding) (section : List ℕ) (vs : List Value) → (l.physical ≡ boolean → ⊥) → Looks keys es f → e ≡ dictionary → Begins (IsSpelled e (beside l p) (Some keys)) section vs → Begins (IsSpelled e l (Some es)) section (map f vs)
spelled-forth l p keys es f e section vs some k same b =
    let own : Begins (IsSpelled dictionary (beside l p) (Some keys)) section vs = subst (λ (x : Encoding). Begins (IsSpelled x (beside l p) (Some keys)) section vs) same b in
    let i = own.spells.1 in
    let all : Begins (IsSpelled dictionary l (Some es)) section (map f vs) = record { text = own.text; rest = own.rest; parts = own.parts; spells = (some, (i.0, i.1, zip-forth keys es f i.0 vs k i.2)) } in
    subst (λ (x : Encoding). Begins (IsSpelled x l (Some es)) section (map f vs)) (sym same) all

pub page-forth : (l : Leaf) (p : Physical) (keys es : List Value) (f : Value → Value) (h : Header) (body : List ℕ) (ts : List Triple) → (l.physical ≡ boolean → ⊥) → Looks keys es f → HasEncoding h dictionary → IsPage (beside l p) (Some keys) h body ts → IsPage l (Some es) h body (map (with_value f) ts)
page-forth l p keys es f h body ts some k has is = record {
  sections = is.sections;
  split = split-forth l p h body is.sections is.split;
  runs = runs-forth l p h is.runs;
  repetitions = rw (reps-with f ts) is.repetitions;
  definitions = rw (defs-with f ts) is.definitions;
  present = present-with f (max_definition l) ts is.present;
  encoding = is.encoding;
  has_encoding = is.has_encoding;
  values = rw (values-with f ts) (spelled-forth l p keys es f is.encoding is.sections.values (values_in ts) some k (encoding_same h is.encoding dictionary is.has_encoding has) is.values);
  counted = counted-forth h f ts is.counted;
  begins_row = begins-with f ts is.begins_row;
}

-- the page of the keys of a page by a dictionary
pub record IsBack (l : Leaf) (p : Physical) (keys : List Value) (f : Value → Value) (h : Header) (body : List ℕ) (ts : List Triple) : Type 0 where
  pub triples : List Triple
  pub are : map (with_value f) triples ≡ ts
  pub is : IsPage (beside l p) (Some keys) h body triples
  pub indices : List ℕ
  pub among : AllZip (λ n v. slice_get keys n ≡ Some v) indices (values_in triples)

pub page-back : (l : Leaf) (p : Physical) (keys es : List Value) (f : Value → Value) (h : Header) (body : List ℕ) (ts : List Triple) → (p ≡ boolean → ⊥) → Looks keys es f → HasEncoding h dictionary → IsPage l (Some es) h body ts → IsBack l p keys f h body ts
page-back l p keys es f h body ts some k has is =
    let same = encoding_same h is.encoding dictionary is.has_encoding has in
    let b : Begins (IsSpelled dictionary l (Some es)) is.sections.values (values_in ts) = subst (λ (x : Encoding). Begins (IsSpelled x l (Some es)) is.sections.values (values_in ts)) same is.values in
    let i = b.spells.1 in
    let z = zip-back keys es f i.0 (values_in ts) k i.2 in
    let r = refilled f ts z.own z.same in
    let us = r.triples in
    let own : Begins (IsSpelled dictionary (beside l p) (Some keys)) is.sections.values (values_in us) = record { text = b.text; rest = b.rest; parts = b.parts; spells = (some, (i.0, i.1, rw r.values z.are)) } in
    record {
      triples = us;
      are = r.are;
      is = record {
        sections = is.sections;
        split = split-back l p h body is.sections is.split;
        runs = runs-back l p h is.runs;
        repetitions = rw (← reps-with f us, r.are) is.repetitions;
        definitions = rw (← defs-with f us, r.are) is.definitions;
        present = present-without f (max_definition l) us (rw r.are is.present);
        encoding = dictionary;
        has_encoding = has;
        values = own;
        counted = counted-back h f us (rw r.are is.counted);
        begins_row = begins-without f us (rw r.are is.begins_row);
      };
      indices = i.0;
      among = rw r.values z.are;
    }
