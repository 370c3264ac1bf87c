-- A page that was taken is one of the column.
use Rattle.std.proofs.Common.{◌≡◌, ℕ, suc, ◌+◌, ◌≤◌, Bool, is_some, nat_eq, Option, Some, None, Ok, List, [], ◌∷◌, ◌++◌, map, length, take, All, refl, arith, ap, sym, subst, ◌∙◌, length-append, cond}
use Rattle.std.specs.List.{AllZip, cons_option}
use Rattle.std.proofs.lemmas.List.{length-map, take_at}
use Rattle.std.proofs.lemmas.List.Elements.{All-nil, All-cons, All-head, All-tail}
use Rattle.shredding.specs.Laws.{BeginsRow}
use Rattle.shredding.specs.Local.{IsWithin}
use Rattle.shredding.specs.Shape.{LeafType, Way}
use Rattle.shredding.specs.Shred.{Triple, max_definition as way_definition}
use Rattle.shredding.specs.Slot.{Value}
use Rattle.pq_files.specs.Chunk.{IsPageIn, Page, RawPage, count_in}
use Rattle.pq_files.specs.Levels.{HasLevels}
use Rattle.pq_files.specs.Page.{IsCounted, IsSpelled, Sections, LevelsAreRuns, rows_in, values_in}
use Rattle.pq_files.specs.PageReasons.{IsOutside}
use Rattle.pq_files.specs.Plain.{IsPlain}
use Rattle.pq_files.specs.Stored.{AreStored, IsStored, IsStoredOption}
use Rattle.pq_headline.specs.Openings.{leaf_levels}
use Rattle.pq_numbers.specs.Texts.{Begins}
use Rattle.pq_pages.specs.Outcomes.{Levels}
use Rattle.pq_runs.proofs.Sound.{is_spelled}
use Rattle.pq_tree.specs.Headers.{Header, data_page, data_page_2, dictionary_page}
use Rattle.pq_tree.specs.Physical.{Physical}
use Rattle.pq_tree.specs.Tree.{Leaf, max_definition, max_repetition}
use Rattle.read_pieces.specs.Leaves.{IsLoaded, ReadsPlain, in_bytes}
use Rattle.read_walk.specs.Gives.{given}
use Rattle.read_walk.specs.Pairs.{Item, Pair, pair_items}
use Rattle.read_walk.specs.Spelled.{NoneAbove}
use Rattle.read_walk.specs.Values.{Stored}
use Rattle.read_walk.specs.Walk.{pair_of, values_of}
use Rattle.read_walk.proofs.Grammar.{from-pairs}
use Rattle.read_column.specs.Deltas.{deltas_in, present_in}
use Rattle.read_column.specs.Dictionary.{AreTextsOf, Means}
use Rattle.read_column.specs.Opened.{ArePairsOf, IsServed, SayRuns, StatesRows}
use Rattle.read_column.specs.Reading.{HasItems}
use Rattle.read_column.proofs.Present.{pairs-stored, present-values}
use Rattle.read_column.proofs.Values.{holds-values}
use Rattle.read_column.proofs.Ways.{rows-cons}
use Rattle.read_column.proofs.Widths.{has-width}

-- ---- values
given-in : (o : Option Value) (os : List (Option Value)) → given (o ∷ os) ≡ cons_option o (given os)
given-in None os = refl
given-in (Some v) os = refl

pub values-same : (ts : List Triple) → values_of ts ≡ values_in ts
values-same [] = refl
values-same (t ∷ ts) = given-in t.value (map (λ u. u.value) ts) ∙ ap (cons_option t.value) (values-same ts)

loaded-stored : (t : LeafType) (p : Physical) (vs ss : List Value) → AllZip (IsLoaded t p) (map Some vs) ss → AllZip (IsStored t p) vs ss
loaded-stored t p [] [] a = tt
loaded-stored t p [] (s ∷ ss) a = absurd a
loaded-stored t p (v ∷ vs) [] a = absurd a
loaded-stored t p (v ∷ vs) (s ∷ ss) a = (a.0, loaded-stored t p vs ss a.1)

length-zip : {A B : Type 0} (R : A → B → Type 0) (xs : List A) (ys : List B) → AllZip R xs ys → length xs ≡ length ys
length-zip R [] [] a = refl
length-zip R [] (y ∷ ys) a = absurd a
length-zip R (x ∷ xs) [] a = absurd a
length-zip R (x ∷ xs) (y ∷ ys) a = ap suc (length-zip R xs ys a.1)

-- the stored values of what was read
pub record AreSpelled (t : LeafType) (p : Physical) (text : List ℕ) (vs : List Value) : Type 0 where
  pub stored : List Value
  pub begins : Begins (IsPlain p) text stored
  pub are : AllZip (IsStored t p) vs stored
  pub size : length vs ≡ length stored

pub spelled-values : (t : LeafType) (p : Physical) (stored : List ℕ → List Stored) (text : List ℕ) (vs : List Value) (rest : List Stored) → ReadsPlain t p stored → stored text ≡ map Some vs ++ rest → AreSpelled t p text vs
spelled-values t p stored text vs rest r e =
    let n : length (map {B = Stored} Some vs) ≡ length vs = length-map vs Some in
    let s = r.spelled text (length vs) (omega (arith, ap length e, length-append (map {B = Stored} Some vs) rest, n)) in
    let front : take (length vs) (stored text) ≡ map Some vs = ap (take (length vs)) e ∙ take_at (map Some vs) rest (length vs) n in
    let are : AllZip (IsStored t p) vs s.0 = loaded-stored t p vs s.0 (rw front at s.2) in
    record { stored = s.0; begins = s.1; are = are; size = length-zip (IsStored t p) vs s.0 are }

-- triples with their stored values
pub record ArePut (t : LeafType) (p : Physical) (ts : List Triple) (ss : List Value) : Type 0 where
  pub triples : List Triple
  pub are : AreStored t p ts triples
  pub values : values_in triples ≡ ss

put-one : (t : LeafType) (p : Physical) (r d : ℕ) (o : Option Value) (ts : List Triple) (ss : List Value) → ((us : List Value) → AllZip (IsStored t p) (values_of ts) us → ArePut t p ts us) → AllZip (IsStored t p) (given (o ∷ map (λ u. u.value) ts)) ss → ArePut t p (record { repetition = r; definition = d; value = o } ∷ ts) ss
put-one t p r d None ts ss more a =
    let rest = more ss a in
    record { triples = record { repetition = r; definition = d; value = None } ∷ rest.triples; are = (record { repetition = refl; definition = refl; «value» = tt }, rest.are); values = rest.values }
put-one t p r d (Some v) ts [] more a = absurd a
put-one t p r d (Some v) ts (s ∷ ss) more a =
    let rest = more ss a.1 in
    record { triples = record { repetition = r; definition = d; value = Some s } ∷ rest.triples; are = (record { repetition = refl; definition = refl; «value» = a.0 }, rest.are); values = ap (λ (vs : List Value). s ∷ vs) rest.values }

pub stored-put : (t : LeafType) (p : Physical) (ts : List Triple) (ss : List Value) → AllZip (IsStored t p) (values_of ts) ss → ArePut t p ts ss
stored-put t p [] [] a = record { triples = []; are = tt; values = refl }
stored-put t p [] (s ∷ ss) a = absurd a
stored-put t p (u ∷ ts) ss a = put-one t p u.repetition u.definition u.value ts ss (stored-put t p ts) a

-- ---- stored triples have the levels of their triples
pub reps-stored : (t : LeafType) (p : Physical) (ts zs : List Triple) → AreStored t p ts zs → map (λ z. z.repetition) zs ≡ map (λ u. u.repetition) ts
reps-stored t p [] [] a = refl
reps-stored t p [] (z ∷ zs) a = absurd a
reps-stored t p (u ∷ ts) [] a = absurd a
reps-stored t p (u ∷ ts) (z ∷ zs) a = ap (λ (n : ℕ). n ∷ map (λ (x : Triple). x.repetition) zs) a.0.repetition ∙ ap (λ (ns : List ℕ). u.repetition ∷ ns) (reps-stored t p ts zs a.1)

pub defs-stored : (t : LeafType) (p : Physical) (ts zs : List Triple) → AreStored t p ts zs → map (λ z. z.definition) zs ≡ map (λ u. u.definition) ts
defs-stored t p [] [] a = refl
defs-stored t p [] (z ∷ zs) a = absurd a
defs-stored t p (u ∷ ts) [] a = absurd a
defs-stored t p (u ∷ ts) (z ∷ zs) a = ap (λ (n : ℕ). n ∷ map (λ (x : Triple). x.definition) zs) a.0.definition ∙ ap (λ (ns : List ℕ). u.definition ∷ ns) (defs-stored t p ts zs a.1)

pub rows-stored : (t : LeafType) (p : Physical) (xs zs : List Triple) → AreStored t p xs zs → rows_in zs ≡ rows_in xs
rows-stored t p [] [] a = refl
rows-stored t p [] (z ∷ zs) a = absurd a
rows-stored t p (x ∷ xs) [] a = absurd a
rows-stored t p (x ∷ xs) (z ∷ zs) a = rows-cons z zs ∙ (ap (λ (n : ℕ). cond (nat_eq n 0) 1 0 + rows_in zs) a.0.repetition ∙ (ap (λ (n : ℕ). cond (nat_eq x.repetition 0) 1 0 + n) (rows-stored t p xs zs a.1) ∙ sym (rows-cons x xs)))

pub is-some-stored : (t : LeafType) (p : Physical) (v s : Option Value) → IsStoredOption t p v s → is_some s ≡ is_some v
is-some-stored t p None None a = refl
is-some-stored t p (Some v) (Some s) a = refl
is-some-stored t p None (Some s) a = absurd a
is-some-stored t p (Some v) None a = absurd a

pub present-stored : (t : LeafType) (p : Physical) (w : Way) (top : ℕ) (ts zs : List Triple) → way_definition w ≡ top → AreStored t p ts zs → All (IsWithin w) ts → All (λ z. is_some z.value ≡ nat_eq z.definition top) zs
present-stored t p w top [] [] e a h = All-nil (λ (z : Triple). is_some z.value ≡ nat_eq z.definition top)
present-stored t p w top [] (z ∷ zs) e a h = absurd a
present-stored t p w top (u ∷ ts) [] e a h = absurd a
present-stored t p w top (u ∷ ts) (z ∷ zs) e a h =
    All-cons (λ (x : Triple). is_some x.value ≡ nat_eq x.definition top) z zs (is-some-stored t p u.value z.value a.0.«value» ∙ ((All-head (IsWithin w) u ts h).present ∙ (ap (nat_eq u.definition) e ∙ ap (λ (d : ℕ). nat_eq d top) (sym a.0.definition)))) (present-stored t p w top ts zs e a.1 (All-tail (IsWithin w) u ts h))

-- none of the stored values is outside of the leaf type
inside-one : (t : LeafType) (p : Physical) (v s : Option Value) (vs : List Value) → IsStoredOption t p v s → All (λ x. IsOutside t p x → ⊥) vs → All (λ x. IsOutside t p x → ⊥) (cons_option s vs)
inside-one t p None None vs a h = h
inside-one t p (Some v) (Some s) vs a h = All-cons (λ x. IsOutside t p x → ⊥) s vs (λ out. out v a) h
inside-one t p None (Some s) vs a h = absurd a
inside-one t p (Some v) None vs a h = absurd a

pub inside-stored : (t : LeafType) (p : Physical) (ts zs : List Triple) → AreStored t p ts zs → All (λ x. IsOutside t p x → ⊥) (values_in zs)
inside-stored t p [] [] a = All-nil (λ x. IsOutside t p x → ⊥)
inside-stored t p [] (z ∷ zs) a = absurd a
inside-stored t p (u ∷ ts) [] a = absurd a
inside-stored t p (u ∷ ts) (z ∷ zs) a = inside-one t p u.value z.value (values_in zs) a.0.«value» (inside-stored t p ts zs a.1)

-- ---- levels
pub above-all : (max : ℕ) (xs : List ℕ) → NoneAbove max xs → All (λ x. x ≤ max) xs
unfolding NoneAbove
above-all max [] a = All-nil (λ x. x ≤ max)
above-all max (x ∷ xs) a = All-cons (λ y. y ≤ max) x xs a.0 (above-all max xs a.1)

pub pairs-of : (ts : List Triple) → pair_items (map (λ t. t.repetition) ts) (map (λ t. t.definition) ts) ≡ map Ok (map pair_of ts)
pairs-of [] = refl
pairs-of (t ∷ ts) = ap (λ (is : List Item). Ok (pair_of t) ∷ is) (pairs-of ts)

pub record HasBoth (s : Sections) (repetition definition n : ℕ) (ts : List Triple) : Type 0 where
  pub count : length ts ≡ n
  pub repetitions : HasLevels repetition s.repetition (map (λ t. t.repetition) ts)
  pub definitions : HasLevels definition s.definition (map (λ t. t.definition) ts)

pub whole-levels : (s : Sections) (r d n : ℕ) (items : List Item) (ts : List Triple) → ArePairsOf s r d n items → items ≡ map Ok (map pair_of ts) → HasBoth s r d n ts
whole-levels s r d n items ts are e =
    let reps = map (λ (t : Triple). t.repetition) ts in
    let defs = map (λ (t : Triple). t.definition) ts in
    let v = has-width r in
    let w = has-width d in
    let same : length reps ≡ length defs = length-map ts (λ (t : Triple). t.repetition) ∙ sym (length-map ts (λ (t : Triple). t.definition)) in
    let both = from-pairs r d _ _ reps defs same (sym (are v.0 w.0 v.1 w.1) ∙ (e ∙ sym (pairs-of ts))) in
    let rs = is_spelled v.0 n s.repetition reps both.reps in
    let ds = is_spelled w.0 n s.definition defs both.defs in
    record {
      count = sym (length-map ts (λ (t : Triple). t.repetition)) ∙ rs.count;
      repetitions = record { width = v.0; is_width = v.1; runs = rs.begins; within = above-all r reps both.few };
      definitions = record { width = w.0; is_width = w.1; runs = ds.begins; within = above-all d defs both.low };
    }

-- ---- the page
pub runs-of : (l : Leaf) (levels : Levels) (h : Header) → levels ≡ leaf_levels l → SayRuns levels h → LevelsAreRuns l h
runs-of l levels (data_page h) e s = rw e at s
runs-of l levels (data_page_2 h) e s = tt
runs-of l levels (dictionary_page h) e s = tt

is-counted : (h : Header) (ts : List Triple) → IsServed h → count_in h ≡ length ts → StatesRows h (rows_in ts) → IsCounted h ts
is-counted (data_page h) ts s e r = e
is-counted (data_page_2 h) ts s e r = (e, r)
is-counted (dictionary_page h) ts s e r = absurd s.1

-- and back: what the header states of the rows
pub counts-rows : (h : Header) (ts : List Triple) → IsCounted h ts → StatesRows h (rows_in ts)
counts-rows (data_page h) ts c = tt
counts-rows (data_page_2 h) ts c = c.1
counts-rows (dictionary_page h) ts c = tt

pub record IsTakenPage (t : LeafType) (l : Leaf) (es : Option (List Value)) (p : RawPage) (ts : List Triple) : Type 0 where
  pub page : Page
  pub is : IsPageIn l es p page
  pub stored : AreStored t l.physical ts page.triples

-- values stand in some of the triples
few-more : (o : Option Value) (vs : List Value) (n : ℕ) → length vs ≤ n → length (cons_option o vs) ≤ suc n
few-more None vs n h = omega (arith, h)
few-more (Some v) vs n h = omega (arith, h)

pub values-few : (ts : List Triple) → length (values_in ts) ≤ length ts
values-few [] = omega arith
values-few (t ∷ ts) = few-more t.value (values_in ts) (length ts) (values-few ts)

pub taken-page : (t : LeafType) (l : Leaf) (w : Way) (stored : List ℕ → List Stored) (d : Means) (es : Option (List Value)) (flat : Bool) (p : RawPage) (levels : Levels) (items : List Item) (values : List ℕ) (ts : List Triple) (rest : List Stored) →
    ReadsPlain t l.physical stored → AreTextsOf stored l.physical d.entries es → d.deltas ≡ deltas_in flat l.physical → levels ≡ leaf_levels l → max_definition l ≡ way_definition w → HasItems (in_bytes stored) d p levels items values → items ≡ map Ok (map pair_of ts) → stored values ≡ map Some (values_of ts) ++ rest → All (IsWithin w) ts → BeginsRow ts → StatesRows p.header (rows_in ts) → IsTakenPage t l es p ts
taken-page t l w stored d es flat p levels items values ts rest plainly texts deltas of-leaf top has pairs e within begins rows =
    let o = has.opened in
    let s = has.sections in
    let spelled = spelled-values t l.physical stored values (values_of ts) rest plainly e in
    let put = stored-put t l.physical ts spelled.stored spelled.are in
    let zs = put.triples in
    let levels-are = whole-levels s has.repetition has.definition has.n items ts has.are pairs in
    let rep : has.repetition ≡ max_repetition l = o.repetitions ∙ ap (λ (x : Levels). x.repetition) of-leaf in
    let def : has.definition ≡ max_definition l = o.definitions ∙ ap (λ (x : Levels). x.definition) of-leaf in
    let size : length zs ≡ length ts = sym (length-map zs (λ (z : Triple). z.repetition)) ∙ (ap length (reps-stored t l.physical ts zs put.are) ∙ length-map ts (λ (u : Triple). u.repetition)) in
    let called : length spelled.stored ≤ count_in p.header = omega (arith, ap length (sym put.values), values-few zs, size, levels-are.count, o.count) in
    let there = present-stored t l.physical w (max_definition l) ts zs (sym top) put.are within in
    let count : length spelled.stored ≡ present_in has.definition items = ap length (sym put.values) ∙ (sym (present-values (max_definition l) zs there) ∙ (ap (λ (ps : List Pair). present_in (max_definition l) (map Ok ps)) (pairs-stored t l.physical ts zs put.are) ∙ (ap (present_in (max_definition l)) (sym pairs) ∙ ap (λ (n : ℕ). present_in n items) (sym def)))) in
    let begins-here : Begins (IsSpelled has.encoding l es) s.values spelled.stored = (holds-values t l stored d es flat has.encoding (count_in p.header) (present_in has.definition items) s.values values spelled.stored plainly texts deltas o.read has.bytes called count).1 spelled.begins in
    record {
      page = record { header = p.header; triples = zs };
      is = record {
        header = refl;
        is = record {
          sections = s;
          split = o.split l (sym (ap (λ (x : Levels). x.repetition) of-leaf)) (sym (ap (λ (x : Levels). x.definition) of-leaf));
          runs = runs-of l levels p.header of-leaf o.runs;
          repetitions = rw (reps-stored t l.physical ts zs put.are, ← rep) levels-are.repetitions;
          definitions = rw (defs-stored t l.physical ts zs put.are, ← def) levels-are.definitions;
          present = there;
          encoding = has.encoding;
          has_encoding = o.encoding;
          values = rw put.values begins-here;
          counted = is-counted p.header zs (has.encoding, o.encoding) (sym o.count ∙ (sym levels-are.count ∙ sym size)) (subst (StatesRows p.header) (sym (rows-stored t l.physical ts zs put.are)) rows);
          begins_row = begins-zs t l.physical ts zs put.are begins;
        };
      };
      stored = put.are;
    }
  where
    begins-zs : (t : LeafType) (p : Physical) (xs zs : List Triple) → AreStored t p xs zs → BeginsRow xs → BeginsRow zs
    begins-zs t p xs [] a b = tt
    begins-zs t p [] (z ∷ zs) a b = absurd a
    begins-zs t p (x ∷ xs) (z ∷ zs) a b = a.0.repetition ∙ b
