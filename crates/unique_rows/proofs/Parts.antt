-- What can be read of a column is the front of its triples: by their levels, whatever is read of their values.
use Rattle.std.proofs.Common.{◌≡◌, ◌≤◌, ℕ, List, [], ◌∷◌, ◌++◌, length, map, flat_map, take, drop, take-append-drop, append_assoc, Option, None, refl, sym, ap, subst, ◌∙◌, inl, inr, arith}
use Rattle.std.proofs.lemmas.List.{length-map, map-append, take-map, take_all}
use Rattle.std.specs.List.{AllZip}
use Rattle.columns_core.specs.Shapes.{leaf_type}
use Rattle.shredding.specs.Shape.{LeafType}
use Rattle.shredding.specs.Shred.{Triple}
use Rattle.shredding.specs.Slot.{Value}
use Rattle.pq_metadata.proofs.Injective.{cons_same}
use Rattle.pq_tree.specs.Tree.{Leaf, max_definition, max_repetition}
use Rattle.pq_files.proofs.Unique.{split_same}
use Rattle.pq_files.specs.Chunk.{IsPageIn, Page, RawPage, count_in}
use Rattle.pq_files.specs.Levels.{HasLevels}
use Rattle.pq_files.specs.RowReasons.{ReadsTriples, without_value}
use Rattle.pq_pages.specs.Outcomes.{Levels, Outcome, gives_page}
use Rattle.pq_headline.specs.Columns.{ArrowColumn}
use Rattle.pq_headline.specs.FieldReasons.{ReadsColumn, ReadsFront, ReadsPages}
use Rattle.unique_rows.proofs.Fronts.{same_front}
use Rattle.unique_rows.proofs.Given.{AreGiven, counted_as}

-- ---- a page

pub bare : {A : Type 0} (f : Triple → A) → ((t : Triple) → f (without_value t) ≡ f t) → (ts : List Triple) → map f (map without_value ts) ≡ map f ts
bare f h [] = refl
bare f h (t ∷ ts) = ap (λ x. x ∷ map f (map without_value ts)) (h t) ∙ ap (λ xs. f t ∷ xs) (bare f h ts)

-- what is read has the levels of the first triples
pub record HasLevelsOf (ts us : List Triple) : Type 0 where
  pub few : length ts ≤ length us
  pub repetitions : map (λ t. t.repetition) ts ≡ map (λ t. t.repetition) (take (length ts) us)
  pub definitions : map (λ t. t.definition) ts ≡ map (λ t. t.definition) (take (length ts) us)

pub page_levels : (t : LeafType) (l : Leaf) (raw : RawPage) (q : Page) (ts : List Triple) → IsPageIn l None raw q → ReadsTriples t l None raw ts → HasLevelsOf ts q.triples
page_levels t l raw q ts h r =
    let shows = r.pairs.shows in
    let same = split_same l raw.header raw.body shows.sections h.is.sections shows.split h.is.split in
    let size : length q.triples ≡ count_in raw.header = counted_as raw.header h.is.encoding q.triples h.is.has_encoding h.is.counted in
    let few : length ts ≤ length q.triples = omega (arith, size, shows.few, length-map ts without_value) in
    let repetition : Triple → ℕ = λ x. x.repetition in
    let definition : Triple → ℕ = λ x. x.definition in
    let reps : HasLevels (max_repetition l) shows.sections.repetition (map repetition ts) = subst (λ (xs : List ℕ). HasLevels (max_repetition l) shows.sections.repetition xs) (bare repetition (λ x. refl) ts) shows.repetitions in
    let defs : HasLevels (max_definition l) shows.sections.definition (map definition ts) = subst (λ (xs : List ℕ). HasLevels (max_definition l) shows.sections.definition xs) (bare definition (λ x. refl) ts) shows.definitions in
    let first = same_front (max_repetition l) shows.sections.repetition h.is.sections.repetition (map repetition ts) (map repetition q.triples) same.repetition reps h.is.repetitions (omega (arith, few, length-map ts repetition, length-map q.triples repetition)) in
    let second = same_front (max_definition l) shows.sections.definition h.is.sections.definition (map definition ts) (map definition q.triples) same.definition defs h.is.definitions (omega (arith, few, length-map ts definition, length-map q.triples definition)) in
    record {
      few = few;
      repetitions = first ∙ ap (λ (n : ℕ). take n (map repetition q.triples)) (length-map ts repetition) ∙ take-map repetition (length ts) q.triples;
      definitions = second ∙ ap (λ (n : ℕ). take n (map definition q.triples)) (length-map ts definition) ∙ take-map definition (length ts) q.triples;
    }

-- ---- by a view of triples

-- a page's triples that can be read are seen as its first ones
abbrev pub PageFront : (Triple → Triple) → LeafType → Leaf → Type 0
PageFront f t l = (raw : RawPage) (q : Page) (ts : List Triple) → IsPageIn l None raw q → ReadsTriples t l None raw ts → (length ts ≤ length q.triples) × (map f ts ≡ map f (take (length ts) q.triples))

without_same : (ts us : List Triple) → map (λ t. t.repetition) ts ≡ map (λ t. t.repetition) us → map (λ t. t.definition) ts ≡ map (λ t. t.definition) us → map without_value ts ≡ map without_value us
without_same [] [] r d = refl
without_same [] (u ∷ us) r d = absurd (cc r)
without_same (t ∷ ts) [] r d = absurd (cc r)
without_same (t ∷ ts) (u ∷ us) r d =
    let rs = cons_same t.repetition u.repetition (map (λ x. x.repetition) ts) (map (λ x. x.repetition) us) r in
    let ds = cons_same t.definition u.definition (map (λ x. x.definition) ts) (map (λ x. x.definition) us) d in
    let one : without_value t ≡ without_value u = λ i. record { repetition = rs.0 i; definition = ds.0 i; value = None } in
    ap (λ x. x ∷ map without_value ts) one ∙ ap (λ xs. without_value u ∷ xs) (without_same ts us rs.1 ds.1)

pub levels_of_page : (t : LeafType) (l : Leaf) → PageFront without_value t l
levels_of_page t l raw q ts h r =
    let x = page_levels t l raw q ts h r in
    (x.few, without_same ts (take (length ts) q.triples) x.repetitions x.definitions)

-- ---- a column

pub record IsFrontOf (f : Triple → Triple) (ts all : List Triple) : Type 0 where
  pub rest : List Triple
  pub parts : map f all ≡ map f ts ++ map f rest

abbrev given_pages : Levels → List RawPage → List Outcome
given_pages levels raws = map (λ p. gives_page p levels) raws

part_read : (f : Triple → Triple) (ts first more : List Triple) → map f ts ≡ map f (take (length ts) first) → IsFrontOf f ts (first ++ more)
part_read f ts first more e = record {
  rest = drop (length ts) first ++ more;
  parts =
      map-append f first more
      ∙ ap (λ xs. map f xs ++ map f more) (sym (take-append-drop (length ts) first))
      ∙ ap (λ xs. xs ++ map f more) (map-append f (take (length ts) first) (drop (length ts) first) ∙ ap (λ xs. xs ++ map f (drop (length ts) first)) (sym e))
      ∙ append_assoc (map f ts) (map f (drop (length ts) first)) (map f more)
      ∙ ap (λ xs. map f ts ++ xs) (sym (map-append f (drop (length ts) first) more));
}

whole_read : (f : Triple → Triple) (first page others more : List Triple) → length first ≡ length page → map f first ≡ map f (take (length first) page) → IsFrontOf f others more → IsFrontOf f (first ++ others) (page ++ more)
whole_read f first page others more n e g =
    let all : take (length first) page ≡ page = take_all (length first) page (omega (arith, n)) in
    record {
      rest = g.rest;
      parts =
          map-append f page more ∙ ap (λ xs. xs ++ map f more) (sym (e ∙ ap (map f) all)) ∙ ap (λ xs. map f first ++ xs) g.parts
          ∙ sym (append_assoc (map f first) (map f others) (map f g.rest)) ∙ ap (λ xs. xs ++ map f g.rest) (sym (map-append f first others));
    }

pages_read : (f : Triple → Triple) (c : ArrowColumn) (l : Leaf) (levels : Levels) → PageFront f (leaf_type c.data_type) l → (raws : List RawPage) (pages : List Page) (ts : List Triple)
    → AllZip (IsPageIn l None) raws pages → ReadsPages c l None (given_pages levels raws) ts → IsFrontOf f ts (flat_map (λ p. p.triples) pages)
pages_read f c l levels front [] [] ts h r = record { rest = []; parts = ap (λ xs. map f xs ++ []) (sym r) }
pages_read f c l levels front [] (q ∷ qs) ts h r = absurd h
pages_read f c l levels front (raw ∷ raws) [] ts h r = absurd h
pages_read f c l levels front (raw ∷ raws) (q ∷ qs) ts h (ok, inl x) = part_read f ts q.triples (flat_map (λ p. p.triples) qs) (front raw q ts h.0 x).1
pages_read f c l levels front (raw ∷ raws) (q ∷ qs) ts h (ok, inr x) =
    let size : length x.0 ≡ length q.triples = x.3 ∙ sym (counted_as raw.header h.0.is.encoding q.triples h.0.is.has_encoding h.0.is.counted) in
    subst (λ (us : List Triple). IsFrontOf f us (q.triples ++ flat_map (λ p. p.triples) qs)) (sym x.5)
    (whole_read f x.0 q.triples x.1 (flat_map (λ p. p.triples) qs) size (front raw q x.0 h.0 x.2).1 (pages_read f c l levels front raws qs x.1 h.1 x.4))

-- no dictionary page stands in front
no_front : (c : ArrowColumn) (l : Leaf) (levels : Levels) (raws : List RawPage) (entries : Option (List Value)) (rest : List Outcome) → ReadsFront c l (given_pages levels raws) entries rest → (entries ≡ None) × (rest ≡ given_pages levels raws)
no_front c l levels [] entries rest h = h
no_front c l levels (raw ∷ raws) entries rest h = h

pub column_read : (f : Triple → Triple) (c : ArrowColumn) (l : Leaf) (levels : Levels) (outcomes : List Outcome) (pages : List Page) (entries : Option (List Value)) (ts : List Triple)
    → PageFront f (leaf_type c.data_type) l → AreGiven l levels outcomes pages → ReadsColumn c l outcomes entries ts → (entries ≡ None) × IsFrontOf f ts (flat_map (λ p. p.triples) pages)
column_read f c l levels outcomes pages entries ts front g r =
    let begins : ReadsFront c l (given_pages levels g.raws) entries r.behind = subst (λ (os : List Outcome). ReadsFront c l os entries r.behind) g.are r.front in
    let none = no_front c l levels g.raws entries r.behind begins in
    let read : ReadsPages c l None (given_pages levels g.raws) ts = subst (λ (d : Option (List Value)). ReadsPages c l d (given_pages levels g.raws) ts) none.0 (subst (λ (os : List Outcome). ReadsPages c l entries os ts) none.1 r.pages) in
    (none.0, pages_read f c l levels front g.raws pages ts g.hold read)
