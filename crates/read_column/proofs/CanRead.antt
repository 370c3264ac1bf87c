-- What was taken of a column can be read of it, and each piece is a part of it.
use Rattle.std.proofs.Common.{◌≡◌, ◌⊎◌, inl, inr, ℕ, zero, suc, ◌+◌, ◌-◌, ◌*◌, ◌<◌, ◌≤◌, Bool, true, false, is_some, nat_eq, cond, Option, Some, None, List, [], ◌∷◌, ◌++◌, map, length, drop, All, refl, arith, ap, sym, ◌∙◌, append_assoc, append-nil, count_by}
use Rattle.std.proofs.lemmas.Bool.{cases_lt}
use Rattle.std.proofs.lemmas.List.{length-map, drop_at}
use Rattle.std.proofs.lemmas.List.Elements.{All-nil, All-cons, All-head, All-tail}
use Rattle.std.proofs.lemmas.List.Sums.{sum_by-cons}
use Rattle.columns_core.specs.Shapes.{leaf_type}
use Rattle.shredding.specs.Laws.{BeginsRow, first_rows}
use Rattle.shredding.specs.Shape.{LeafType}
use Rattle.shredding.specs.Shred.{Triple}
use Rattle.shredding.specs.Slot.{Value}
use Rattle.pq_files.specs.Chunk.{IsPageIn, Page, RawPage, count_in}
use Rattle.pq_files.specs.Levels.{HasLevels}
use Rattle.pq_files.specs.Page.{Encoding, delta, delta_length, HasEncoding, IsCounted, IsSplit, LevelsAreRuns, Sections, rows_in, values_in}
use Rattle.pq_files.specs.PageReasons.{HasPairs, IsOutside, IsRead, ShowsPairs, called_by}
use Rattle.pq_files.specs.Prefixes.{BeginsValues}
use Rattle.pq_files.specs.RowReasons.{ReadsTriples, without_value}
use Rattle.pq_files.specs.Stored.{AreStored}
use Rattle.pq_files.proofs.PageOnce.{encoding_same}
use Rattle.pq_files.proofs.Triples.{count_present, IsPresent}
use Rattle.pq_files.proofs.Unique.{every, levels_same, split_same}
use Rattle.pq_headline.specs.Columns.{ArrowColumn, is_alone, is_dictionary}
use Rattle.pq_headline.specs.FieldReasons.{IsNotReadIn, IsPieceOf, ReadsPages}
use Rattle.pq_headline.specs.Openings.{piece_size}
use Rattle.pq_pages.specs.Held.{ArePagesIn}
use Rattle.pq_pages.specs.Outcomes.{Levels, Outcome, gives_page, gives_dictionary, fails}
use Rattle.pq_tree.specs.Headers.{Header, data_page, data_page_2, dictionary_page}
use Rattle.pq_tree.specs.Physical.{Physical}
use Rattle.pq_tree.specs.Tree.{Leaf, max_definition, max_repetition}
use Rattle.read_pieces.specs.Columns.{rows_of_all}
use Rattle.read_column.specs.Deltas.{IsReadBy, deltas_in}
use Rattle.read_column.specs.Opened.{IsServed, IsServedPage}
use Rattle.read_column.specs.declared.deltas.Deltas.{Deltas}
use Rattle.read_column.specs.Reading.{stored_in}
use Rattle.read_column.specs.Taken.{AreSized}
use Rattle.read_column.proofs.Columns.{rows-sized}
use Rattle.read_column.proofs.Pages.{inside-stored}
use Rattle.read_column.proofs.Turned.{is-flat}
use Rattle.read_column.proofs.Values.{begins-values}
use Rattle.read_column.proofs.Ways.{rows-cons}

-- ---- triples without values
pub without-reps : (ts : List Triple) → map (λ t. t.repetition) (map without_value ts) ≡ map (λ t. t.repetition) ts
without-reps [] = refl
without-reps (t ∷ ts) = ap (λ (ns : List ℕ). t.repetition ∷ ns) (without-reps ts)

pub without-defs : (ts : List Triple) → map (λ t. t.definition) (map without_value ts) ≡ map (λ t. t.definition) ts
without-defs [] = refl
without-defs (t ∷ ts) = ap (λ (ns : List ℕ). t.definition ∷ ns) (without-defs ts)

pub none-without : (ts : List Triple) → All (λ t. t.value ≡ None) (map without_value ts)
none-without [] = All-nil (λ (t : Triple). t.value ≡ None)
none-without (t ∷ ts) = All-cons (λ (u : Triple). u.value ≡ None) (without_value t) (map without_value ts) refl (none-without ts)

begins-without : (ts : List Triple) → BeginsRow ts → BeginsRow (map without_value ts)
begins-without [] b = tt
begins-without (t ∷ ts) b = b

-- ---- what can be read of a page
abbrev pub shows-pairs : (l : Leaf) (p : RawPage) (s : Sections) (ts : List Triple) → LevelsAreRuns l p.header → IsSplit l p.header p.body s → HasLevels (max_repetition l) s.repetition (map (λ t. t.repetition) ts) → HasLevels (max_definition l) s.definition (map (λ t. t.definition) ts) → length ts ≤ count_in p.header → ShowsPairs l p (map without_value ts)
shows-pairs l p s ts runs split reps defs few = record {
  runs = runs;
  sections = s;
  split = split;
  repetitions = rw (without-reps ts) reps;
  definitions = rw (without-defs ts) defs;
  none = none-without ts;
  few = omega (arith, few, length-map ts without_value);
}

pub reads-triples : (t : LeafType) (l : Leaf) (es : Option (List Value)) (e : Encoding) (p : RawPage) (s : Sections) (ts : List Triple) (called : ℕ) →
    HasEncoding p.header e → LevelsAreRuns l p.header → IsSplit l p.header p.body s → HasLevels (max_repetition l) s.repetition (map (λ t. t.repetition) ts) → HasLevels (max_definition l) s.definition (map (λ t. t.definition) ts) → length ts ≤ count_in p.header → BeginsRow ts →
    All (λ x. is_some x.value ≡ nat_eq x.definition (max_definition l)) ts → ((all : List Triple) → HasPairs l p all → called ≡ called_by l all) → BeginsValues e l es called s.values (values_in ts) × IsRead l e → All (λ v. IsOutside t l.physical v → ⊥) (values_in ts) → ReadsTriples t l es p ts
reads-triples t l es e p s ts called encoded runs split reps defs few begins present calls spelled inside = record {
  pairs = record {
    encoding = e;
    has_encoding = encoded;
    is_read = spelled.1;
    shows = shows-pairs l p s ts runs split reps defs few;
    begins_row = begins-without ts begins;
  };
  present = present;
  called = called;
  calls = calls;
  begins = spelled.0;
  inside = inside;
}

pub called-defs : (m : ℕ) (ts : List Triple) → count_by (λ t. nat_eq t.definition m) ts ≡ count_by (λ d. nat_eq d m) (map (λ t. t.definition) ts)
called-defs m [] = refl
called-defs m (t ∷ ts) = sum_by-cons (λ (u : Triple). cond (nat_eq u.definition m) 1 0) t ts ∙ (ap (λ (n : ℕ). cond (nat_eq t.definition m) 1 0 + n) (called-defs m ts) ∙ sym (sum_by-cons (λ d. cond (nat_eq d m) 1 0) t.definition (map (λ u. u.definition) ts)))

-- all pairs of a page have these definition levels
pub calls-same : (l : Leaf) (p : RawPage) (s : Sections) (ts : List Triple) → IsSplit l p.header p.body s → HasLevels (max_definition l) s.definition (map (λ t. t.definition) ts) → length ts ≡ count_in p.header → (all : List Triple) → HasPairs l p all → called_by l ts ≡ called_by l all
calls-same l p s ts split defs size all has =
    let same = split_same l p.header p.body s has.0.sections split has.0.split in
    let sizes : length (map (λ (t : Triple). t.definition) ts) ≡ length (map (λ (t : Triple). t.definition) all) = length-map ts (λ (t : Triple). t.definition) ∙ (size ∙ (sym has.1 ∙ sym (length-map all (λ (t : Triple). t.definition)))) in
    let levels = levels_same (max_definition l) s.definition has.0.sections.definition (map (λ t. t.definition) ts) (map (λ t. t.definition) all) same.definition defs has.0.definitions sizes in
    called-defs (max_definition l) ts ∙ (ap (λ (ds : List ℕ). count_by (λ d. nat_eq d (max_definition l)) ds) levels ∙ sym (called-defs (max_definition l) all))

pub count-is : (h : Header) (ts : List Triple) → IsServed h → IsCounted h ts → length ts ≡ count_in h
count-is (data_page h) ts s c = sym c
count-is (data_page_2 h) ts s c = sym c.0
count-is (dictionary_page h) ts s c = absurd s.1

pub values-called : (l : Leaf) (ts : List Triple) → All (λ x. is_some x.value ≡ nat_eq x.definition (max_definition l)) ts → length (values_in ts) ≡ called_by l ts
values-called l ts present = count_present (max_definition l) ts (every (IsPresent (max_definition l)) ts present) ∙ sym (called-defs (max_definition l) ts)

pub whole-reads : (t : LeafType) (l : Leaf) (es : Option (List Value)) (p : RawPage) (q : Page) (ts : List Triple) → IsServed p.header → IsPageIn l es p q → AreStored t l.physical ts q.triples → ReadsTriples t l es p q.triples × (length q.triples ≡ count_in p.header)
whole-reads t l es p q ts served in-page stored =
    let is = in-page.is in
    let size = count-is p.header q.triples served is.counted in
    (reads-triples t l es is.encoding p is.sections q.triples (called_by l q.triples) is.has_encoding is.runs is.split is.repetitions is.definitions (omega (arith, size)) is.begins_row is.present (calls-same l p is.sections q.triples is.split is.definitions size) (begins-values is.encoding l es (called_by l q.triples) is.sections.values (values_in q.triples) (values-called l q.triples is.present) is.values) (inside-stored t l.physical ts q.triples stored), size)

-- ---- what can be read of a column
not-both : (b : Bool) → b ≡ true → b ≡ false → ⊥
not-both b t f = cc (t, f)

pub is-read : (c : ArrowColumn) (l : Leaf) (h : Header) (own : Bool) (k : Deltas) (e : Encoding) → is_dictionary c.data_type ≡ false → HasEncoding h e → IsReadBy own k e → k ≡ deltas_in (is_alone c.way) l.physical → IsNotReadIn c h → ⊥
is-read c l h own k e direct has read is (inl x) = not-both (is_dictionary c.data_type) x.0 direct
is-read c l h own k e direct has read is (inr x) = not-both (is_alone c.way) (is-flat own (is_alone c.way) k l.physical e (which x.1) is read) x.0
  where
    which : HasEncoding h delta ⊎ HasEncoding h delta_length → (e ≡ delta) ⊎ (e ≡ delta_length)
    which (inl d) = inl (encoding_same h e delta has d)
    which (inr d) = inr (encoding_same h e delta_length has d)

stored-cut : (t : LeafType) (p : Physical) (ts a b : List Triple) → AreStored t p ts (a ++ b) → (x : List Triple) × (y : List Triple) × AreStored t p x a × AreStored t p y b
stored-cut t p ts [] b s = ([], ts, tt, s)
stored-cut t p [] (z ∷ a) b s = absurd s
stored-cut t p (u ∷ ts) (z ∷ a) b s = let r = stored-cut t p ts a b s.1 in (u ∷ r.0, r.1, (s.0, r.2), r.3)

-- the pages taken, and the front of the next one
pub reads-more : (c : ArrowColumn) (l : Leaf) (es : Option (List Value)) (os left : List Outcome) (ps : List Page) (p : RawPage) (levels : Levels) (ts zs : List Triple) → ArePagesIn l es os ps → All (IsServedPage c) os → AreStored (leaf_type c.data_type) l.physical ts (stored_in ps) → IsServedPage c (gives_page p levels) → ReadsTriples (leaf_type c.data_type) l es p zs → ReadsPages c l es (os ++ gives_page p levels ∷ left) (stored_in ps ++ zs)
reads-more c l es [] left [] p levels ts zs a served s h reads = (h.1, inl reads)
reads-more c l es [] left (q ∷ ps) p levels ts zs a served s h reads = absurd a
reads-more c l es (gives_page r lv ∷ os) left [] p levels ts zs a served s h reads = absurd a
reads-more c l es (gives_page r lv ∷ os) left (q ∷ ps) p levels ts zs a served s h reads =
    let t = leaf_type c.data_type in
    let here = All-head (IsServedPage c) (gives_page r lv) os served in
    let cut = stored-cut t l.physical ts q.triples (stored_in ps) s in
    let whole = whole-reads t l es r q cut.0 here.0 a.0 cut.2 in
    (here.1, inr (q.triples, stored_in ps ++ zs, whole.0, whole.1, reads-more c l es os left ps p levels cut.1 zs a.1 (All-tail (IsServedPage c) (gives_page r lv) os served) cut.3 h reads, append_assoc q.triples (stored_in ps) zs))
reads-more c l es (gives_dictionary n body ∷ os) left ps p levels ts zs a served s h reads = absurd a
reads-more c l es (fails e ∷ os) left ps p levels ts zs a served s h reads = absurd a

-- the pages taken, of which there is one
pub reads-taken : (c : ArrowColumn) (l : Leaf) (es : Option (List Value)) (os left : List Outcome) (ps : List Page) (ts : List Triple) → ArePagesIn l es os ps → All (IsServedPage c) os → AreStored (leaf_type c.data_type) l.physical ts (stored_in ps) → 0 < length os → ReadsPages c l es (os ++ left) (stored_in ps)
reads-taken c l es [] left ps ts a served s some = absurd (omega (arith, some))
reads-taken c l es (gives_page r lv ∷ os) left [] ts a served s some = absurd a
reads-taken c l es (gives_page r lv ∷ []) left (q ∷ []) ts a served s some =
    let t = leaf_type c.data_type in
    let here = All-head (IsServedPage c) (gives_page r lv) [] served in
    let cut = stored-cut t l.physical ts q.triples [] s in
    (here.1, inl (rw (append-nil q.triples) (whole-reads t l es r q cut.0 here.0 a.0 cut.2).0))
reads-taken c l es (gives_page r lv ∷ []) left (q ∷ x ∷ ps) ts a served s some = absurd a.1
reads-taken c l es (gives_page r lv ∷ o ∷ os) left (q ∷ ps) ts a served s some =
    let t = leaf_type c.data_type in
    let here = All-head (IsServedPage c) (gives_page r lv) (o ∷ os) served in
    let cut = stored-cut t l.physical ts q.triples (stored_in ps) s in
    let whole = whole-reads t l es r q cut.0 here.0 a.0 cut.2 in
    (here.1, inr (q.triples, stored_in ps, whole.0, whole.1, reads-taken c l es (o ∷ os) left ps cut.1 a.1 (All-tail (IsServedPage c) (gives_page r lv) (o ∷ os) served) cut.3 (omega arith), refl))
reads-taken c l es (gives_dictionary n body ∷ os) left ps ts a served s some = absurd a
reads-taken c l es (fails e ∷ os) left ps ts a served s some = absurd a

-- ---- parts of a column
starts : (t : Triple) → (nat_eq t.repetition 0 ≡ true) ⊎ (nat_eq t.repetition 0 ≡ false)
starts t = either (nat_eq t.repetition 0)
  where
    either : (b : Bool) → (b ≡ true) ⊎ (b ≡ false)
    either true = inl refl
    either false = inr refl

rows-start : (t : Triple) (ts : List Triple) → nat_eq t.repetition 0 ≡ true → rows_in (t ∷ ts) ≡ 1 + rows_in ts
rows-start t ts e = rows-cons t ts ∙ ap (λ (b : Bool). cond b 1 0 + rows_in ts) e

rows-more : (t : Triple) (ts : List Triple) → nat_eq t.repetition 0 ≡ false → rows_in (t ∷ ts) ≡ 0 + rows_in ts
rows-more t ts e = rows-cons t ts ∙ ap (λ (b : Bool). cond b 1 0 + rows_in ts) e

pub first-front : (k : ℕ) (a d : List Triple) → rows_in a ≡ k → BeginsRow d → first_rows k (a ++ d) ≡ a
first-front zero [] [] e b = refl
first-front zero [] (t ∷ d) e b = rw b refl
first-front (suc k) [] d e b = absurd (omega (arith, e))
first-front zero (t ∷ a) d e b = elim (starts t) [
  | inl s ↦ absurd (omega (arith, e, rows-start t a s))
  | inr s ↦ rw s (ap (λ ts. t ∷ ts) (first-front zero a d (omega (arith, e, rows-more t a s)) b))
]
first-front (suc k) (t ∷ a) d e b = elim (starts t) [
  | inl s ↦ rw s (ap (λ ts. t ∷ ts) (first-front k a d (omega (arith, e, rows-start t a s)) b))
  | inr s ↦ rw s (ap (λ ts. t ∷ ts) (first-front (suc k) a d (omega (arith, e, rows-more t a s)) b))
]

pub first-all : (k : ℕ) (a : List Triple) → rows_in a ≤ k → first_rows k a ≡ a
first-all k [] e = refl
first-all zero (t ∷ a) e = elim (starts t) [
  | inl s ↦ absurd (omega (arith, e, rows-start t a s))
  | inr s ↦ rw s (ap (λ ts. t ∷ ts) (first-all zero a (omega (arith, e, rows-more t a s))))
]
first-all (suc k) (t ∷ a) e = elim (starts t) [
  | inl s ↦ rw s (ap (λ ts. t ∷ ts) (first-all k a (omega (arith, e, rows-start t a s))))
  | inr s ↦ rw s (ap (λ ts. t ∷ ts) (first-all (suc k) a (omega (arith, e, rows-more t a s))))
]

no-rows : (ts : List Triple) → BeginsRow ts → rows_in ts ≤ 0 → ts ≡ []
no-rows [] b n = refl
no-rows (t ∷ ts) b n = absurd (let one : ◌≡◌ {A = ℕ} (cond (nat_eq t.repetition 0) 1 0) 1 = rw b refl in omega (arith, n, rows-cons t ts, one))

full-pieces : (n left mid : ℕ) (pieces : List (List Triple)) → AreSized (Some n) left pieces mid → 0 < mid → rows_of_all pieces ≡ length pieces * n
full-pieces n left mid [] s some = omega arith
full-pieces n left mid (ts ∷ pieces) s some =
    let rest = full-pieces n (left - rows_in ts) mid pieces s.3 some in
    let all = rows-sized (Some n) (left - rows_in ts) mid pieces s.3 in
    let one : rows_in ts ≡ n = omega (arith, s.0, all, some) in
    omega (arith, sum_by-cons rows_in ts pieces, one, rest, suc-times n (length pieces))
  where
    suc-times : (n k : ℕ) → suc k * n ≡ n + k * n
    suc-times n k = grind arith

no-pieces : (left mid : ℕ) (pieces : List (List Triple)) → AreSized None left pieces mid → 0 < mid → rows_of_all pieces ≡ 0
no-pieces left mid [] s some = refl
no-pieces left mid (ts ∷ pieces) s some = absurd (omega (arith, s.0, rows-sized None (left - rows_in ts) mid pieces s.3, some))

pub piece-of : (n : Option ℕ) (left mid : ℕ) (pieces : List (List Triple)) (a b c : List Triple) → AreSized n left pieces mid → rows_in a ≡ rows_of_all pieces → 0 < mid → rows_in b + rows_in c ≤ mid → (rows_in b ≡ piece_size n mid) ⊎ (c ≡ []) → rows_in b ≤ piece_size n mid → BeginsRow a → BeginsRow (b ++ c) → BeginsRow c → IsPieceOf n (a ++ (b ++ c)) b
piece-of None left mid pieces a b c s count some all full few begins-a begins begins-c =
    let a-is : a ≡ [] = no-rows a begins-a (omega (arith, count, no-pieces left mid pieces s some)) in
    let c-is : c ≡ [] = elim full [ inl e ↦ no-rows c begins-c (omega (arith, e, all)) | inr e ↦ e ] in
    rw (a-is, c-is) (sym (append-nil b))
piece-of (Some n) left mid pieces a b c s count some all full few begins-a begins begins-c =
    let whole = a ++ (b ++ c) in
    let front : first_rows (length pieces * n) whole ≡ a = first-front (length pieces * n) a (b ++ c) (count ∙ full-pieces n left mid pieces s some) begins in
    let behind : drop (length (first_rows (length pieces * n) whole)) whole ≡ b ++ c = ap (λ (xs : List Triple). drop (length xs) whole) front ∙ drop_at a (b ++ c) (length a) refl in
    let own : first_rows n (b ++ c) ≡ b = elim full [
      | inl e ↦ elim (cases_lt mid n) [
        | inl less ↦ (let c-is : c ≡ [] = no-rows c begins-c (omega (arith, e, all, less)) in rw (c-is, append-nil b) (first-all n b (omega (arith, e))))
        | inr more ↦ first-front n b c (omega (arith, e, more)) begins-c
      ]
      | inr e ↦ rw (e, append-nil b) (first-all n b (omega (arith, few)))
    ] in
    (length pieces, sym (ap (first_rows n) behind ∙ own))
