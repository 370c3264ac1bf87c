-- What can be read of a page that is taken in part, and the piece that it makes too long.
use Rattle.std.proofs.Common.{◌≡◌, ◌⊎◌, inl, inr, ℕ, ◌+◌, ◌-◌, ◌<◌, ◌≤◌, Bool, true, false, is_some, nat_eq, cond, Option, Some, None, Ok, Err, List, [], ◌∷◌, ◌++◌, map, length, All, refl, arith, ap, sym, subst, ◌∙◌, append_assoc, append-nil, count_by}
use Rattle.std.proofs.lemmas.Bool.Decides.{leb_tells}
use Rattle.std.proofs.lemmas.List.{length-map, map-append}
use Rattle.std.proofs.lemmas.List.Elements.{All-nil, All-append, All-cons, All-head, All-tail, All-weaker}
use Rattle.std.proofs.lemmas.List.Sums.{sum_by-cons}
use Rattle.columns_core.specs.Shapes.{leaf_type}
use Rattle.shredding.specs.Along.{thin}
use Rattle.shredding.specs.Laws.{BeginsRow}
use Rattle.shredding.specs.Local.{IsWithin}
use Rattle.shredding.specs.Shape.{LeafType, Way}
use Rattle.shredding.specs.Shred.{Triple, max_definition as way_definition}
use Rattle.pq_files.specs.Chunk.{RawPage, count_in}
use Rattle.pq_files.specs.Levels.{HasLevels as FileLevels}
use Rattle.pq_files.specs.Page.{Sections, delta, rows_in, values_in}
use Rattle.pq_files.specs.PageReasons.{GoesOn, HasPairs}
use Rattle.pq_files.specs.Plain.{IsPlain}
use Rattle.pq_files.specs.RowReasons.{ReadsTriples}
use Rattle.pq_files.specs.Stored.{AreStored}
use Rattle.pq_files.proofs.Unique.{split_same}
use Rattle.pq_headline.specs.Columns.{is_alone}
use Rattle.pq_headline.specs.FieldReasons.{IsPieceOf, PassesLists, PassesOffsets, PassesTexts, ReadsFront}
use Rattle.pq_headline.specs.Openings.{leaf_levels, piece_size}
use Rattle.pq_pages.specs.Outcomes.{Levels, Outcome, gives_page}
use Rattle.pq_runs.specs.Hybrid.{given, hybrid}
use Rattle.pq_runs.specs.Hybrid.{Item as LevelItem}
use Rattle.pq_runs.proofs.Sound.{is_spelled}
use Rattle.pq_tree.specs.Physical.{Physical}
use Rattle.pq_tree.specs.Tree.{Leaf, max_definition, max_repetition}
use Rattle.read_items.specs.Items.{ItemsAreCounted}
use Rattle.read_laws.specs.Block.{Mark, walk}
use Rattle.read_laws.specs.Blocks.{mark_of}
use Rattle.read_laws.specs.State.{Kept, count, kept_way}
use Rattle.read_pieces.specs.Columns.{ColumnOpening, rows_of_all}
use Rattle.read_pieces.specs.Leaves.{ReadsPlain, in_bytes}
use Rattle.read_pieces.specs.Pieces.{empty_state}
use Rattle.read_state.specs.Kinds.{HasLongItems}
use Rattle.read_walk.specs.Gives.{called}
use Rattle.read_walk.specs.Pairs.{Pair, Item, is_within, up_to_maxima, zip_items}
use Rattle.read_walk.specs.Values.{Stored, AreTooLong, bytes_of}
use Rattle.read_walk.specs.Walk.{AreWanted, GrowsTooLong, begun, mark_pair, pair_of, values_of}
use Rattle.read_walk.proofs.Grammar.{pairs-read}
use Rattle.read_walk.proofs.Walking.{begun-append, marks-pairs, values-append, walk-append}
use Rattle.pq_numbers.specs.Texts.{Begins}
use Rattle.shredding.specs.Slot.{Value}
use Rattle.read_column.specs.Deltas.{IsReadBy, deltas_in, present_in}
use Rattle.read_column.specs.Dictionary.{AreTextsOf, HasValues, Means}
use Rattle.read_column.specs.Opened.{ArePairsOf, first_goes_on}
use Rattle.read_column.specs.Queues.{Waiting}
use Rattle.read_column.specs.Reading.{HasItems, IsReading, reading, stored_in}
use Rattle.read_column.specs.Taken.{joined, AreSized, BeginsPair, TakesPairs}
use Rattle.read_column.proofs.CanRead.{called-defs, is-read, piece-of, reads-more, reads-triples, shows-pairs, values-called}
use Rattle.read_column.proofs.Columns.{begins-stored, front-on, rows-joined, stored-both, stored-parts}
use Rattle.read_column.proofs.Foreseen.{levels-as, values-stored}
use Rattle.read_column.proofs.Fronts.{hybrid-front}
use Rattle.read_column.proofs.Pages.{defs-stored, inside-stored, is-some-stored, pairs-of, reps-stored, rows-stored, runs-of, spelled-values, stored-put, values-few}
use Rattle.read_column.proofs.Passes.{call-for, filled, lists-pass, not-long, texts-pass}
use Rattle.read_column.proofs.Readings.{begins-joined}
use Rattle.read_column.proofs.Taking.{begins-append, begins-taken, bytes-append, joined-append, lt-holds, ok-append, piece-few, rows-piece, some-append}
use Rattle.read_column.proofs.Turned.{is-flat, of-numbers}
use Rattle.read_column.proofs.Values.{part-values}
use Rattle.read_column.proofs.Ways.{begun-pairs, definition-thin, rows-append}
use Rattle.read_column.proofs.Widths.{has-width}

-- ---- levels
record ZipFront (mr md : ℕ) (xs ys : List LevelItem) (ts : List Triple) : Type 0 where
  more-reps : List LevelItem
  more-defs : List LevelItem
  reps : xs ≡ given (map (λ t. t.repetition) ts) ++ more-reps
  defs : ys ≡ given (map (λ t. t.definition) ts) ++ more-defs
  few : All (λ n. n ≤ mr) (map (λ t. t.repetition) ts)
  low : All (λ n. n ≤ md) (map (λ t. t.definition) ts)

within-both : (mr md r d : ℕ) → is_within mr md (r, d) ≡ true → (r ≤ mr) × (d ≤ md)
within-both mr md r d e = elim (leb_tells r mr) [
  | inl h ↦ elim (leb_tells d md) [
    | inl k ↦ (h.1, k.1)
    | inr k ↦ absurd (let f = rw (h.0, k.0) at e in cc)
  ]
  | inr h ↦ absurd (let f = rw h.0 at e in cc)
]

zip-one : (mr md r d : ℕ) (is : List Item) (t : Triple) (rest : List Item) (b : Bool) → is_within mr md (r, d) ≡ b → up_to_maxima mr md (Ok (r, d) ∷ is) ≡ Ok (pair_of t) ∷ rest → (b ≡ true) × (r ≡ t.repetition) × (d ≡ t.definition) × (up_to_maxima mr md is ≡ rest)
zip-one mr md r d is t rest true e h =
    let k : ◌≡◌ {A = List Item} (Ok (r, d) ∷ up_to_maxima mr md is) (Ok (pair_of t) ∷ rest) = rw e at h in
    let same : (r, d) ≡ pair_of t = cc in
    let tails : up_to_maxima mr md is ≡ rest = cc in
    (refl, ap (λ (p : ℕ × ℕ). p.0) same, ap (λ (p : ℕ × ℕ). p.1) same, tails)
zip-one mr md r d is t rest false e h = absurd (let k = rw e at h in cc)

zip-front : (mr md : ℕ) (xs ys : List LevelItem) (ts : List Triple) (rest : List Item) → up_to_maxima mr md (zip_items xs ys) ≡ map Ok (map pair_of ts) ++ rest → ZipFront mr md xs ys ts
zip-front mr md xs ys [] rest e = record { more-reps = xs; more-defs = ys; reps = refl; defs = refl; few = All-nil (λ n. n ≤ mr); low = All-nil (λ n. n ≤ md) }
zip-front mr md [] [] (t ∷ ts) rest e = absurd (cc)
zip-front mr md [] (y ∷ ys) (t ∷ ts) rest e = absurd (cc)
zip-front mr md (Err x ∷ xs) [] (t ∷ ts) rest e = absurd (cc)
zip-front mr md (Err x ∷ xs) (y ∷ ys) (t ∷ ts) rest e = absurd (cc)
zip-front mr md (Ok x ∷ xs) [] (t ∷ ts) rest e = absurd (cc)
zip-front mr md (Ok x ∷ xs) (Err y ∷ ys) (t ∷ ts) rest e = absurd (cc)
zip-front mr md (Ok x ∷ xs) (Ok y ∷ ys) (t ∷ ts) rest e =
    let one = zip-one mr md x y (zip_items xs ys) t (map Ok (map pair_of ts) ++ rest) (is_within mr md (x, y)) refl e in
    let both = within-both mr md x y one.0 in
    let more = zip-front mr md xs ys ts rest one.3 in
    record {
      more-reps = more.more-reps;
      more-defs = more.more-defs;
      reps = ap (λ (n : ℕ). Ok n ∷ xs) one.1 ∙ ap (λ (is : List LevelItem). Ok t.repetition ∷ is) more.reps;
      defs = ap (λ (n : ℕ). Ok n ∷ ys) one.2 ∙ ap (λ (is : List LevelItem). Ok t.definition ∷ is) more.defs;
      few = All-cons (λ n. n ≤ mr) t.repetition (map (λ u. u.repetition) ts) (omega (arith, both.0, one.1)) more.few;
      low = All-cons (λ n. n ≤ md) t.definition (map (λ u. u.definition) ts) (omega (arith, both.1, one.2)) more.low;
    }

pub record HasFront (s : Sections) (r d n : ℕ) (ts : List Triple) : Type 0 where
  pub few : length ts ≤ n
  pub repetitions : FileLevels r s.repetition (map (λ t. t.repetition) ts)
  pub definitions : FileLevels d s.definition (map (λ t. t.definition) ts)

pub front-levels : (s : Sections) (r d n : ℕ) (items : List Item) (ts : List Triple) (rest : List Item) → ArePairsOf s r d n items → items ≡ map Ok (map pair_of ts) ++ rest → HasFront s r d n ts
front-levels s r d n items ts rest are e =
    let v = has-width r in
    let w = has-width d in
    let reps = map (λ (t : Triple). t.repetition) ts in
    let defs = map (λ (t : Triple). t.definition) ts in
    let z = zip-front r d (hybrid v.0 n s.repetition) (hybrid w.0 n s.definition) ts rest (sym (are v.0 w.0 v.1 w.1) ∙ e) in
    let a = hybrid-front v.0 n s.repetition reps z.more-reps z.reps in
    let b = hybrid-front w.0 n s.definition defs z.more-defs z.defs in
    let x = is_spelled v.0 (length reps) s.repetition reps a.are in
    let y = is_spelled w.0 (length defs) s.definition defs b.are in
    record {
      few = omega (arith, a.few, length-map ts (λ (t : Triple). t.repetition));
      repetitions = record { width = v.0; is_width = v.1; runs = x.begins; within = z.few };
      definitions = record { width = w.0; is_width = w.1; runs = y.begins; within = z.low };
    }

-- ---- how many values all pairs of a page call for
called-some : (m : ℕ) (ts : List Triple) (rest : List Item) → count_by (λ t. nat_eq t.definition m) ts ≤ present_in m (map Ok (map pair_of ts) ++ rest)
called-some m [] rest = omega arith
called-some m (t ∷ ts) rest = omega (arith, sum_by-cons (λ (u : Triple). cond (nat_eq u.definition m) 1 0) t ts, called-some m ts rest)

called-all : (m : ℕ) (ts : List Triple) → present_in m (map Ok (map pair_of ts)) ≡ count_by (λ t. nat_eq t.definition m) ts
called-all m [] = refl
called-all m (t ∷ ts) = ap (λ (n : ℕ). cond (nat_eq t.definition m) 1 0 + n) (called-all m ts) ∙ sym (sum_by-cons (λ (u : Triple). cond (nat_eq u.definition m) 1 0) t ts)

-- all pairs of a page, where it has them, are its items
items-of-all : (own : Bool) (d : Means) (l : Leaf) (p : RawPage) (levels : Levels) (items : List Item) (values : List ℕ) (all : List Triple) → levels ≡ leaf_levels l → HasItems own d p levels items values → HasPairs l p all → items ≡ map Ok (map pair_of all)
items-of-all own d l p levels items values all of-leaf has pairs =
    let o = has.opened in
    let reps = map (λ (u : Triple). u.repetition) all in
    let defs = map (λ (u : Triple). u.definition) all in
    let rep : has.repetition ≡ max_repetition l = o.repetitions ∙ ap (λ (x : Levels). x.repetition) of-leaf in
    let def : has.definition ≡ max_definition l = o.definitions ∙ ap (λ (x : Levels). x.definition) of-leaf in
    let split = o.split l (sym (ap (λ (x : Levels). x.repetition) of-leaf)) (sym (ap (λ (x : Levels). x.definition) of-leaf)) in
    let same = split_same l p.header p.body pairs.0.sections has.sections pairs.0.split split in
    let v = has-width has.repetition in
    let d = has-width has.definition in
    let size : length all ≡ has.n = pairs.1 ∙ sym o.count in
    let rs : FileLevels has.repetition has.sections.repetition reps = rw (rep, ← same.repetition) pairs.0.repetitions in
    let ds : FileLevels has.definition has.sections.definition defs = rw (def, ← same.definition) pairs.0.definitions in
    let read = (pairs-read has.repetition v.0 has.definition d.0 has.n has.sections.repetition has.sections.definition reps defs (length-map all (λ (u : Triple). u.repetition) ∙ size) (length-map all (λ (u : Triple). u.definition) ∙ size)).0 (levels-as has.repetition v.0 has.sections.repetition reps v.1 rs, levels-as has.definition d.0 has.sections.definition defs d.1 ds) in
    has.are v.0 d.0 v.1 d.1 ∙ (read ∙ pairs-of all)

-- ---- a part of a page
abbrev pub ArePresent : ℕ → List Triple → Type 0
ArePresent top ts = All (λ t. is_some t.value ≡ nat_eq t.definition top) ts

present-as : (t : LeafType) (p : Physical) (top : ℕ) (ts zs : List Triple) → AreStored t p ts zs → ArePresent top ts → ArePresent top zs
present-as t p top [] [] a h = All-nil (λ (z : Triple). is_some z.value ≡ nat_eq z.definition top)
present-as t p top [] (z ∷ zs) a h = absurd a
present-as t p top (u ∷ ts) [] a h = absurd a
present-as t p top (u ∷ ts) (z ∷ zs) a h =
    All-cons (λ (x : Triple). is_some x.value ≡ nat_eq x.definition top) z zs (is-some-stored t p u.value z.value a.0.«value» ∙ (All-head (λ (x : Triple). is_some x.value ≡ nat_eq x.definition top) u ts h ∙ ap (λ (d : ℕ). nat_eq d top) (sym a.0.definition))) (present-as t p top ts zs a.1 (All-tail (λ (x : Triple). is_some x.value ≡ nat_eq x.definition top) u ts h))

pub record PartStored (t : LeafType) (l : Leaf) (values : List ℕ) (ts : List Triple) : Type 0 where
  pub stored : List Triple
  pub are : AreStored t l.physical ts stored
  pub begins : Begins (IsPlain l.physical) values (values_in stored)

pub part-stored : (t : LeafType) (l : Leaf) (stored : List ℕ → List Stored) (values : List ℕ) (ts : List Triple) (more : List Stored) → ReadsPlain t l.physical stored → stored values ≡ map Some (values_of ts) ++ more → PartStored t l values ts
part-stored t l stored values ts more plainly e =
    let spelled = spelled-values t l.physical stored values (values_of ts) more plainly e in
    let put = stored-put t l.physical ts spelled.stored spelled.are in
    record { stored = put.triples; are = put.are; begins = rw put.values spelled.begins }

pub part-reads : (t : LeafType) (l : Leaf) (stored : List ℕ → List Stored) (d : Means) (es : Option (List Value)) (flat : Bool) (p : RawPage) (levels : Levels) (items : List Item) (values : List ℕ) (ts : List Triple) (rest : List Item) → ReadsPlain t l.physical stored → AreTextsOf stored l.physical d.entries es → d.deltas ≡ deltas_in flat l.physical → levels ≡ leaf_levels l → (has : HasItems (in_bytes stored) d p levels items values) → (has.encoding ≡ delta → ⊥) → items ≡ map Ok (map pair_of ts) ++ rest → (put : PartStored t l values ts) → ArePresent (max_definition l) ts → BeginsRow ts → ReadsTriples t l es p put.stored
part-reads t l stored d es flat p levels items values ts rest plainly texts deltas of-leaf has other pairs put present begins =
    let o = has.opened in
    let s = has.sections in
    let zs = put.stored in
    let front = front-levels s has.repetition has.definition has.n items ts rest has.are pairs in
    let rep : has.repetition ≡ max_repetition l = o.repetitions ∙ ap (λ (x : Levels). x.repetition) of-leaf in
    let def : has.definition ≡ max_definition l = o.definitions ∙ ap (λ (x : Levels). x.definition) of-leaf in
    let size : length zs ≡ length ts = sym (length-map zs (λ (z : Triple). z.repetition)) ∙ (ap length (reps-stored t l.physical ts zs put.are) ∙ length-map ts (λ (u : Triple). u.repetition)) in
    let split = o.split l (sym (ap (λ (x : Levels). x.repetition) of-leaf)) (sym (ap (λ (x : Levels). x.definition) of-leaf)) in
    let reps : FileLevels (max_repetition l) s.repetition (map (λ z. z.repetition) zs) = rw (reps-stored t l.physical ts zs put.are, ← rep) front.repetitions in
    let defs : FileLevels (max_definition l) s.definition (map (λ z. z.definition) zs) = rw (defs-stored t l.physical ts zs put.are, ← def) front.definitions in
    let there = present-as t l.physical (max_definition l) ts zs put.are present in
    let same-called : count_by (λ z. nat_eq z.definition (max_definition l)) zs ≡ count_by (λ u. nat_eq u.definition (max_definition l)) ts = called-defs (max_definition l) zs ∙ (ap (λ (ds : List ℕ). count_by (λ d. nat_eq d (max_definition l)) ds) (defs-stored t l.physical ts zs put.are) ∙ sym (called-defs (max_definition l) ts)) in
    let few : length (values_in zs) ≤ count_in p.header = omega (arith, values-few zs, size, front.few, o.count) in
    let called : present_in has.definition items ≡ present_in (max_definition l) items = ap (λ (n : ℕ). present_in n items) def in
    let enough : length (values_in zs) ≤ present_in (max_definition l) items = omega (arith, values-called l zs there, same-called, called-some (max_definition l) ts rest, ap (present_in (max_definition l)) pairs) in
    let laid : HasValues d has.encoding (count_in p.header) (present_in (max_definition l) items) s.values values = subst (λ (n : ℕ). HasValues d has.encoding (count_in p.header) n s.values values) called has.bytes in
    let begins-here = part-values t l stored d es flat has.encoding (count_in p.header) (present_in (max_definition l) items) s.values values (values_in zs) plainly texts deltas o.read laid other few enough put.begins in
    reads-triples t l es has.encoding p s zs (present_in (max_definition l) items) o.encoding (runs-of l levels p.header of-leaf o.runs) split reps defs (omega (arith, size, front.few, o.count)) (begins-stored t l.physical ts zs put.are begins) there (λ all h. ap (present_in (max_definition l)) (items-of-all (in_bytes stored) d l p levels items values all of-leaf has h) ∙ called-all (max_definition l) all) begins-here (inside-stored t l.physical ts zs put.are)

-- ---- the piece that is too long
sized-join : (n : Option ℕ) (left mid rest : ℕ) (xs ys : List (List Triple)) → AreSized n left xs mid → AreSized n mid ys rest → AreSized n left (xs ++ ys) rest
sized-join n left mid rest [] ys a b = rw a b
sized-join n left mid rest (x ∷ xs) ys a b = (a.0, a.1, a.2, sized-join n (left - rows_in x) mid rest xs ys a.3 b)

present-of : (w : Way) (top : ℕ) (ts : List Triple) → way_definition w ≡ top → All (IsWithin w) ts → ArePresent top ts
present-of w top ts e a = All-weaker (IsWithin w) (λ t. is_some t.value ≡ nat_eq t.definition top) (λ t h. h.present ∙ ap (nat_eq t.definition) e) ts a

behind-two : {A : Type 0} (xs ys rest all next : List A) → all ≡ xs ++ next → next ≡ ys ++ rest → all ≡ (xs ++ ys) ++ rest
behind-two xs ys rest all next a b = a ∙ (ap (λ t. xs ++ t) b ∙ sym (append_assoc xs ys rest))

pub passes : (stored : List ℕ → List Stored) (limit : ℕ) (o : ColumnOpening) (pieces : List (List Triple)) (p : RawPage) (levels : Levels) (os : List Outcome) (d : Means) (q : Waiting) (b : Bool) (items : List Item) (values : List ℕ) (n : Option ℕ) (queue : Waiting) (page' : List Item) (left' : List Stored) (more : List Triple) (rest : List Item) (behind : List Stored) → (r : IsReading stored limit o pieces (reading (gives_page p levels ∷ os) d q b)) → HasItems (in_bytes stored) d p levels items values → levels ≡ leaf_levels o.leaf → BeginsPair items → n ≡ o.chunk_size → (takes : TakesPairs n o.column.way r.middle (joined r.whole ++ r.last) queue items page' (stored values) left') → 0 < queue.rows → page' ≡ map Ok (map pair_of more) ++ rest → left' ≡ map Some (values_of more) ++ behind → ArePresent (max_definition o.leaf) more → rows_in more ≤ queue.rows - count queue.state →
    ((piece : List Triple) → AreStored (leaf_type o.column.data_type) o.leaf.physical (takes.last ++ more) piece → PassesLists o.column.way 1 o.column.limits piece ⊎ PassesTexts o.column.data_type (values_in piece)) → PassesOffsets o.chunk_size o.column o.leaf o.outcomes
passes stored limit o pieces p levels os d q b items values n queue page' left' more rest behind r has of-leaf first size takes some next vals present few long =
    let w = o.column.way in
    let t = leaf_type o.column.data_type in
    let l = o.leaf in
    let k = takes.queued in
    let ts = takes.taken ++ more in
    let e-items : items ≡ map Ok (map pair_of ts) ++ rest = rw (map-append pair_of takes.taken more, ok-append (map pair_of takes.taken) (map pair_of more)) (behind-two (map Ok (map pair_of takes.taken)) (map Ok (map pair_of more)) rest items page' takes.pairs next) in
    let e-vals : stored values ≡ map Some (values_of ts) ++ behind = rw (values-append takes.taken more, some-append (values_of takes.taken) (values_of more)) (behind-two (map Some (values_of takes.taken)) (map Some (values_of more)) behind (stored values) left' takes.values vals) in
    let there : ArePresent (max_definition l) ts = All-append (λ (x : Triple). is_some x.value ≡ nat_eq x.definition (max_definition l)) takes.taken more (present-of w (max_definition l) takes.taken (sym r.readable.definition) takes.within) present in
    let part = part-stored t l stored values ts behind r.readable.values.plain e-vals in
    let all = stored-both t l.physical (joined pieces ++ (joined r.whole ++ r.last)) ts (stored_in r.pages) part.stored r.triples part.are in
    let regrouped : (joined pieces ++ (joined r.whole ++ r.last)) ++ ts ≡ joined (pieces ++ takes.whole) ++ (takes.last ++ more) =
    append_assoc (joined pieces) (joined r.whole ++ r.last) ts ∙ (ap (λ (xs : List Triple). joined pieces ++ xs) (sym (append_assoc (joined r.whole ++ r.last) takes.taken more) ∙ (ap (λ (xs : List Triple). xs ++ more) (sym takes.all) ∙ append_assoc (joined takes.whole) takes.last more)) ∙ (sym (append_assoc (joined pieces) (joined takes.whole) (takes.last ++ more)) ∙ ap (λ (xs : List Triple). xs ++ (takes.last ++ more)) (sym (joined-append pieces takes.whole)))) in
    let cut = stored-parts t l.physical (joined (pieces ++ takes.whole)) (takes.last ++ more) (stored_in r.pages ++ part.stored) (subst (λ (xs : List Triple). AreStored t l.physical xs (stored_in r.pages ++ part.stored)) regrouped all) in
    let chunk : queue.chunk_size ≡ o.chunk_size = takes.chunk ∙ size in
    let sized : AreSized o.chunk_size o.rows (pieces ++ takes.whole) k.rest = sized-join o.chunk_size o.rows r.middle k.rest pieces takes.whole r.sized (subst (λ (m : Option ℕ). AreSized m r.middle takes.whole k.rest) chunk k.sized) in
    let size-is : queue.rows ≡ piece_size o.chunk_size k.rest = k.rows ∙ ap (λ (m : Option ℕ). piece_size m k.rest) chunk in
    let rows-b : rows_in cut.1 ≡ rows_in (takes.last ++ more) = rows-stored t l.physical (takes.last ++ more) cut.1 cut.4 in
    let few-b : rows_in cut.1 ≤ queue.rows = omega (arith, rows-b, rows-append takes.last more, few, k.most, rows-piece w takes.last queue.state queue.leaf k.is) in
    let begins-b : BeginsRow cut.1 = begins-stored t l.physical (takes.last ++ more) cut.1 cut.4 (begins-append takes.last more k.begins (λ _. begins-taken page' rest more next takes.begins)) in
    let begins-a : BeginsRow cut.0 = begins-stored t l.physical (joined (pieces ++ takes.whole)) cut.0 cut.3 (rw append-nil at (begins-joined o.chunk_size o.rows k.rest (pieces ++ takes.whole) [] sized tt)) in
    let rows-a : rows_in cut.0 ≡ rows_of_all (pieces ++ takes.whole) = rows-stored t l.physical (joined (pieces ++ takes.whole)) cut.0 cut.3 ∙ rows-joined (pieces ++ takes.whole) in
    let is-piece = piece-of o.chunk_size o.rows k.rest (pieces ++ takes.whole) cut.0 cut.1 [] sized rows-a (omega (arith, some, size-is, piece-few o.chunk_size k.rest)) (omega (arith, few-b, size-is, piece-few o.chunk_size k.rest)) (inr refl) (omega (arith, few-b, size-is)) begins-a (rw append-nil begins-b) tt in
    let passed = long cut.1 cut.4 in
    let other : has.encoding ≡ delta → ⊥ = λ e. (
    let read : IsReadBy (in_bytes stored) d.deltas delta = rw (← e) has.opened.read in
    not-long o.column t l.physical (takes.last ++ more) cut.1 (is-flat (in_bytes stored) (is_alone w) d.deltas l.physical delta (inl refl) r.deltas read) (of-numbers (in_bytes stored) (is_alone w) d.deltas l.physical r.deltas read) r.readable.lists cut.4 passed) in
    let reads = part-reads t l stored d r.entries (is_alone w) p levels items values ts rest r.readable.values.plain r.texts r.deltas of-leaf has other e-items part there (begins-taken items rest ts e-items first) in
    let whole-is : cut.0 ++ (cut.1 ++ []) ≡ stored_in r.pages ++ part.stored = ap (λ (xs : List Triple). cut.0 ++ xs) (append-nil cut.1) ∙ sym cut.2 in
    record {
      entries = r.entries;
      triples = stored_in r.pages ++ part.stored;
      reads = record {
        behind = r.behind ++ gives_page p levels ∷ os;
        front = subst (λ (xs : List Outcome). ReadsFront o.column l xs r.entries (r.behind ++ gives_page p levels ∷ os)) (sym r.outcomes) (front-on o.column l r.taken (gives_page p levels ∷ os) r.entries r.behind (λ _. tt) r.front);
        pages = reads-more o.column l r.entries r.behind os r.pages p levels (joined pieces ++ (joined r.whole ++ r.last)) part.stored r.are r.served r.triples ((has.encoding, has.opened.encoding), is-read o.column l p.header (in_bytes stored) d.deltas has.encoding r.readable.direct has.opened.encoding has.opened.read r.deltas) reads;
      };
      piece = cut.1;
      is_piece = subst (λ (zs : List Triple). IsPieceOf o.chunk_size zs cut.1) whole-is is-piece;
      passes = passed;
    }

-- the greatest definition level of the state
top-is : (w v : Way) (top : ℕ) → v ≡ thin w → top ≡ way_definition w → way_definition v ≡ top
top-is w v top e f = ap way_definition e ∙ (definition-thin w ∙ sym f)

pub lists-long : (counts : ItemsAreCounted) (stored : List ℕ → List Stored) (limit : ℕ) (o : ColumnOpening) (pieces : List (List Triple)) (p : RawPage) (levels : Levels) (os : List Outcome) (d : Means) (q : Waiting) (b : Bool) (items : List Item) (values : List ℕ) (n : Option ℕ) (queue : Waiting) (page' : List Item) (left' : List Stored) → (r : IsReading stored limit o pieces (reading (gives_page p levels ∷ os) d q b)) → HasItems (in_bytes stored) d p levels items values → levels ≡ leaf_levels o.leaf → BeginsPair items → n ≡ o.chunk_size → (takes : TakesPairs n o.column.way r.middle (joined r.whole ++ r.last) queue items page' (stored values) left') → 0 < queue.rows → GrowsTooLong (queue.rows - count queue.state) page' left' queue.state → PassesOffsets o.chunk_size o.column o.leaf o.outcomes
lists-long counts stored limit o pieces p levels os d q b items values n queue page' left' r has of-leaf first size takes some x =
    let w = o.column.way in
    let t = leaf_type o.column.data_type in
    let l = o.leaf in
    let k = takes.queued in
    let top : way_definition (kept_way queue.state) ≡ max_definition l = top-is w (kept_way queue.state) (max_definition l) k.is.way r.readable.definition in
    let f = filled (max_definition l) x.pairs x.there.values (rw (← top) (sym x.there.size)) in
    let more = f.triples in
    let next : page' ≡ map Ok (map pair_of more) ++ x.rest = rw f.pairs x.wanted.pairs in
    let vals : left' ≡ map Some (values_of more) ++ x.there.rest = rw f.values x.there.next in
    let few : rows_in more ≤ queue.rows - count queue.state = omega (arith, begun-pairs more, ap begun f.pairs, x.wanted.few) in
    let built : walk (map mark_of (takes.last ++ more)) (empty_state w) ≡ walk (map mark_pair x.pairs) queue.state =
    ap (λ (ms : List Mark). walk ms (empty_state w)) (map-append mark_of takes.last more) ∙ (walk-append (map mark_of takes.last) (map mark_of more) (empty_state w) ∙ (ap (walk (map mark_of more)) (sym k.is.built) ∙ ap (λ (ms : List Mark). walk ms queue.state) (marks-pairs more ∙ ap (map mark_pair) f.pairs))) in
    let is-long : HasLongItems (walk (map mark_of (takes.last ++ more)) (empty_state w)) = subst (λ (ks : List Kept). HasLongItems ks) (sym built) x.long in
    passes stored limit o pieces p levels os d q b items values n queue page' left' more x.rest x.there.rest r has of-leaf first size takes some next vals f.present few (λ piece are. inl (lists-pass t l.physical w o.column.limits (walk (map mark_of (takes.last ++ more)) (empty_state w)) (takes.last ++ more) piece (counts w (takes.last ++ more)) is-long r.readable.lists r.readable.limited are))

pub texts-long : (stored : List ℕ → List Stored) (limit : ℕ) (o : ColumnOpening) (pieces : List (List Triple)) (p : RawPage) (levels : Levels) (os : List Outcome) (d : Means) (q : Waiting) (b : Bool) (items : List Item) (values : List ℕ) (n : Option ℕ) (queue : Waiting) (page' : List Item) (left' : List Stored) (ps : List Pair) (rest : List Item) → (r : IsReading stored limit o pieces (reading (gives_page p levels ∷ os) d q b)) → HasItems (in_bytes stored) d p levels items values → levels ≡ leaf_levels o.leaf → BeginsPair items → n ≡ o.chunk_size → (takes : TakesPairs n o.column.way r.middle (joined r.whole ++ r.last) queue items page' (stored values) left') → 0 < queue.rows → AreWanted (queue.rows - count queue.state) page' ps rest → AreTooLong limit (called (way_definition (kept_way queue.state)) (map (λ x. x.1) ps)) left' queue.leaf → PassesOffsets o.chunk_size o.column o.leaf o.outcomes
texts-long stored limit o pieces p levels os d q b items values n queue page' left' ps rest r has of-leaf first size takes some wanted x =
    let w = o.column.way in
    let t = leaf_type o.column.data_type in
    let l = o.leaf in
    let k = takes.queued in
    let top : way_definition (kept_way queue.state) ≡ max_definition l = top-is w (kept_way queue.state) (max_definition l) k.is.way r.readable.definition in
    let c = call-for (max_definition l) (length x.values) ps (rw (← top) x.within) in
    let f = filled (max_definition l) c.front x.values c.calls in
    let more = f.triples in
    let next : page' ≡ map Ok (map pair_of more) ++ (map Ok c.back ++ rest) = rw f.pairs (wanted.pairs ∙ (ap (λ (qs : List Pair). map Ok qs ++ rest) c.parts ∙ (ap (λ (is : List Item). is ++ rest) (ok-append c.front c.back) ∙ append_assoc (map Ok c.front) (map Ok c.back) rest))) in
    let vals : left' ≡ map Some (values_of more) ++ x.rest = rw f.values x.next in
    let few : rows_in more ≤ queue.rows - count queue.state = omega (arith, begun-pairs more, ap begun f.pairs, wanted.few, ap begun c.parts, begun-append c.front c.back) in
    let bytes : limit ≤ bytes_of (values_of (takes.last ++ more)) = omega (arith, ap bytes_of (values-append takes.last more), bytes-append (values_of takes.last) (values_of more), k.bytes, ap bytes_of f.values, x.long) in
    passes stored limit o pieces p levels os d q b items values n queue page' left' more (map Ok c.back ++ rest) x.rest r has of-leaf first size takes some next vals f.present few (λ piece are. inr (texts-pass o.column.data_type t l.physical limit (values_of (takes.last ++ more)) (values_in piece) r.readable.values.limited (values-stored t l.physical (takes.last ++ more) piece are) x.some bytes))

-- ---- a page that goes on with a row
first-pair : (items : List Item) → first_goes_on items ≡ true → (p : Pair) × (rest : List Item) × (items ≡ Ok p ∷ rest) × (0 < p.0)
first-pair [] e = absurd (cc e)
first-pair (Ok p ∷ is) e = (p, is, refl, lt-holds 0 p.0 e)
first-pair (Err x ∷ is) e = absurd (cc e)

pub goes-on-in : (own : Bool) (d : Means) (l : Leaf) (p : RawPage) (levels : Levels) (items : List Item) (values : List ℕ) → levels ≡ leaf_levels l → HasItems own d p levels items values → first_goes_on items ≡ true → GoesOn l p
goes-on-in own d l p levels items values of-leaf has on =
    let o = has.opened in
    let s = has.sections in
    let x = first-pair items on in
    let t : Triple = record { repetition = (x.0).0; definition = (x.0).1; value = None } in
    let front = front-levels s has.repetition has.definition has.n items (t ∷ []) x.1 has.are x.2 in
    let rep : has.repetition ≡ max_repetition l = o.repetitions ∙ ap (λ (y : Levels). y.repetition) of-leaf in
    let def : has.definition ≡ max_definition l = o.definitions ∙ ap (λ (y : Levels). y.definition) of-leaf in
    let split = o.split l (sym (ap (λ (y : Levels). y.repetition) of-leaf)) (sym (ap (λ (y : Levels). y.definition) of-leaf)) in
    record {
      first = t;
      shows = shows-pairs l p s (t ∷ []) (runs-of l levels p.header of-leaf o.runs) split (rw (← rep) front.repetitions) (rw (← def) front.definitions) (omega (arith, front.few, o.count));
      repeats = x.3;
    }
