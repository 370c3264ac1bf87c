-- Where each column is whole, the arrays are the whole field.
use Rattle.std.proofs.Common.{◌≡◌, ◌+◌, ◌<◌, ℕ, zero, suc, Option, List, [], ◌∷◌, ◌++◌, length, map, flat_map, slice_index_or, refl, sym, ap, subst, ◌∙◌, arith, cond, nat_eq}
use Rattle.std.proofs.lemmas.Grind.{flat_map-append}
use Rattle.std.specs.List.{AllByRecursion as Each}
use Rattle.std.proofs.lemmas.List.Elements.{All-from_recursion}
use Rattle.std.specs.List.{AllZip}
use Rattle.columns_core.specs.Shapes.{leaf_type}
use Rattle.columns_core.specs.Tree.{TypeTree}
use Rattle.columns_slots.specs.Slots.{slots}
use Rattle.columns_slots.specs.Tree.{ArrayTree}
use Rattle.pq_files.specs.Carried.{column_in}
use Rattle.pq_files.specs.Chunk.{Chunk, triples_of}
use Rattle.pq_files.specs.Page.{rows_in}
use Rattle.pq_files.specs.Stored.{AreStored}
use Rattle.pq_headline.specs.Arrays.{entries_in}
use Rattle.pq_headline.specs.Columns.{ArrowColumn, field_columns}
use Rattle.pq_headline.specs.Openings.{Opening, HoldColumns, Assembled}
use Rattle.pq_headline.specs.Rows.{AreAllEntries}
use Rattle.pq_pages.specs.Outcomes.{Outcome}
use Rattle.pq_tree.specs.Physical.{Physical}
use Rattle.pq_tree.specs.Tree.{Leaf}
use Rattle.read_columns.proofs.Entries.{entries_held}
use Rattle.read_pieces.specs.Pieces.{leaf_types}
use Rattle.shredding.proofs.Counts.{counted, count_by-cons}
use Rattle.shredding.specs.Shape.{LeafType, Way}
use Rattle.shredding.specs.Shred.{Triple, column, shred}
use Rattle.shredding.specs.Slot.{Slot, Value}
use Rattle.assembly.specs.Giving.{IsMade, IsOpened}
use Rattle.assembly.specs.Lanes.{Tables, lanes, lanes_of, pieces_at, AreEntries, AreWhole}
use Rattle.assembly.proofs.Items.{AreComplete, opened_complete}

-- ---- a column over all arrays

joins : (w : Way) (a b : List Slot) → column w (a ++ b) ≡ column w a ++ column w b
joins w a b = flat_map-append (λ s. shred w s 0 0 0) a b

column_at : (a : ArrayTree) (cs : List ArrowColumn) (table : List (List Triple)) (c : ArrowColumn) → AllZip (λ d ts. column d.way (slots a) ≡ ts) cs table → (i : ℕ) → i < length cs → slice_index_or cs i c ≡ c → column c.way (slots a) ≡ slice_index_or table i []
column_at a [] table c h i lt e = absurd (omega arith)
column_at a (d ∷ cs) [] c h i lt e = absurd h
column_at a (d ∷ cs) (ts ∷ table) c h zero lt e = ap (λ x. column x.way (slots a)) (sym e) ∙ h.0
column_at a (d ∷ cs) (ts ∷ table) c h (suc i) lt e = column_at a cs table c h.1 i (omega arith) e

all_at :
    (o : Opening) (c : ArrowColumn) (i : ℕ) (tables : Tables) (arrays : List ArrayTree) → AllZip (IsMade o) tables arrays → i < length (field_columns o.field) → slice_index_or (field_columns o.field) i c ≡ c
    → column c.way (flat_map slots arrays) ≡ flat_map (λ ts. ts) (pieces_at i tables)
all_at o c i [] [] h lt e = refl
all_at o c i [] (a ∷ arrays) h lt e = absurd h
all_at o c i (table ∷ tables) [] h lt e = absurd h
all_at o c i (table ∷ tables) (a ∷ arrays) h lt e =
    joins c.way (slots a) (flat_map slots arrays) ∙ ap (λ q. q ++ column c.way (flat_map slots arrays)) (column_at a (field_columns o.field) table c h.0.array.columns i lt e)
    ∙ ap (λ q. slice_index_or table i [] ++ q) (all_at o c i tables arrays h.1 lt e)

-- ---- the rows of stored triples

stored_rows : (t : LeafType) (p : Physical) (xs ys : List Triple) → AreStored t p xs ys → rows_in ys ≡ rows_in xs
stored_rows t p [] [] h = refl
stored_rows t p [] (y ∷ ys) h = absurd h
stored_rows t p (x ∷ xs) [] h = absurd h
stored_rows t p (x ∷ xs) (y ∷ ys) h = count_by-cons y ys ∙ ap (λ k. cond (nat_eq k 0) 1 0 + rows_in ys) h.0.repetition ∙ ap (λ k. cond (nat_eq x.repetition 0) 1 0 + k) (stored_rows t p xs ys h.1) ∙ sym (count_by-cons x xs)

-- ---- all columns

record Holding (rows : List Slot) (cs : List ArrowColumn) (ls : List Leaf) (others : List (List Outcome)) : Type 0 where
  chunks : List Chunk
  hold : HoldColumns rows cs ls others chunks

holding :
    (o : Opening) (tables : Tables) (arrays : List ArrayTree) → AllZip (IsMade o) tables arrays
    → (i rows : ℕ) (n : Option ℕ) (cs : List ArrowColumn) (types : List TypeTree) (ls : List Leaf) (others : List (List Outcome))
    → AreComplete cs types ls others → ((j : ℕ) → j < length cs → (c : ArrowColumn) → slice_index_or cs j c ≡ c → (i + j < length (field_columns o.field)) × (slice_index_or (field_columns o.field) (i + j) c ≡ c))
    → AreWhole i (lanes rows n cs types ls others) tables → Holding (flat_map slots arrays) cs ls others
holding o tables arrays made i rows n [] [] [] [] k s h = record { chunks = []; hold = tt }
holding o tables arrays made i rows n [] [] [] (os ∷ others) k s h = absurd k
holding o tables arrays made i rows n [] [] (l ∷ ls) others k s h = absurd k
holding o tables arrays made i rows n [] (t ∷ types) ls others k s h = absurd k
holding o tables arrays made i rows n (c ∷ cs) [] ls others k s h = absurd k
holding o tables arrays made i rows n (c ∷ cs) (t ∷ types) [] others k s h = absurd k
holding o tables arrays made i rows n (c ∷ cs) (t ∷ types) (l ∷ ls) [] k s h = absurd k
holding o tables arrays made i rows n (c ∷ cs) (t ∷ types) (l ∷ ls) (os ∷ others) k s h =
    let w = h.0 in
    let here = s 0 (omega arith) c refl in
    let plus : i + 0 ≡ i = omega arith in
    let all = all_at o c i tables arrays made (subst (λ m. m < length (field_columns o.field)) plus here.0) (subst (λ m. slice_index_or (field_columns o.field) m c ≡ c) plus here.1) in
    let rest = holding o tables arrays made (suc i) rows n cs types ls others k
    (λ j lt d e. let q = s (suc j) (omega arith) d e in let m : i + suc j ≡ suc i + j = omega arith in (subst (λ m. m < length (field_columns o.field)) m q.0, subst (λ m. slice_index_or (field_columns o.field) m d ≡ d) m q.1)) h.1 in
    let stored : AreStored (leaf_type c.data_type) l.physical (column c.way (flat_map slots arrays)) (triples_of w.chunk) = subst (λ q. AreStored (leaf_type c.data_type) l.physical q (triples_of w.chunk)) (sym all) w.stored in
    record {
      chunks = w.chunk ∷ rest.chunks;
      hold = (record { given = w.given; holds = w.holds; shred = stored; counted = stored_rows (leaf_type c.data_type) l.physical (column c.way (flat_map slots arrays)) (triples_of w.chunk) stored ∙ counted c.way (flat_map slots arrays); inside = w.inside }, rest.hold);
    }

-- ---- entries

held_entries :
    (rows : List Slot) (count : ℕ) (n : Option ℕ) (cs : List ArrowColumn) (types : List TypeTree) (ls : List Leaf) (others : List (List Outcome)) (chunks : List Chunk) (es : List (Option (List (Option Value))))
    → AreComplete cs types ls others → HoldColumns rows cs ls others chunks → AreEntries (lanes count n cs types ls others) es → AreAllEntries cs ls (map column_in chunks) es
held_entries rows count n [] [] [] [] [] [] k h a = tt
held_entries rows count n [] [] [] [] [] (e ∷ es) k h a = absurd a
held_entries rows count n [] [] [] [] (q ∷ chunks) es k h a = absurd h
held_entries rows count n [] [] [] (os ∷ others) chunks es k h a = absurd k
held_entries rows count n [] [] (l ∷ ls) others chunks es k h a = absurd k
held_entries rows count n [] (t ∷ types) ls others chunks es k h a = absurd k
held_entries rows count n (c ∷ cs) [] ls others chunks es k h a = absurd k
held_entries rows count n (c ∷ cs) (t ∷ types) [] others chunks es k h a = absurd k
held_entries rows count n (c ∷ cs) (t ∷ types) (l ∷ ls) [] chunks es k h a = absurd k
held_entries rows count n (c ∷ cs) (t ∷ types) (l ∷ ls) (os ∷ others) [] es k h a = absurd h
held_entries rows count n (c ∷ cs) (t ∷ types) (l ∷ ls) (os ∷ others) (q ∷ chunks) [] k h a = absurd a
held_entries rows count n (c ∷ cs) (t ∷ types) (l ∷ ls) (os ∷ others) (q ∷ chunks) (e ∷ es) k h a =
    (entries_held (record { column = c; leaf = l; outcomes = os; rows = count; chunk_size = n }) e q h.0.holds a.0, held_entries rows count n cs types ls others chunks es k h.1 a.1)

module _ (o : Opening) (opened : IsOpened o) (rows : List Slot) (chunks : List Chunk) (hold : HoldColumns rows (field_columns o.field) o.leaves o.outcomes chunks) where
  entries_all : (tables : Tables) (arrays : List ArrayTree) → AllZip (IsMade o) tables arrays → Each (λ a. AreAllEntries (field_columns o.field) o.leaves (map column_in chunks) (entries_in a)) arrays
  entries_all [] [] h = tt
  entries_all [] (a ∷ arrays) h = absurd h
  entries_all (table ∷ tables) [] h = absurd h
  entries_all (table ∷ tables) (a ∷ arrays) h =
      let own = held_entries rows o.rows o.chunk_size (field_columns o.field) (leaf_types o.field) o.leaves o.outcomes chunks h.0.entries (opened_complete o opened) hold h.0.are in
      (subst (AreAllEntries (field_columns o.field) o.leaves (map column_in chunks)) (sym h.0.array.entries) own, entries_all tables arrays h.1)

pub assembled :
    (o : Opening) (tables : Tables) (arrays : List ArrayTree) → IsOpened o → AllZip (IsMade o) tables arrays → length (flat_map slots arrays) ≡ o.rows → AreWhole 0 (lanes_of o) tables → Assembled o arrays
assembled o tables arrays h made count whole =
    let held = holding o tables arrays made 0 o.rows o.chunk_size (field_columns o.field) (leaf_types o.field) o.leaves o.outcomes (opened_complete o h)
    (λ j lt c e. let m : 0 + j ≡ j = omega arith in (subst (λ m. m < length (field_columns o.field)) (sym m) lt, subst (λ m. slice_index_or (field_columns o.field) m c ≡ c) (sym m) e)) whole in
    record {
      count = count;
      chunks = held.chunks;
      columns = held.hold;
      entries = All-from_recursion (λ a. AreAllEntries (field_columns o.field) o.leaves (map column_in held.chunks) (entries_in a)) arrays (entries_all o h (flat_map slots arrays) held.chunks held.hold tables arrays made);
    }
