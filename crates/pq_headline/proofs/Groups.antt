-- A group whose fields are assembled holds the rows of its arrays.
use Rattle.std.proofs.Common.{◌≡◌, ◌+◌, ◌-◌, ◌<◌, ◌≤◌, ℕ, zero, suc, false, List, [], ◌∷◌, ◌++◌, length, map, flat_map, All, Option, refl, sym, ap, subst, ◌∙◌, pos, arith}
use Rattle.std.proofs.lemmas.List.{map-append}
use Rattle.std.proofs.lemmas.List.Elements.{All-append, All-nil, recursion_from_All}
use Rattle.std.specs.List.{AllByRecursion}
use Rattle.shredding.specs.Slot.{Slot, fields, Value}
use Rattle.columns_core.specs.Shapes.{IsSlotOf}
use Rattle.columns_core.specs.Tree.{FieldTree, FieldTrees, no_fields, more_fields}
use Rattle.columns_slots.specs.Slots.{slots, tree_len, first_len}
use Rattle.columns_slots.specs.Tree.{ArrayTree, ArrayTrees, no_arrays, more_arrays}
use Rattle.pq_metadata.specs.Footer.{ChunkMeta, GroupMeta}
use Rattle.pq_tree.specs.Tree.{Leaf}
use Rattle.pq_files.specs.Carried.{Column, column_in, AreChunks}
use Rattle.pq_files.specs.Chunk.{Chunk, triples_of}
use Rattle.pq_files.specs.Page.{rows_in}
use Rattle.pq_headline.specs.Columns.{ArrowColumn, beneath_struct, field_columns, columns_from, schema_columns}
use Rattle.pq_headline.specs.Lists.{AllZip3}
use Rattle.pq_headline.specs.Opened.{Reads, AreOpened, AreItems, AreChunksFrom, AreAssembled}
use Rattle.pq_headline.specs.Arrays.{array_at, entries_in, all_entries}
use Rattle.pq_headline.specs.Openings.{Opening, HoldColumns, piece_size}
use Rattle.pq_pages.specs.Outcomes.{Outcome}
use Rattle.pq_headline.specs.Rows.{IsColumnOf, AreAllEntries, HoldsRows, field_slots}
use Rattle.pq_headline.proofs.Joined.{zip_append, shred_beneath, chunks_are, chunks_append, AreCounted, counted, entries_append, entries_beneath}
use Rattle.pq_headline.proofs.RowsOf.{AreLong, AreSlots, AreAllSlots, all_rows, all_rows_are, field_of_all}

-- ---- the openings of one group are alike

abbrev pub AreSame : ℕ → Option ℕ → List Opening → Type 0
AreSame rows n [] = Unit {0}
AreSame rows n (o ∷ os) = (o.rows ≡ rows) × (o.chunk_size ≡ n) × AreSame rows n os

pub are_same : (bytes : List ℕ) (place rows : ℕ) (n : Option ℕ) (fs : FieldTrees) (ls : List Leaf) (ms : List ChunkMeta) (os : List Opening) → AreOpened bytes place rows n fs ls ms os → AreSame rows n os
are_same bytes place rows n no_fields ls ms [] h = tt
are_same bytes place rows n no_fields ls ms (o ∷ os) h = absurd h
are_same bytes place rows n (more_fields f fs) ls ms [] h = absurd h
are_same bytes place rows n (more_fields f fs) ls ms (o ∷ os) h = (h.6.rows_are, h.6.chunk_size_is, are_same bytes place rows n fs h.1 h.3 os h.7)

-- each array of a chunk has as many slots as go into the next piece
len_at : (rows : ℕ) (n : Option ℕ) (before : ℕ) (os : List Opening) (cs : ArrayTrees) (j : ℕ) → AreSame rows n os → AreItems before os cs → j < length os → tree_len (array_at j cs) ≡ piece_size n (rows - before)
len_at rows n before [] cs j s h lt = absurd (omega arith)
len_at rows n before (o ∷ os) no_arrays j s h lt = absurd h
len_at rows n before (o ∷ os) (more_arrays c cs) zero s h lt = h.0.count ∙ ap (λ k. piece_size k (o.rows - before)) s.1 ∙ ap (λ k. piece_size n (k - before)) s.0
len_at rows n before (o ∷ os) (more_arrays c cs) (suc j) s h lt = len_at rows n before os cs j s.2 h.1 (omega arith)

pub first_is : (rows : ℕ) (n : Option ℕ) (before : ℕ) (os : List Opening) (cs : ArrayTrees) → AreSame rows n os → AreItems before os cs → 0 < length os → first_len cs ≡ piece_size n (rows - before)
first_is rows n before [] cs s h lt = absurd (omega arith)
first_is rows n before (o ∷ os) no_arrays s h lt = absurd h
first_is rows n before (o ∷ os) (more_arrays c cs) s h lt = len_at rows n before (o ∷ os) (more_arrays c cs) zero s h lt

pub first_some : (before : ℕ) (os : List Opening) (cs : ArrayTrees) → AreItems before os cs → 0 < length os → 0 < first_len cs
first_some before [] cs h lt = absurd (omega arith)
first_some before (o ∷ os) no_arrays h lt = absurd h
first_some before (o ∷ os) (more_arrays c cs) h lt = h.0.some

pub long : (rows : ℕ) (n : Option ℕ) (before : ℕ) (os : List Opening) (chunks : List ArrayTrees) (j : ℕ) → AreSame rows n os → AreChunksFrom before os chunks → j < length os → AreLong j chunks
long rows n before os [] j s h lt = tt
long rows n before os (cs ∷ chunks) j s h lt = (
  len_at rows n before os cs j s h.0 lt ∙ sym (first_is rows n before os cs s h.0 (omega arith)),
  long rows n (before + first_len cs) os chunks j s h.1 lt,
)

-- ---- rows are of the schema

slots_are : (bytes : List ℕ) (place rows : ℕ) (n : Option ℕ) (fs : FieldTrees) (ls : List Leaf) (ms : List ChunkMeta) (os : List Opening) (before k : ℕ) (cs : ArrayTrees) → AreOpened bytes place rows n fs ls ms os → AreItems before os cs → k ≡ piece_size n (rows - before) → AreSlots fs cs k
slots_are bytes place rows n no_fields ls ms [] before k no_arrays o h e = tt
slots_are bytes place rows n no_fields ls ms [] before k (more_arrays c cs) o h e = absurd h
slots_are bytes place rows n no_fields ls ms (p ∷ os) before k cs o h e = absurd o
slots_are bytes place rows n (more_fields f fs) ls ms [] before k cs o h e = absurd o
slots_are bytes place rows n (more_fields f fs) ls ms (p ∷ os) before k no_arrays o h e = absurd h
slots_are bytes place rows n (more_fields f fs) ls ms (p ∷ os) before k (more_arrays c cs) o h e = (
  subst (λ g. All (IsSlotOf g) (slots c)) o.6.field h.0.are,
  h.0.count ∙ ap (λ q. piece_size q (p.rows - before)) o.6.chunk_size_is ∙ ap (λ q. piece_size n (q - before)) o.6.rows_are ∙ sym e,
  slots_are bytes place rows n fs o.1 o.3 os before k cs o.7 h.1 e,
)

pub chunk_slots : (bytes : List ℕ) (place rows : ℕ) (n : Option ℕ) (fs : FieldTrees) (ls : List Leaf) (ms : List ChunkMeta) (os : List Opening) (before : ℕ) (cs : ArrayTrees) → 0 < length os → AreOpened bytes place rows n fs ls ms os → AreItems before os cs → AreSlots fs cs (first_len cs)
chunk_slots bytes place rows n fs ls ms os before cs lt o h = slots_are bytes place rows n fs ls ms os before (first_len cs) cs o h (first_is rows n before os cs (are_same bytes place rows n fs ls ms os o) h lt)

all_slots : (bytes : List ℕ) (place rows : ℕ) (n : Option ℕ) (fs : FieldTrees) (ls : List Leaf) (ms : List ChunkMeta) (os : List Opening) (before : ℕ) (chunks : List ArrayTrees) → 0 < length os → AreOpened bytes place rows n fs ls ms os → AreChunksFrom before os chunks → AreAllSlots fs chunks
all_slots bytes place rows n fs ls ms os before [] lt o h = tt
all_slots bytes place rows n fs ls ms os before (cs ∷ chunks) lt o h = (
  chunk_slots bytes place rows n fs ls ms os before cs lt o h.0,
  all_slots bytes place rows n fs ls ms os (before + first_len cs) chunks lt o h.1,
)

-- ---- the fields, joined

abbrev pub entries_from : ℕ → FieldTrees → ArrayTrees → List (Option (List (Option Value)))
entries_from i no_fields cs = []
entries_from i (more_fields f fs) cs = entries_in (array_at i cs) ++ entries_from (suc i) fs cs

abbrev pub Each : {A : Type 0} → (A → Type 0) → List A → Type 0
Each P [] = Unit {0}
Each P (x ∷ xs) = P x × Each P xs

-- what is found of the fields from one on
pub record Found (bytes : List ℕ) (place rows : ℕ) (i : ℕ) (fs : FieldTrees) (ls : List Leaf) (ms : List ChunkMeta) (chunks : List ArrayTrees) : Type 0 where
  pub gots : List Chunk
  pub are : AreChunks bytes place ms ls gots
  pub shred : AllZip3 (IsColumnOf (map fields (all_rows chunks))) (columns_from false i fs) ls (map column_in gots)
  pub numbers : AreCounted rows gots
  pub entries : Each (λ cs. AreAllEntries (columns_from false i fs) ls (map column_in gots) (entries_from i fs cs)) chunks

each_empty : (chunks : List ArrayTrees) (i : ℕ) → Each (λ cs. AreAllEntries (columns_from false i no_fields) [] [] (entries_from i no_fields cs)) chunks
each_empty [] i = tt
each_empty (cs ∷ chunks) i = (tt, each_empty chunks i)

each_map : {A B : Type 0} (P : B → Type 0) (f : A → B) (xs : List A) → AllByRecursion P (map f xs) → Each (λ x. P (f x)) xs
each_map P f [] h = tt
each_map P f (x ∷ xs) h = (h.0, each_map P f xs h.1)

each_entries : (i : ℕ) (cs1 cs2 : List ArrowColumn) (l1 l2 : List Leaf) (g1 g2 : List Column) (d2 : ArrayTrees → List (Option (List (Option Value)))) (chunks : List ArrayTrees) → Each (λ cs. AreAllEntries cs1 l1 g1 (entries_in (array_at i cs))) chunks → Each (λ cs. AreAllEntries cs2 l2 g2 (d2 cs)) chunks → Each (λ cs. AreAllEntries (map (beneath_struct false i) cs1 ++ cs2) (l1 ++ l2) (g1 ++ g2) (entries_in (array_at i cs) ++ d2 cs)) chunks
each_entries i cs1 cs2 l1 l2 g1 g2 d2 [] p q = tt
each_entries i cs1 cs2 l1 l2 g1 g2 d2 (cs ∷ chunks) p q = (
  entries_append (map (beneath_struct false i) cs1) cs2 l1 l2 g1 g2 (entries_in (array_at i cs)) (d2 cs) (entries_beneath i cs1 l1 g1 (entries_in (array_at i cs)) p.0) q.0,
  each_entries i cs1 cs2 l1 l2 g1 g2 d2 chunks p.1 q.1,
)

-- one field before the others
before_others :
    (bytes : List ℕ) (place rows i : ℕ) (f : FieldTree) (fs : FieldTrees) (l1 l2 : List Leaf) (m1 m2 : List ChunkMeta) (chunks : List ArrayTrees) (os : List (List Outcome)) (gots : List Chunk)
    → AllZip3 (Reads bytes place) m1 l1 os → length (field_slots i (all_rows chunks)) ≡ rows
    → HoldColumns (field_slots i (all_rows chunks)) (field_columns f) l1 os gots
    → Each (λ cs. AreAllEntries (field_columns f) l1 (map column_in gots) (entries_in (array_at i cs))) chunks
    → Found bytes place rows (suc i) fs l2 m2 chunks
    → Found bytes place rows i (more_fields f fs) (l1 ++ l2) (m1 ++ m2) chunks
before_others bytes place rows i f fs l1 l2 m1 m2 chunks os gots r n h d rest =
    let e : map column_in (gots ++ rest.gots) ≡ map column_in gots ++ map column_in rest.gots = map-append column_in gots rest.gots in
    record {
      gots = gots ++ rest.gots;
      are = chunks_append bytes place m1 m2 l1 l2 gots rest.gots (chunks_are (field_slots i (all_rows chunks)) bytes place m1 (field_columns f) l1 os gots r h) rest.are;
      shred =
          subst (λ (gs : List Column). AllZip3 (IsColumnOf (map fields (all_rows chunks))) (columns_from false i (more_fields f fs)) (l1 ++ l2) gs) (sym e)
          (zip_append (IsColumnOf (map fields (all_rows chunks))) (map (beneath_struct false i) (field_columns f)) (columns_from false (suc i) fs) l1 l2 (map column_in gots) (map column_in rest.gots)
          (shred_beneath i (all_rows chunks) (field_columns f) l1 os gots h) rest.shred);
      numbers = All-append (λ got. rows_in (triples_of got) ≡ rows) gots rest.gots (counted (field_slots i (all_rows chunks)) rows n (field_columns f) l1 os gots h) rest.numbers;
      entries =
          subst (λ (gs : List Column). Each (λ cs. AreAllEntries (columns_from false i (more_fields f fs)) (l1 ++ l2) gs (entries_from i (more_fields f fs) cs)) chunks) (sym e)
          (each_entries i (field_columns f) (columns_from false (suc i) fs) l1 l2 (map column_in gots) (map column_in rest.gots) (entries_from (suc i) fs) chunks d rest.entries);
    }

joined :
    (bytes : List ℕ) (place rows : ℕ) (n : Option ℕ) (i : ℕ) (fs : FieldTrees) (ls : List Leaf) (ms : List ChunkMeta) (os : List Opening) (chunks : List ArrayTrees)
    → AreOpened bytes place rows n fs ls ms os → AreAssembled i os chunks → ((j : ℕ) → i ≤ j → j < i + length os → AreLong j chunks)
    → Found bytes place rows i fs ls ms chunks
joined bytes place rows n i no_fields ls ms (o ∷ os) chunks h a long = absurd h
joined bytes place rows n i (more_fields f fs) ls ms [] chunks h a long = absurd h
joined bytes place rows n i no_fields ls ms [] chunks h a long =
    let empty : Found bytes place rows i no_fields [] [] chunks = record {
      gots = [];
      are = tt;
      shred = tt;
      numbers = All-nil (λ got. rows_in (triples_of got) ≡ rows);
      entries = each_empty chunks i;
    } in
    subst (λ (qs : List Leaf). Found bytes place rows i no_fields qs ms chunks) (sym h.0) (subst (λ (qs : List ChunkMeta). Found bytes place rows i no_fields [] qs chunks) (sym h.1) empty)
joined bytes place rows n i (more_fields f fs) ls ms (o ∷ os) chunks h a long =
    let rest : Found bytes place rows (suc i) fs h.1 h.3 chunks = joined bytes place rows n (suc i) fs h.1 h.3 os chunks h.7 a.1 (λ j ge lt. long j (omega arith) (omega arith)) in
    let same : field_slots i (all_rows chunks) ≡ flat_map slots (map (array_at i) chunks) = field_of_all i chunks (long i (omega arith) (omega arith)) in
    let at_field : HoldColumns (flat_map slots (map (array_at i) chunks)) (field_columns f) o.leaves o.outcomes a.0.chunks =
    subst (λ (g : FieldTree). HoldColumns (flat_map slots (map (array_at i) chunks)) (field_columns g) o.leaves o.outcomes a.0.chunks) h.6.field a.0.columns in
    let at_leaves : HoldColumns (flat_map slots (map (array_at i) chunks)) (field_columns f) h.0 o.outcomes a.0.chunks =
    subst (λ (qs : List Leaf). HoldColumns (flat_map slots (map (array_at i) chunks)) (field_columns f) qs o.outcomes a.0.chunks) h.6.leaves_are at_field in
    let at_rows : HoldColumns (field_slots i (all_rows chunks)) (field_columns f) h.0 o.outcomes a.0.chunks =
    subst (λ (ss : List Slot). HoldColumns ss (field_columns f) h.0 o.outcomes a.0.chunks) (sym same) at_leaves in
    let entries_at : Each (λ cs. AreAllEntries (field_columns o.field) o.leaves (map column_in a.0.chunks) (entries_in (array_at i cs))) chunks =
    each_map (λ c. AreAllEntries (field_columns o.field) o.leaves (map column_in a.0.chunks) (entries_in c)) (array_at i) chunks (recursion_from_All (λ c. AreAllEntries (field_columns o.field) o.leaves (map column_in a.0.chunks) (entries_in c)) (map (array_at i) chunks) a.0.entries) in
    let entries_field : Each (λ cs. AreAllEntries (field_columns f) o.leaves (map column_in a.0.chunks) (entries_in (array_at i cs))) chunks =
    subst (λ (g : FieldTree). Each (λ cs. AreAllEntries (field_columns g) o.leaves (map column_in a.0.chunks) (entries_in (array_at i cs))) chunks) h.6.field entries_at in
    let entries_leaves : Each (λ cs. AreAllEntries (field_columns f) h.0 (map column_in a.0.chunks) (entries_in (array_at i cs))) chunks =
    subst (λ (qs : List Leaf). Each (λ cs. AreAllEntries (field_columns f) qs (map column_in a.0.chunks) (entries_in (array_at i cs))) chunks) h.6.leaves_are entries_field in
    let whole : Found bytes place rows i (more_fields f fs) (h.0 ++ h.1) (h.2 ++ h.3) chunks =
    before_others bytes place rows i f fs h.0 h.1 h.2 h.3 chunks o.outcomes a.0.chunks h.6.read (ap length same ∙ a.0.count ∙ h.6.rows_are) at_rows entries_leaves rest in
    subst (λ (qs : List Leaf). Found bytes place rows i (more_fields f fs) qs ms chunks) (sym h.4) (subst (λ (qs : List ChunkMeta). Found bytes place rows i (more_fields f fs) (h.0 ++ h.1) qs chunks) (sym h.5) whole)

-- ---- the entries of whole chunks

shifted : (i : ℕ) (fs : FieldTrees) (c : ArrayTree) (cs : ArrayTrees) → entries_from (suc i) fs (more_arrays c cs) ≡ entries_from i fs cs
shifted i no_fields c cs = refl
shifted i (more_fields f fs) c cs = ap (λ ds. entries_in (array_at i cs) ++ ds) (shifted (suc i) fs c cs)

entries_all : (fs : FieldTrees) (cs : ArrayTrees) (k : ℕ) → AreSlots fs cs k → entries_from 0 fs cs ≡ all_entries cs
entries_all no_fields no_arrays k h = refl
entries_all no_fields (more_arrays c cs) k h = absurd h
entries_all (more_fields f fs) no_arrays k h = absurd h
entries_all (more_fields f fs) (more_arrays c cs) k h = ap (λ ds. entries_in c ++ ds) (shifted 0 fs c cs ∙ entries_all fs cs k h.2)

each_all : (fs : FieldTrees) (cols : List ArrowColumn) (ls : List Leaf) (gs : List Column) (chunks : List ArrayTrees) → AreAllSlots fs chunks → Each (λ cs. AreAllEntries cols ls gs (entries_from 0 fs cs)) chunks → Each (λ cs. AreAllEntries cols ls gs (all_entries cs)) chunks
each_all fs cols ls gs [] s h = tt
each_all fs cols ls gs (cs ∷ chunks) s h = (subst (AreAllEntries cols ls gs) (entries_all fs cs (first_len cs) s.0) h.0, each_all fs cols ls gs chunks s.1 h.1)

-- ---- the group

pub record Held (fs : FieldTrees) (bytes : List ℕ) (place rows : ℕ) (ls : List Leaf) (m : GroupMeta) (chunks : List ArrayTrees) : Type 0 where
  pub gots : List Chunk
  pub holds : HoldsRows fs bytes place ls m (record { rows = rows; chunks = gots }) (all_rows chunks)
  pub entries : Each (λ cs. AreAllEntries (schema_columns fs) ls (map column_in gots) (all_entries cs)) chunks

pub held :
    (bytes : List ℕ) (place rows : ℕ) (n : Option ℕ) (fs : FieldTrees) (ls : List Leaf) (m : GroupMeta) (os : List Opening) (chunks : List ArrayTrees)
    → m.num_rows ≡ pos rows → 0 < length os
    → AreOpened bytes place rows n fs ls m.chunks os → AreChunksFrom 0 os chunks → AreAssembled 0 os chunks
    → Held fs bytes place rows ls m chunks
held bytes place rows n fs ls m os chunks e lt o c a =
    let same : AreSame rows n os = are_same bytes place rows n fs ls m.chunks os o in
    let f : Found bytes place rows 0 fs ls m.chunks chunks = joined bytes place rows n 0 fs ls m.chunks os chunks o a (λ j ge less. long rows n 0 os chunks j same c (omega arith)) in
    let s : AreAllSlots fs chunks = all_slots bytes place rows n fs ls m.chunks os 0 chunks lt o c in
    record {
      gots = f.gots;
      holds = record {
        is = record { has_rows = e; are = f.are; counted = f.numbers };
        rows_are = record { are = all_rows_are fs chunks s; shred = f.shred };
      };
      entries = each_all fs (schema_columns fs) ls (map column_in f.gots) chunks s f.entries;
    }
