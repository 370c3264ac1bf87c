-- An array made of one piece of each column is the next one of the field.
use Rattle.std.proofs.Common.{◌≡◌, ◌+◌, ◌-◌, ◌<◌, ◌≤◌, ℕ, zero, suc, Option, Some, None, List, [], ◌∷◌, ◌++◌, length, flat_map, slice_index_or, refl, sym, ap, subst, ◌∙◌, arith}
use Rattle.std.proofs.lemmas.List.{length-append}
use Rattle.std.proofs.lemmas.List.Sums.{sum_by-cons}
use Rattle.std.specs.List.{AllZip}
use Rattle.columns_core.specs.Tree.{TypeTree}
use Rattle.columns_slots.proofs.Rows.{slots_counted}
use Rattle.columns_slots.specs.Slots.{slots, tree_len}
use Rattle.columns_slots.specs.Tree.{ArrayTree}
use Rattle.pq_files.specs.Page.{rows_in}
use Rattle.pq_headline.specs.Columns.{ArrowColumn, field_columns}
use Rattle.pq_headline.specs.Openings.{Opening, IsItem, IsAlike, HaveLevels, piece_size}
use Rattle.pq_pages.specs.Outcomes.{Outcome}
use Rattle.pq_tree.specs.Tree.{Leaf}
use Rattle.read_pieces.specs.Columns.{rows_of_all}
use Rattle.read_pieces.specs.Pieces.{ArePiecesOf, leaf_types}
use Rattle.read_pieces.specs.declared.piece.ColumnPiece.{ColumnPiece}
use Rattle.schema_map.specs.Rows.{asked_by}
use Rattle.shredding.proofs.Counts.{counted}
use Rattle.shredding.specs.Shred.{Triple, column}
use Rattle.shredding.specs.Slot.{Value}
use Rattle.assembly.specs.Giving.{IsMade, IsOpened}
use Rattle.assembly.specs.Lanes.{Lane, Tables, lanes, lanes_of, pieces_at, AreBehind, AreEntries, AreNext, ArePieces}
use Rattle.assembly.proofs.Trees.{leaf_types_count, some_column}

-- ---- one of each in four lists

abbrev pub AreComplete : List ArrowColumn → List TypeTree → List Leaf → List (List Outcome) → Type 0
AreComplete [] [] [] [] = Unit {0}
AreComplete (c ∷ cs) (t ∷ types) (l ∷ ls) (os ∷ others) = AreComplete cs types ls others
AreComplete _ _ _ _ = ⊥

complete :
    (asked : _) (cs : List ArrowColumn) (types : List TypeTree) (ls : List Leaf) (others : List (List Outcome))
    → AllZip (IsAlike asked) cs ls → length types ≡ length cs → HaveLevels ls others → AreComplete cs types ls others
complete asked [] [] [] [] a e h = tt
complete asked [] [] [] (os ∷ others) a e h = absurd h
complete asked [] [] (l ∷ ls) others a e h = absurd a
complete asked [] (t ∷ types) ls others a e h = absurd (omega arith)
complete asked (c ∷ cs) [] ls others a e h = absurd (omega arith)
complete asked (c ∷ cs) (t ∷ types) [] others a e h = absurd a
complete asked (c ∷ cs) (t ∷ types) (l ∷ ls) [] a e h = absurd h
complete asked (c ∷ cs) (t ∷ types) (l ∷ ls) (os ∷ others) a e h = complete asked cs types ls others a.1 (omega arith) h.1

pub opened_complete : (o : Opening) → IsOpened o → AreComplete (field_columns o.field) (leaf_types o.field) o.leaves o.outcomes
opened_complete o h = complete (asked_by o.field) (field_columns o.field) (leaf_types o.field) o.leaves o.outcomes h.alike.are (leaf_types_count o.field) h.levels

-- ---- the rows of the tables

abbrev IsColumn : ArrayTree → ArrowColumn → List Triple → Type 0
IsColumn a c ts = column c.way (slots a) ≡ ts

column_rows : (a : ArrayTree) (cs : List ArrowColumn) (table : List (List Triple)) → AllZip (IsColumn a) cs table → (i : ℕ) → i < length cs → rows_in (slice_index_or table i []) ≡ length (slots a)
column_rows a [] table h i lt = absurd (omega arith)
column_rows a (c ∷ cs) [] h i lt = absurd h
column_rows a (c ∷ cs) (ts ∷ table) h zero lt = ap rows_in (sym h.0) ∙ counted c.way (slots a)
column_rows a (c ∷ cs) (ts ∷ table) h (suc i) lt = column_rows a cs table h.1 i (omega arith)

total : (o : Opening) (tables : Tables) (arrays : List ArrayTree) → AllZip (IsMade o) tables arrays → (i : ℕ) → i < length (field_columns o.field) → rows_of_all (pieces_at i tables) ≡ length (flat_map slots arrays)
total o [] [] h i lt = refl
total o [] (a ∷ arrays) h i lt = absurd h
total o (table ∷ tables) [] h i lt = absurd h
total o (table ∷ tables) (a ∷ arrays) h i lt =
    sum_by-cons rows_in (slice_index_or table i []) (pieces_at i tables) ∙ ap (λ k. k + rows_of_all (pieces_at i tables)) (column_rows a (field_columns o.field) table h.0.array.columns i lt) ∙ ap (λ k. length (slots a) + k) (total o tables arrays h.1 i lt)
    ∙ sym (length-append (slots a) (flat_map slots arrays))

behind :
    (i before rows : ℕ) (n : Option ℕ) (cs : List ArrowColumn) (types : List TypeTree) (ls : List Leaf) (others : List (List Outcome)) (tables : Tables)
    → ((j : ℕ) → j < length cs → rows_of_all (pieces_at (i + j) tables) ≡ before) → AreBehind i before rows (lanes rows n cs types ls others) tables
behind i before rows n [] types ls others tables h = tt
behind i before rows n (c ∷ cs) [] ls others tables h = tt
behind i before rows n (c ∷ cs) (t ∷ types) [] others tables h = tt
behind i before rows n (c ∷ cs) (t ∷ types) (l ∷ ls) [] tables h = tt
behind i before rows n (c ∷ cs) (t ∷ types) (l ∷ ls) (os ∷ others) tables h = (
  ap (λ m. rows_of_all (pieces_at m tables)) (omega arith) ∙ h 0 (omega arith),
  refl,
  behind (suc i) before rows n cs types ls others tables (λ j lt. ap (λ m. rows_of_all (pieces_at m tables)) (omega arith) ∙ h (suc j) (omega arith)),
)

pub all_behind : (o : Opening) (tables : Tables) (arrays : List ArrayTree) → AllZip (IsMade o) tables arrays → AreBehind 0 (length (flat_map slots arrays)) o.rows (lanes_of o) tables
all_behind o tables arrays h =
    behind 0 (length (flat_map slots arrays)) o.rows o.chunk_size (field_columns o.field) (leaf_types o.field) o.leaves o.outcomes tables (λ j lt. ap (λ m. rows_of_all (pieces_at m tables)) (omega arith) ∙ total o tables arrays h j lt)

-- ---- the pieces

-- those of the columns, and the entries of each
pub record HaveEntries (cs : List ArrowColumn) (types : List TypeTree) (table : List (List Triple)) (ps : List ColumnPiece) (xs : List Lane) : Type 0 where
  pub entries : List (Option (List (Option Value)))
  pub pieces : ArePiecesOf cs types table entries ps
  pub are : AreEntries xs entries

pieces_of :
    (rows : ℕ) (n : Option ℕ) (cs : List ArrowColumn) (types : List TypeTree) (ls : List Leaf) (others : List (List Outcome)) (table : List (List Triple)) (ps : List ColumnPiece)
    → AreComplete cs types ls others → ArePieces (lanes rows n cs types ls others) table ps → HaveEntries cs types table ps (lanes rows n cs types ls others)
pieces_of rows n [] [] [] [] [] [] k h = record { entries = []; pieces = tt; are = tt }
pieces_of rows n [] [] [] [] [] (p ∷ ps) k h = absurd h
pieces_of rows n [] [] [] [] (ts ∷ table) ps k h = absurd h
pieces_of rows n [] [] [] (os ∷ others) table ps k h = absurd k
pieces_of rows n [] [] (l ∷ ls) others table ps k h = absurd k
pieces_of rows n [] (t ∷ types) ls others table ps k h = absurd k
pieces_of rows n (c ∷ cs) [] ls others table ps k h = absurd k
pieces_of rows n (c ∷ cs) (t ∷ types) [] others table ps k h = absurd k
pieces_of rows n (c ∷ cs) (t ∷ types) (l ∷ ls) [] table ps k h = absurd k
pieces_of rows n (c ∷ cs) (t ∷ types) (l ∷ ls) (os ∷ others) [] ps k h = absurd h
pieces_of rows n (c ∷ cs) (t ∷ types) (l ∷ ls) (os ∷ others) (ts ∷ table) [] k h = absurd h
pieces_of rows n (c ∷ cs) (t ∷ types) (l ∷ ls) (os ∷ others) (ts ∷ table) (p ∷ ps) k h =
    let rest = pieces_of rows n cs types ls others table ps k h.1 in
    record { entries = h.0.entries ∷ rest.entries; pieces = (h.0.piece, rest.pieces); are = (h.0.are, rest.are) }

pub are_pieces : (o : Opening) → IsOpened o → (table : List (List Triple)) (ps : List ColumnPiece) → ArePieces (lanes_of o) table ps → HaveEntries (field_columns o.field) (leaf_types o.field) table ps (lanes_of o)
are_pieces o h table ps k = pieces_of o.rows o.chunk_size (field_columns o.field) (leaf_types o.field) o.leaves o.outcomes table ps (opened_complete o h) k

-- ---- the array

record Size (rows before : ℕ) (n : Option ℕ) (a : ArrayTree) : Type 0 where
  count : length (slots a) ≡ piece_size n (rows - before)
  some : 0 < length (slots a)

size_of :
    (rows before : ℕ) (n : Option ℕ) (cs : List ArrowColumn) (types : List TypeTree) (ls : List Leaf) (others : List (List Outcome)) (table : List (List Triple)) (a : ArrayTree)
    → AreComplete cs types ls others → 0 < length cs → AreNext before (lanes rows n cs types ls others) table → AllZip (IsColumn a) cs table → Size rows before n a
size_of rows before n [] types ls others table a k lt h z = absurd (omega arith)
size_of rows before n (c ∷ cs) [] ls others table a k lt h z = absurd k
size_of rows before n (c ∷ cs) (t ∷ types) [] others table a k lt h z = absurd k
size_of rows before n (c ∷ cs) (t ∷ types) (l ∷ ls) [] table a k lt h z = absurd k
size_of rows before n (c ∷ cs) (t ∷ types) (l ∷ ls) (os ∷ others) [] a k lt h z = absurd h
size_of rows before n (c ∷ cs) (t ∷ types) (l ∷ ls) (os ∷ others) (ts ∷ table) a k lt h z =
    let same : length (slots a) ≡ rows_in ts = sym (counted c.way (slots a)) ∙ ap rows_in z.0 in
    record { count = same ∙ h.0.count; some = subst (λ m. 0 < m) (sym same) h.0.some }

pub item :
    (o : Opening) (before : ℕ) (table : List (List Triple)) (a : ArrayTree) → IsOpened o → AreNext before (lanes_of o) table → IsMade o table a → IsItem o before a
item o before table a h next is =
    let s = size_of o.rows before o.chunk_size (field_columns o.field) (leaf_types o.field) o.leaves o.outcomes table a (opened_complete o h) (some_column o.field h.alike.structs) next is.array.columns in
    record { typed = is.array.typed; are = is.array.slots_are; count = sym (slots_counted a) ∙ s.count; some = subst (λ m. 0 < m) (slots_counted a) s.some }

-- ---- one array more

pub made_more : (o : Opening) (tables : Tables) (arrays : List ArrayTree) (table : List (List Triple)) (a : ArrayTree) → AllZip (IsMade o) tables arrays → IsMade o table a → AllZip (IsMade o) (tables ++ table ∷ []) (arrays ++ a ∷ [])
made_more o [] [] table a h is = (is, tt)
made_more o [] (b ∷ arrays) table a h is = absurd h
made_more o (u ∷ tables) [] table a h is = absurd h
made_more o (u ∷ tables) (b ∷ arrays) table a h is = (h.0, made_more o tables arrays table a h.1 is)

pub slots_more : (arrays : List ArrayTree) (a : ArrayTree) → length (flat_map slots (arrays ++ a ∷ [])) ≡ length (flat_map slots arrays) + tree_len a
slots_more [] a = omega (arith, length-append (slots a) [], slots_counted a)
slots_more (b ∷ arrays) a =
    omega (arith, length-append (slots b) (flat_map slots (arrays ++ a ∷ [])), slots_more arrays a, length-append (slots b) (flat_map slots arrays))

pub size_within : (n : Option ℕ) (left : ℕ) → piece_size n left ≤ left
size_within None left = omega arith
size_within (Some n) left = omega arith
