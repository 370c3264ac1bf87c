-- The groups that a rewrite writes.
use Rattle.std.proofs.Common.{◌≡◌, ℕ, zero, suc, List, [], ◌∷◌, ◌++◌, All, map, flat_map, drop, length, Option, Some, None, Bool, true, false, true≢false, refl, ap, ◌∙◌}
use Rattle.std.proofs.lemmas.List.{map-append, map-id}
use Rattle.std.proofs.lemmas.List.Elements.{All-from_recursion, All-take, All-drop, recursion_from_All}
use Rattle.std.proofs.lemmas.Simd.{map-map}
use Rattle.std.specs.List.{AllByRecursion, AllZip}
use Rattle.shredding.specs.Cut.{cut, pieces}
use Rattle.shredding.specs.Shape.{AreOf}
use Rattle.shredding.specs.Slot.{Slots, Value}
use Rattle.columns_core.specs.Shapes.{shapes_of}
use Rattle.columns_core.specs.Tree.{FieldTrees}
use Rattle.pq_files.specs.Carried.{Column, GroupPages, column_in}
use Rattle.pq_files.specs.Layout.{OutGroup}
use Rattle.pq_metadata.specs.Footer.{GroupMeta}
use Rattle.pq_tree.specs.Tree.{Leaf, Schema, columns_of}
use Rattle.pq_headline.specs.Columns.{ArrowColumn, is_dictionary, schema_columns}
use Rattle.pq_headline.specs.Lists.{AllZip3}
use Rattle.pq_headline.specs.Output.{Style}
use Rattle.pq_headline.specs.Rewrites.{Asked, IsPieceOut, Piece, all_pieces, piece_in}
use Rattle.pq_headline.specs.Rows.{AreAllEntries, HasEntriesOf}
use Rattle.unique_rows.specs.Held.{AreRowsIn}
use Rattle.unique_rows.specs.Rewritten.{HasNoDictionary}

-- ---- the pieces
pub piece_rows : (R : GroupMeta → GroupPages → List Slots → Type 0) (n : Option ℕ) (ms : List GroupMeta) (groups : List GroupPages) (rows : List (List Slots))
    → AllZip3 R ms groups rows → map (λ p. p.rows) (all_pieces n groups rows) ≡ flat_map (λ r. cut r n) rows
piece_rows R n [] [] [] h = refl
piece_rows R n [] [] (r ∷ rs) h = absurd h
piece_rows R n [] (g ∷ gs) rs h = absurd h
piece_rows R n (m ∷ ms) [] rs h = absurd h
piece_rows R n (m ∷ ms) (g ∷ gs) [] h = absurd h
piece_rows R n (m ∷ ms) (g ∷ gs) (r ∷ rs) h =
    map-append (λ p. p.rows) (map (piece_in g) (cut r n)) (all_pieces n gs rs)
    ∙ ap (λ xs. xs ++ map (λ p. p.rows) (all_pieces n gs rs)) (map-map (λ p. p.rows) (piece_in g) (cut r n) ∙ map-id (cut r n))
    ∙ ap (λ xs. cut r n ++ xs) (piece_rows R n ms gs rs h.1)

-- ---- what holds of all rows holds of those of each piece
pieces_all : (P : Slots → Type 0) (fuel n : ℕ) (rows : List Slots) → All P rows → AllByRecursion (All P) (pieces fuel n rows)
pieces_all P zero n rows h = tt
pieces_all P (suc fuel) n [] h = tt
pieces_all P (suc fuel) n (r ∷ rs) h = (All-take P n (r ∷ rs) h, pieces_all P fuel n (drop n (r ∷ rs)) (All-drop P n (r ∷ rs) h))

cut_all : (P : Slots → Type 0) (n : Option ℕ) (rows : List Slots) → All P rows → AllByRecursion (All P) (cut rows n)
cut_all P None [] h = tt
cut_all P None (r ∷ rs) h = (h, tt)
cut_all P (Some n) rows h = pieces_all P (length rows) n rows h

both_all : (P : List Slots → Type 0) (xs ys : List (List Slots)) → AllByRecursion P xs → AllByRecursion P ys → AllByRecursion P (xs ++ ys)
both_all P [] ys a b = b
both_all P (x ∷ xs) ys a b = (a.0, both_all P xs ys a.1 b)

pub all_cut_all : (P : Slots → Type 0) (n : Option ℕ) (rowss : List (List Slots)) → AllByRecursion (All P) rowss → AllByRecursion (All P) (flat_map (λ r. cut r n) rowss)
all_cut_all P n [] h = tt
all_cut_all P n (r ∷ rs) h = both_all (All P) (cut r n) (flat_map (λ r. cut r n) rs) (cut_all P n r h.0) (all_cut_all P n rs h.1)

pub rows_are : (s : Style) (fs : FieldTrees) (rowss : List (List Slots)) (outs : List OutGroup) → AllZip (AreRowsIn s fs) rowss outs → AllByRecursion (All (AreOf (shapes_of fs))) rowss
rows_are s fs [] [] h = tt
rows_are s fs [] (o ∷ os) h = absurd h
rows_are s fs (r ∷ rs) [] h = absurd h
rows_are s fs (r ∷ rs) (o ∷ os) h = (h.0.are, rows_are s fs rs os h.1)

-- ---- without dictionaries there are no entries
pub no_entry : (b : Bool) (c : ArrowColumn) (l : Leaf) (got : Column) (d : Option (List (Option Value))) → b ≡ false → HasEntriesOf b c.data_type l.physical got.entries d → d ≡ None
no_entry true c l got d e h = absurd (true≢false e)
no_entry false c l got None e h = refl
no_entry false c l got (Some d) e h = absurd h

no_entries : (cs : List ArrowColumn) (ls : List Leaf) (gots : List Column) (ds : List (Option (List (Option Value)))) → AllByRecursion (λ c. is_dictionary c.data_type ≡ false) cs → AreAllEntries cs ls gots ds → AllByRecursion (λ d. d ≡ None) ds
no_entries [] [] [] [] n h = tt
no_entries [] [] [] (d ∷ ds) n h = absurd h
no_entries [] [] (g ∷ gs) ds n h = absurd h
no_entries [] (l ∷ ls) gs ds n h = absurd h
no_entries (c ∷ cs) [] gs ds n h = absurd h
no_entries (c ∷ cs) (l ∷ ls) [] ds n h = absurd h
no_entries (c ∷ cs) (l ∷ ls) (g ∷ gs) [] n h = absurd h
no_entries (c ∷ cs) (l ∷ ls) (g ∷ gs) (d ∷ ds) n h = (no_entry (is_dictionary c.data_type) c l g d n.0 h.0, no_entries cs ls gs ds n.1 h.1)

-- ---- the groups
pub outs_are : (asked : Asked) (fs : FieldTrees) (tree : Schema) (ps : List Piece) (outs : List OutGroup) → HasNoDictionary fs → AllByRecursion (All (AreOf (shapes_of fs))) (map (λ p. p.rows) ps)
    → AllZip (IsPieceOut asked fs tree) ps outs → AllZip (AreRowsIn asked.style fs) (map (λ p. p.rows) ps) outs
outs_are asked fs tree [] [] n a h = tt
outs_are asked fs tree [] (o ∷ os) n a h = absurd h
outs_are asked fs tree (p ∷ ps) [] n a h = absurd h
outs_are asked fs tree (p ∷ ps) (o ∷ os) n a h = (
  record {
    are = a.0;
    deltas = asked.delta;
    entries = h.0.entries;
    none = All-from_recursion (λ d. d ≡ None) h.0.entries (no_entries (schema_columns fs) (columns_of tree) (map column_in p.source.chunks) h.0.entries (recursion_from_All (λ c. is_dictionary c.data_type ≡ false) (schema_columns fs) n) h.0.of_source);
    laid = h.0.laid;
  },
  outs_are asked fs tree ps os n a.1 h.1,
)
