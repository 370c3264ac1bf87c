-- What an output holds when it is read again.
use Rattle.std.proofs.Common.{◌≡◌, ◌<◌, ℕ, zero, suc, List, [], ◌∷◌, ◌++◌, length, map, flat_map, drop, Option, Some, None, refl, sym, ap, subst, arith}
use Rattle.std.specs.Prelude.{All}
use Rattle.std.specs.List.{AllZip}
use Rattle.std.proofs.lemmas.Grind.{flat_map-append}
use Rattle.std.proofs.lemmas.List.{append-nil}
use Rattle.std.proofs.lemmas.List.Elements.{All-take, All-drop}
use Rattle.shredding.specs.Cut.{cut, pieces, whole}
use Rattle.shredding.specs.Shape.{AreOf}
use Rattle.shredding.specs.Shred.{Triple, column, shred}
use Rattle.shredding.specs.Slot.{Slot, Slots, fields, Value}
use Rattle.shredding.proofs.Pieces.{pieces_are_rows}
use Rattle.shredding.proofs.Unique.{cons_head, cons_tail}
use Rattle.columns_core.specs.Shapes.{shapes_of, leaf_type}
use Rattle.columns_core.specs.Tree.{FieldTrees}
use Rattle.pq_metadata.specs.Footer.{GroupMeta}
use Rattle.pq_tree.specs.Tree.{Leaf, Schema, columns_of}
use Rattle.pq_files.specs.Carried.{Column, Group, GroupPages, IsGroup, column_in, group_in}
use Rattle.pq_files.specs.Layout.{OutChunk, OutGroup, OutPage, plain_length, rows_per_page}
use Rattle.pq_files.specs.Packed.{column_out, group_out, triples_out}
use Rattle.pq_files.specs.Page.{Encoding, values_in}
use Rattle.pq_files.specs.Stored.{AreStored}
use Rattle.schema_to_tree.specs.Table.{schema_of}
use Rattle.pq_headline.specs.Columns.{ArrowColumn, schema_columns}
use Rattle.pq_headline.specs.Lists.{AllZip3}
use Rattle.pq_headline.specs.Output.{AreLaid, IsLaid, IsPageOfRows, Style, Written, page_rows, all_chosen}
use Rattle.pq_headline.specs.Rewrites.{Asked, IsPieceOut, Piece, all_pieces, keys_out, piece_in}
use Rattle.pq_headline.specs.Rows.{HoldsRows, IsColumnOf}
use Rattle.pq_headline.proofs.Written.{zip_more}
use Rattle.rewrite_laws.specs.Laws.{OutputsHoldTheirRows}

-- ---- a column in pages

pages_stored : (s : Style) (e : Encoding) (c : Written) (rows : List (List Slot)) (ps : List OutPage) → AllZip (IsPageOfRows s e c) rows ps
    → AreStored (leaf_type c.arrow.data_type) c.physical (column c.arrow.way (flat_map (λ (x : List Slot). x) rows)) (flat_map (λ (p : OutPage). p.triples) ps)
pages_stored s e c [] [] h = tt
pages_stored s e c [] (p ∷ ps) h = absurd h
pages_stored s e c (x ∷ xs) [] h = absurd h
pages_stored s e c (x ∷ xs) (p ∷ ps) h =
    subst (λ (k : List Triple). AreStored (leaf_type c.arrow.data_type) c.physical k (p.triples ++ flat_map (λ (q : OutPage). q.triples) ps))
    (sym (flat_map-append (λ t. shred c.arrow.way t 0 0 0) x (flat_map (λ (y : List Slot). y) xs)))
    (zip_more _ (column c.arrow.way x) (column c.arrow.way (flat_map (λ (y : List Slot). y) xs)) p.triples (flat_map (λ (q : OutPage). q.triples) ps) h.0.triples (pages_stored s e c xs ps h.1))

at_least : (limit size n : ℕ) → 0 < rows_per_page limit size n
at_least limit size n = omega arith

whole_again : {A : Type 0} (rows : List A) → flat_map (λ (x : List A). x) (whole rows) ≡ rows
whole_again [] = refl
whole_again (r ∷ rs) = append-nil (r ∷ rs)

rows_again : (limit : ℕ) (rows : List Slot) (d : Option (List (Option Value))) (size : ℕ) → flat_map (λ (x : List Slot). x) (page_rows limit rows d size) ≡ rows
rows_again limit rows (Some entries) size = whole_again rows
rows_again limit rows None size = pieces_are_rows rows (rows_per_page limit size (length rows)) (at_least limit size (length rows))

laid_column : (s : Style) (e : Encoding) (c : Written) (rows : List Slot) (out : OutChunk) → IsLaid s e c rows out → AreStored (leaf_type c.arrow.data_type) c.physical (column c.arrow.way rows) (triples_out out)
laid_column s e c rows out h =
    let size = plain_length c.physical (values_in h.stored) in
    subst (λ (x : List Slot). AreStored (leaf_type c.arrow.data_type) c.physical (column c.arrow.way x) (triples_out out)) (rows_again s.page_limit rows c.entries size)
    (pages_stored s e c (page_rows s.page_limit rows c.entries size) out.pages h.pages)

laid_columns : (s : Style) (rows : List Slots) (cs : List ArrowColumn) (ls : List Leaf) (es : List Encoding) (ds : List (Option (List (Option Value)))) (outs : List OutChunk)
    → AreLaid s rows cs ls es ds outs → AllZip3 (IsColumnOf (map fields rows)) cs ls (map column_out outs)
laid_columns s rows [] [] [] [] [] h = tt
laid_columns s rows (c ∷ cs) (l ∷ ls) (e ∷ es) (d ∷ ds) (out ∷ outs) h =
    (laid_column s e (record { arrow = c; physical = l.physical; entries = d }) (map fields rows) out h.0, laid_columns s rows cs ls es ds outs h.1)
laid_columns s rows _ _ _ _ _ h = absurd h

-- ---- rows of pieces are rows of the input

abbrev AreAll : (FieldTrees) → List Piece → Type 0
AreAll fs [] = Unit {0}
AreAll fs (p ∷ ps) = All (AreOf (shapes_of fs)) p.rows × AreAll fs ps

all-append : (fs : FieldTrees) (xs ys : List Piece) → AreAll fs xs → AreAll fs ys → AreAll fs (xs ++ ys)
all-append fs [] ys a b = b
all-append fs (x ∷ xs) ys a b = (a.0, all-append fs xs ys a.1 b)

in_pieces : (fs : FieldTrees) (g : GroupPages) (fuel n : ℕ) (rows : List Slots) → All (AreOf (shapes_of fs)) rows → AreAll fs (map (piece_in g) (pieces fuel n rows))
in_pieces fs g zero n rows a = tt
in_pieces fs g (suc fuel) n [] a = tt
in_pieces fs g (suc fuel) n (r ∷ rs) a = (All-take (AreOf (shapes_of fs)) n (r ∷ rs) a, in_pieces fs g fuel n (drop n (r ∷ rs)) (All-drop (AreOf (shapes_of fs)) n (r ∷ rs) a))

in_cut : (fs : FieldTrees) (g : GroupPages) (n : Option ℕ) (rows : List Slots) → All (AreOf (shapes_of fs)) rows → AreAll fs (map (piece_in g) (cut rows n))
in_cut fs g None [] a = tt
in_cut fs g None (r ∷ rs) a = (a, tt)
in_cut fs g (Some n) rows a = in_pieces fs g (length rows) n rows a

of_input : (fs : FieldTrees) (bytes : List ℕ) (place : ℕ) (ls : List Leaf) (n : Option ℕ) (ms : List GroupMeta) (gs : List GroupPages) (rows : List (List Slots))
    → AllZip3 (HoldsRows fs bytes place ls) ms gs rows → AreAll fs (all_pieces n gs rows)
of_input fs bytes place ls n [] [] [] h = tt
of_input fs bytes place ls n (m ∷ ms) (g ∷ gs) (r ∷ rs) h = all-append fs (map (piece_in g) (cut r n)) (all_pieces n gs rs) (in_cut fs g n r h.0.rows_are.are) (of_input fs bytes place ls n ms gs rs h.1)
of_input fs bytes place ls n [] [] (r ∷ rs) h = absurd h
of_input fs bytes place ls n [] (g ∷ gs) rs h = absurd h
of_input fs bytes place ls n (m ∷ ms) [] rs h = absurd h
of_input fs bytes place ls n (m ∷ ms) (g ∷ gs) [] h = absurd h

-- ---- the groups of the output

same_columns : (out : OutGroup) (g : GroupPages) → group_out out ≡ group_in g → map column_out out.chunks ≡ map column_in g.chunks
same_columns out g e = ap (λ (x : Group). x.columns) e

group_again : (asked : Asked) (fs : FieldTrees) (tree : Schema) (bytes : List ℕ) (place : ℕ) (m : GroupMeta) (g : GroupPages) (p : Piece) (out : OutGroup)
    → All (AreOf (shapes_of fs)) p.rows → IsPieceOut asked fs tree p out → group_out out ≡ group_in g → IsGroup bytes place (columns_of (schema_of fs)) m g.rows g.chunks
    → HoldsRows fs bytes place (columns_of (schema_of fs)) m g p.rows
group_again asked fs tree bytes place m g p out a h e is =
    record {
      is = is;
      rows_are =
          record {
            are = a;
            shred =
                subst (λ (x : List Column). AllZip3 (IsColumnOf (map fields p.rows)) (schema_columns fs) (columns_of (schema_of fs)) x) (same_columns out g e)
                (laid_columns asked.style p.rows (schema_columns fs) (columns_of (schema_of fs)) (all_chosen asked.delta (schema_columns fs) (columns_of (schema_of fs))) h.entries out.chunks h.laid.columns);
          };
    }

groups_again : (asked : Asked) (fs : FieldTrees) (tree : Schema) (bytes : List ℕ) (place : ℕ) (ms : List GroupMeta) (gs : List GroupPages) (ps : List Piece) (outs : List OutGroup)
    → AreAll fs ps → AllZip (IsPieceOut asked fs tree) ps outs → map group_out outs ≡ map group_in gs → AllZip (λ m g. IsGroup bytes place (columns_of (schema_of fs)) m g.rows g.chunks) ms gs
    → AllZip3 (HoldsRows fs bytes place (columns_of (schema_of fs))) ms gs (map (λ p. p.rows) ps)
groups_again asked fs tree bytes place [] [] [] [] a h e is = tt
groups_again asked fs tree bytes place (m ∷ ms) (g ∷ gs) (p ∷ ps) (out ∷ outs) a h e is = (
  group_again asked fs tree bytes place m g p out a.0 h.0 (cons_head (group_out out) (group_in g) (map group_out outs) (map group_in gs) e) is.0,
  groups_again asked fs tree bytes place ms gs ps outs a.1 h.1 (cons_tail (group_out out) (group_in g) (map group_out outs) (map group_in gs) e) is.1,
)
groups_again asked fs tree bytes place [] [] [] (out ∷ outs) a h e is = absurd h
groups_again asked fs tree bytes place [] [] (p ∷ ps) [] a h e is = absurd h
groups_again asked fs tree bytes place [] [] (p ∷ ps) (out ∷ outs) a h e is = let k : suc (length (map group_out outs)) ≡ 0 = ap length e in absurd (omega (arith, k))
groups_again asked fs tree bytes place [] (g ∷ gs) ps outs a h e is = absurd is
groups_again asked fs tree bytes place (m ∷ ms) [] ps outs a h e is = absurd is
groups_again asked fs tree bytes place (m ∷ ms) (g ∷ gs) [] (out ∷ outs) a h e is = absurd h
groups_again asked fs tree bytes place (m ∷ ms) (g ∷ gs) (p ∷ ps) [] a h e is = absurd h
groups_again asked fs tree bytes place (m ∷ ms) (g ∷ gs) [] [] a h e is = let k : 0 ≡ suc (length (map group_in gs)) = ap length e in absurd (omega (arith, k))

pub outputs_hold : OutputsHoldTheirRows
outputs_hold codec asked input output counts shown r =
    let fs = r.schema.fields in
    let c = r.packed.carried in
    let h = c.1 in
    record {
      footer = record { schema = schema_of fs; groups = h.metas; keys = keys_out codec r.schema r.footer.keys };
      tree = refl;
      keys_are = refl;
      holds =
          record {
            place = h.place;
            has_footer = record { footer = h.footer; framed = h.framed; said = h.said };
            groups = c.0;
            hold =
                groups_again asked fs r.footer.schema output h.place h.metas c.0 (all_pieces asked.chunk_size r.converts.groups r.converts.rows) r.outs
                (of_input fs input r.place (columns_of r.footer.schema) asked.chunk_size r.footer.groups r.converts.groups r.converts.rows r.converts.hold) r.converts.pieces c.2 h.are;
          };
    }
