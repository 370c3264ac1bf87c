-- The columns of a field are laid out by the row rule.
use Rattle.std.proofs.Common.{ℕ, List, [], ◌∷◌, map, subst}
use Rattle.shredding.specs.Parts.{Part}
use Rattle.shredding.specs.Shape.{Way, ways}
use Rattle.shredding.specs.Slot.{Slot, Slots}
use Rattle.columns_slots.specs.Tree.{ArrayTree}
use Rattle.nested_paths.specs.Leaves.{array_leaves, node_of}
use Rattle.nested_paths.specs.Paths.{paths}
use Rattle.nested_paths.specs.Seen.{AreSeen, shape_by}
use Rattle.pq_files.specs.Layout.{OutChunk}
use Rattle.pq_headline.specs.Columns.{ArrowColumn}
use Rattle.pq_headline.specs.Output.{AreLaid}
use Rattle.pq_headline.specs.Rows.{field_slots}
use Rattle.pq_tree.specs.Tree.{Leaf, leaves}
use Rattle.pq_tree.specs.declared.types.Encoding.{Encoding as RustEncoding}
use Rattle.pq_tree.specs.declared.version.Version.{Version}
use Rattle.write_file.specs.Pages.{AllGive}
use Rattle.write_pages.specs.Columns.{AreColumns}
use Rattle.write_pages.specs.Entries.{leaf_entries}
use Rattle.write_pages.specs.declared.options.WriteOptions.{WriteOptions}
use Rattle.write_groups.proofs.Laid.{laid}
use Rattle.write_groups.specs.Given.{BeginsColumn, to_come}
use Rattle.write_groups.specs.Laid.{AreOwnColumns, AreUsed, FieldsAreLaid, encodings_of, style_of}
use Rattle.write_groups.specs.declared.column.ChunkColumn.{ChunkColumn}

each_laid : (o : WriteOptions) (version : Version) (i : ℕ) (rows : List Slots) (ls : List Leaf) (ws : List Way) (ps : List (List Part)) (arrays : List ArrayTree) (es : List RustEncoding) (ss : List ChunkColumn) (chunks : List OutChunk) (cs : List ArrowColumn)
    → AreColumns o (map node_of ls) ps arrays es (map to_come ss) → AreSeen (field_slots i rows) ws ps arrays → AllGive BeginsColumn version ls chunks ss → AreOwnColumns i ws arrays cs
    → AreUsed cs (map leaf_entries arrays) es (encodings_of ss) × AreLaid (style_of o) rows cs ls (encodings_of ss) (map leaf_entries arrays) chunks
each_laid o version i rows [] [] [] [] [] [] [] [] h s k own = (tt, tt)
each_laid o version i rows (l ∷ ls) (w ∷ ws) (p ∷ ps) (a ∷ arrays) (e ∷ es) (y ∷ ss) (k ∷ chunks) (c ∷ cs) h s g own =
    let one = laid o (node_of l) p a e (to_come y) version l k c i w rows h.0 s.0 g.0.2 own.0 own.1 in
    let rest = each_laid o version i rows ls ws ps arrays es ss chunks cs h.1 s.1 g.2 own.2 in
    ((one.0, rest.0), (one.1, rest.1))
each_laid o version i rows [] (w ∷ ws) [] [] [] [] chunks cs h s k own = absurd s
each_laid o version i rows [] [] [] [] [] [] (k ∷ chunks) cs h s g own = absurd g
each_laid o version i rows [] [] [] [] [] [] [] (c ∷ cs) h s k own = absurd own
each_laid o version i rows (l ∷ ls) [] (p ∷ ps) (a ∷ arrays) (e ∷ es) (y ∷ ss) chunks cs h s k own = absurd s
each_laid o version i rows (l ∷ ls) (w ∷ ws) (p ∷ ps) (a ∷ arrays) (e ∷ es) (y ∷ ss) [] cs h s k own = absurd k
each_laid o version i rows (l ∷ ls) (w ∷ ws) (p ∷ ps) (a ∷ arrays) (e ∷ es) (y ∷ ss) (k ∷ chunks) [] h s g own = absurd own
each_laid o version i rows ls ws ps arrays es ss chunks cs h s k own = absurd h

pub field_laid : FieldsAreLaid
field_laid o a t es columns version chunks cs i rows h give read own =
    each_laid o version i rows (leaves t) (ways (shape_by a t)) (paths a t) (array_leaves a) es columns chunks cs h.are (subst (λ (xs : List Slot). AreSeen xs (ways (shape_by a t)) (paths a t) (array_leaves a)) read h.seen) give own
