-- The pairs of the sample's columns.
use Rattle.std.proofs.Common.{◌*◌, ◌≤◌, List, [], ◌∷◌, length, map, arith}
use Rattle.std.specs.List.{AllByRecursion}
use Rattle.std.proofs.lemmas.List.{length-map}
use Rattle.std.proofs.lemmas.List.Elements.{All-from_recursion, recursion_from_All}
use Rattle.shredding.specs.Shred.{column}
use Rattle.shredding.specs.Slot.{Slots, fields}
use Rattle.pq_headline.specs.Columns.{ArrowColumn, schema_columns}
use Rattle.pq_tree.specs.Tree.{Leaf, columns_of}
use Rattle.sample_rows.specs.Fields.{sample_fields}
use Rattle.sample_sizes.proofs.Fine.{AreFine, are_fine, as_slots}
use Rattle.sample_sizes.proofs.Slim.{IsSlot, rows_few}
use Rattle.sample_sizes.specs.Laws.{PairsAreFew}
use Rattle.sample_sizes.specs.Rows.{IsRow}
use Rattle.schema_to_tree.specs.Table.{schema_of}

each_column : (rows : List Slots) (cs : List ArrowColumn) (ls : List Leaf) → AreFine cs ls → AllByRecursion IsSlot (map fields rows) → AllByRecursion (λ c. length (column c.way (map fields rows)) ≤ 3 * length rows) cs
each_column rows [] ls f h = tt
each_column rows (c ∷ cs) [] f h = absurd f
each_column rows (c ∷ cs) (l ∷ ls) f h = (omega (arith, length-map rows fields, (rows_few c.way (map fields rows) f.0.slim h).short), each_column rows cs ls f.1 h)

pub pairs_are_few : PairsAreFew
pairs_are_few rows h =
    All-from_recursion (λ c. length (column c.way (map fields rows)) ≤ 3 * length rows) (schema_columns sample_fields)
    (each_column rows (schema_columns sample_fields) (columns_of (schema_of sample_fields)) are_fine (as_slots rows (recursion_from_All IsRow rows h)))
