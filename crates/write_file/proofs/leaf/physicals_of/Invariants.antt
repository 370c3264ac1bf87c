use Rattle.std.proofs.Common.{◌≡◌, map, take}
use Rattle.pq_tree.specs.Views.{physical_view}
use Rattle.write_file.proofs.leaf.physicals_of.Given as goal

abbrev pub invariant-loop-column : goal.invariant-loop-column
invariant-loop-column l = map physical_view l.physicals.items ≡ map (λ d. physical_view d.primitive_type.physical_type) (take l.column-index l.columns)
