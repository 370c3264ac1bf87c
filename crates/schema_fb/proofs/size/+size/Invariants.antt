use Rattle.std.proofs.Common.{◌≡◌, ◌+◌, ◌%◌, ◌^◌, length, drop}
use Rattle.schema_fb.specs.Layout.{below_bytes, objects_bytes}
use Rattle.schema_fb.specs.Views.{objects_view, cells_view}
use Rattle.schema_fb.proofs.size.+size.Given as goal

abbrev pub invariant-objects_size-loop-object : goal.invariant-objects_size-loop-object
invariant-objects_size-loop-object l = (l.total + length (objects_bytes (objects_view (drop l.object-index l.object-items)))) % 2 ^ 64 ≡ length (objects_bytes (objects_view l.object-items)) % 2 ^ 64

abbrev pub invariant-below_size-loop-cell : goal.invariant-below_size-loop-cell
invariant-below_size-loop-cell l = (l.total + length (below_bytes (cells_view (drop l.cell-index l.cell-items)))) % 2 ^ 64 ≡ length (below_bytes (cells_view l.cell-items)) % 2 ^ 64
