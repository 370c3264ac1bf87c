use Rattle.std.proofs.Common.{◌≡◌, ◌++◌, drop}
use Rattle.schema_fb.specs.Layout.{objects_bytes, below_bytes}
use Rattle.schema_fb.specs.Views.{objects_view, cells_view}
use Rattle.schema_fb.proofs.pushing.+push.Given as goal

abbrev pub invariant-push_objects-loop-object : goal.invariant-push_objects-loop-object
invariant-push_objects-loop-object l = l.out.items ++ objects_bytes (objects_view (drop l.object-index l.object-items)) ≡ l.initial.out.items ++ objects_bytes (objects_view l.object-items)

abbrev pub invariant-push_below-loop-cell : goal.invariant-push_below-loop-cell
invariant-push_below-loop-cell l = l.out.items ++ below_bytes (cells_view (drop l.cell-index l.cell-items)) ≡ l.initial.out.items ++ below_bytes (cells_view l.cell-items)
