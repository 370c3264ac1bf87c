use Rattle.std.proofs.Common.{◌≡◌, ◌++◌, drop}
use Rattle.schema_fb.specs.Layout.{entries}
use Rattle.schema_fb.specs.Views.{cells_view}
use Rattle.schema_fb.proofs.pushing.push_entries.Given as goal

abbrev pub invariant-loop-cell : goal.invariant-loop-cell
invariant-loop-cell l = l.out.items ++ entries l.place (cells_view (drop l.cell-index l.cell-items)) ≡ l.initial.out.items ++ entries 8 (cells_view l.cell-items)
