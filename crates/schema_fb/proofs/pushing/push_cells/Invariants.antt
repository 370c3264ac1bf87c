use Rattle.std.proofs.Common.{◌≡◌, ◌+◌, ◌*◌, ◌++◌, drop}
use Rattle.schema_fb.specs.Layout.{slots, table_size, cells_bytes}
use Rattle.schema_fb.specs.Views.{cells_view}
use Rattle.schema_fb.proofs.pushing.push_cells.Given as goal

abbrev pub invariant-loop-i : goal.invariant-loop-i
invariant-loop-i l =
    let left = cells_view (drop l.i l.cell-items) in
    let all = cells_view l.cell-items in
    l.out.items ++ cells_bytes 0 (8 * slots left + l.before) left ≡ l.initial.out.items ++ cells_bytes 8 (table_size all) all
