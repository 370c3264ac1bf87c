use Rattle.std.proofs.Common.{ap, ◌+◌, drop}
use Rattle.schema_fb.specs.Views.{cell_view, cells_view}
use Rattle.schema_fb.proofs.Steps.{turn, entries_step}
use Rattle.schema_fb.proofs.pushing.push_entries.Goals as goal

pub loop-cell-preserved : goal.loop-cell-preserved
loop-cell-preserved c =
    let cells = c.deref-cell-items.result.now in
    let i = c.loop-cell.cell-index in
    let cell = c.cell-item.result in
    let is = ap cells_view (turn cells i cell c.loop-cell-test.true c.cell-item.is) in
    entries_step c.loop-cell.out.items c.push_entry.new.out.items _ c.loop-cell.place (cell_view cell) (cells_view (drop i cells)) (cells_view (drop (i + 1) cells)) is c.in_ok-push_entry.ensures c.loop-cell.invariant
