use Rattle.std.proofs.Common.{◌≡◌, ◌++◌, ℕ, List, ap, sym, ◌∙◌, ◌+◌, ◌-◌, drop, length}
use Rattle.schema_fb.specs.Views.{cell_view, cells_view}
use Rattle.schema_fb.proofs.Lengths.{slots_left}
use Rattle.schema_fb.proofs.Steps.{turn, cells_step, cells_begin}
use Rattle.schema_fb.proofs.pushing.push_cells.Goals as goal

pub loop-i-init : goal.loop-i-init
loop-i-init c = ap (λ (t : List ℕ). c.args.out.now.items ++ t) (cells_begin (cells_view c.deref-cell-items.result.now))

pub loop-i-preserved : goal.loop-i-preserved
loop-i-preserved c =
    let cells = c.deref-cell-items.result.now in
    let i = c.loop-i.i in
    let cell = c.cell-item.result in
    let is = ap cells_view (turn cells i cell c.loop-i-test.true c.cell-item.is) in
    let size : c.len.result ≡ length cells = c.len.ensures ∙ sym c.deref-cell-items.ensures.len in
    cells_step c.loop-i.out.items c.push_cell.new.out.items _ c.loop-i.before c.cell_size-before.result (c.len.result - i) (cell_view cell) (cells_view (drop i cells)) (cells_view (drop (i + 1) cells)) is (slots_left cells c.len.result i size) c.cell_size-before.ensures c.in_ok-push_cell.ensures c.loop-i.invariant
