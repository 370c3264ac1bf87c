use Rattle.std.proofs.Common.{◌≡◌, ◌+◌, arith}
use Rattle.columns_slots.specs.Slots.{slot_at}
use Rattle.columns_array.specs.Boxed.{boxed}
use Rattle.columns_array.proofs.Same.{items_told, run_none, run_no}
use Rattle.columns_array.proofs.arrays.equal.+same.Goals as goal

pub is_same_cell-returns-then-count-other_count : goal.is_same_cell-returns-then-count-other_count
is_same_cell-returns-then-count-other_count t c =
    let i = c.in-Items in
    let j = c.in-Items-b in
    rw (i.is, j.is) (items_told (slot_at (boxed i.x.now)) (slot_at (boxed j.y.now)) i.first j.other_first i.count j.other_count c.is_same_run.result (omega (arith, c.if-count-other_count.true)) c.is_same_run.ensures)

pub is_same_run-loop-k-init : goal.is_same_run-loop-k-init
is_same_run-loop-k-init t c = run_none (slot_at (boxed c.args.a.now)) (slot_at (boxed c.args.b.now)) c.args.a_from c.args.b_from

pub is_same_run-returns-then-not-is_same_slot : goal.is_same_run-returns-then-not-is_same_slot
is_same_run-returns-then-not-is_same_slot t c =
    run_no (slot_at (boxed c.args.a.now)) (slot_at (boxed c.args.b.now)) c.args.a_from c.args.b_from c.args.count c.loop-k.k c.is_same_slot.result (omega (arith, c.loop-k-test.true)) c.if-not-is_same_slot.true c.is_same_slot.ensures
