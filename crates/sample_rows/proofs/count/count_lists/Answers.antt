use Rattle.std.proofs.Common.{◌≡◌, [], subst, arith}
use Rattle.columns_slots.specs.Slots.{slot_at, slots, tree_len}
use Rattle.shredding.specs.Parts.{slots_from}
use Rattle.sample_rows.proofs.Counted.{totals_are}
use Rattle.sample_rows.proofs.count.count_lists.Goals as goal
use Rattle.sample_rows.specs.Present.{present}
use Rattle.sample_rows.specs.Totals.{AreOf}

pub returns : goal.returns
returns c =
    let n : c.loop-row.row ≡ tree_len c.args.lists.now = omega (arith, c.loop-row.auto.row-end, c.loop-row-test.false, c.len-row-end.ensures) in
    let h : AreOf c.loop-row.totals (present (slots_from (slot_at c.args.lists.now) 0 c.loop-row.row)) = c.loop-row.invariant.adds.are [] c.none-totals.ensures.are in
    totals_are c.loop-row.totals (slots c.args.lists.now) (subst (λ k. AreOf c.loop-row.totals (present (slots_from (slot_at c.args.lists.now) 0 k))) n h)
