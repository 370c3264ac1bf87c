use Rattle.std.proofs.Common.{◌+◌, ◌≤◌, ℕ, arith, ap, refl}
use Rattle.std.proofs.lemmas.Nat.{shl_whole}
use Rattle.write_places.proofs.Picked.{next_picked}
use Rattle.write_values.proofs.Picked.{one_less}
use Rattle.write_values.proofs.TruthPlaces.{picking_none, picking_more, picking_all}
use Rattle.write_values.proofs.truths.pick_each.Goals as goal

pub loop-left-init : goal.loop-left-init
loop-left-init c = record { is = picking_none c.args.values c.args.bits c.args.count c.requires.low c.requires.few }

pub overflow_shl-word : goal.overflow_shl-word
overflow_shl-word c =
    let i = c.loop-left.invariant.is in
    let n = next_picked c.loop-left.left 0 c.args.count (omega (arith, c.loop-left-test.true)) c.requires.few i.low in
    omega (arith, one_less _ _ _ _ _ n, i.room)

pub loop-left-smaller : goal.loop-left-smaller
loop-left-smaller c =
    let n = next_picked c.loop-left.left 0 c.args.count (omega (arith, c.loop-left-test.true)) c.requires.few c.loop-left.invariant.is.low in
    omega (arith, one_less _ _ _ _ _ n)

pub loop-left-preserved : goal.loop-left-preserved
loop-left-preserved c =
    let i = c.loop-left.invariant.is in
    let n = next_picked c.loop-left.left 0 c.args.count (omega (arith, c.loop-left-test.true)) c.requires.few i.low in
    let short : 1 + c.loop-left.size ≤ 64 = omega (arith, one_less _ _ _ _ _ n, i.room) in
    let whole = shl_whole _ 1 c.loop-left.size 64 (omega arith) short in
    record { is = picking_more c.args.values c.args.bits c.loop-left.left _ c.args.count _ c.loop-left.word _ c.loop-left.size _ i n refl (ap (λ (k : ℕ). c.loop-left.word + k) whole) }

pub returns-clause-are : goal.returns-clause-are
returns-clause-are c = picking_all c.args.values c.args.bits c.loop-left.left c.args.count c.loop-left.word c.loop-left.size c.loop-left.invariant.is c.loop-left-test.false
