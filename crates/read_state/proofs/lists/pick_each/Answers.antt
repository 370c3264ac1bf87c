use Rattle.std.proofs.Common.{◌≡◌, ◌-◌, ◌*◌, ◌/◌, ◌%◌, ◌<◌, ◌^◌, ℕ, count_ones, arith, ap, refl, ◌∙◌}
use Rattle.std.specs.Int.{w64, trailing_zeros}
use Rattle.std.proofs.lemmas.Nat.{shl_whole}
use Rattle.read_state.proofs.Picking.{picking-none, pick-within, pick-some, pick-set, pick-next, picking-done}
use Rattle.read_state.proofs.lists.pick_each.Goals as goal

pub loop-left-init : goal.loop-left-init
loop-left-init c = picking-none c.args.pushed c.args.there c.ranges.pushed.fits

pub overflow_sub-word : goal.overflow_sub-word
overflow_sub-word c =
    let some : 0 < c.loop-left.left = omega (arith, c.loop-left-test.true) in
    omega (arith, c.ones_of.ensures.is, c.ones_of-end.ensures.is, pick-within _ _ _ _ _ _ some c.loop-left.auto.left-fits.fits refl c.loop-left.invariant)

pub overflow_shl-word : goal.overflow_shl-word
overflow_shl-word c =
    let some : 0 < c.loop-left.left = omega (arith, c.loop-left-test.true) in
    omega (arith, c.ones_of.ensures.is, c.ones_of-end.ensures.few, pick-some _ _ _ _ _ _ some c.loop-left.auto.left-fits.fits refl c.loop-left.invariant)

pub overflow_sub-word-in-loop-left : goal.overflow_sub-word-in-loop-left
overflow_sub-word-in-loop-left c =
    let some : 0 < c.loop-left.left = omega (arith, c.loop-left-test.true) in
    let t : ℕ = trailing_zeros w64 c.loop-left.left in
    let rank : ℕ = c.ones_of-end.result - c.ones_of.result in
    let few : rank < 64 = omega (arith, c.ones_of.ensures.is, c.ones_of-end.ensures.few, pick-some _ _ _ _ _ _ some c.loop-left.auto.left-fits.fits refl c.loop-left.invariant) in
    let whole : 1 * 2 ^ rank % 2 ^ 64 ≡ 1 * 2 ^ rank = shl_whole 1 1 rank 64 (omega arith) (omega (arith, few)) in
    let is : rank ≡ count_ones c.args.pushed - count_ones (c.args.pushed / 2 ^ t) = ap (λ (n : ℕ). n - c.ones_of.result) c.ones_of-end.ensures.is ∙ ap (λ (n : ℕ). count_ones c.args.pushed - n) c.ones_of.ensures.is in
    let set = pick-set _ _ _ _ _ _ some c.loop-left.auto.left-fits.fits refl c.loop-left.invariant in
    omega (arith, whole, set, ap (λ (n : ℕ). 2 ^ n) is)

pub loop-left-preserved : goal.loop-left-preserved
loop-left-preserved c =
    let some : 0 < c.loop-left.left = omega (arith, c.loop-left-test.true) in
    let t : ℕ = trailing_zeros w64 c.loop-left.left in
    let rank : ℕ = c.ones_of-end.result - c.ones_of.result in
    let few : rank < 64 = omega (arith, c.ones_of.ensures.is, c.ones_of-end.ensures.few, pick-some _ _ _ _ _ _ some c.loop-left.auto.left-fits.fits refl c.loop-left.invariant) in
    let whole : 1 * 2 ^ rank % 2 ^ 64 ≡ 2 ^ rank = shl_whole 1 1 rank 64 (omega arith) (omega (arith, few)) ∙ omega arith in
    let is : rank ≡ count_ones c.args.pushed - count_ones (c.args.pushed / 2 ^ t) = ap (λ (n : ℕ). n - c.ones_of.result) c.ones_of-end.ensures.is ∙ ap (λ (n : ℕ). count_ones c.args.pushed - n) c.ones_of.ensures.is in
    pick-next _ _ _ _ _ _ some c.loop-left.auto.left-fits.fits refl c.loop-left.invariant _ (ap (λ (n : ℕ). c.loop-left.word - n) (whole ∙ ap (λ (n : ℕ). 2 ^ n) is))

pub returns : goal.returns
returns c = picking-done _ _ _ _ _ c.ranges.pushed.fits (omega (arith, c.loop-left-test.false)) c.loop-left.invariant
