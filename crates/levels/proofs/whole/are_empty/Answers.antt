use Rattle.std.proofs.Common.{◌≡◌, ℕ, ◌+◌, ◌<◌, arith, refl}
use Rattle.std.specs.Int.{w64, trailing_zeros}
use Rattle.shredding.specs.Parts.{item_count}
use Rattle.levels.proofs.Wholes.{all-left, left-next, none-left, lowest}
use Rattle.levels.proofs.whole.are_empty.Goals as goal

pub loop-left-init : goal.loop-left-init
loop-left-init g c = all-left c.args.nulls (λ i. item_count c.args.offsets.now (c.args.place + i) ≡ 0)

pub overflow_add-i : goal.overflow_add-i
overflow_add-i g c =
    let some : 0 < c.loop-left.left = omega (arith, c.loop-left-test.true) in
    let within = c.requires _ (c.loop-left.invariant.inside _ (lowest c.loop-left.left some c.loop-left.auto.left-fits.fits)) in
    omega (arith, within, c.len_proxy-lists.ensures, c.len_proxy-lists.type_inv)

pub place-requires : goal.place-requires
place-requires g c =
    let some : 0 < c.loop-left.left = omega (arith, c.loop-left-test.true) in
    let within = c.requires _ (c.loop-left.invariant.inside _ (lowest c.loop-left.left some c.loop-left.auto.left-fits.fits)) in
    omega (arith, within)

pub overflow_add-i-in-loop-left : goal.overflow_add-i-in-loop-left
overflow_add-i-in-loop-left g c =
    let some : 0 < c.loop-left.left = omega (arith, c.loop-left-test.true) in
    let within = c.requires _ (c.loop-left.invariant.inside _ (lowest c.loop-left.left some c.loop-left.auto.left-fits.fits)) in
    omega (arith, within, c.len_proxy-lists.ensures, c.len_proxy-lists.type_inv)

pub place-requires-in-loop-left : goal.place-requires-in-loop-left
place-requires-in-loop-left g c =
    let some : 0 < c.loop-left.left = omega (arith, c.loop-left-test.true) in
    let within = c.requires _ (c.loop-left.invariant.inside _ (lowest c.loop-left.left some c.loop-left.auto.left-fits.fits)) in
    omega (arith, within)

pub loop-left-preserved : goal.loop-left-preserved
loop-left-preserved g c =
    let some : 0 < c.loop-left.left = omega (arith, c.loop-left-test.true) in
    let t : ℕ = trailing_zeros w64 c.loop-left.left in
    let none : item_count c.args.offsets.now (c.args.place + t) ≡ 0 = omega (arith, c.place.ensures, c.place-in-loop-left.ensures, c.if-place.false) in
    left-next c.args.nulls c.loop-left.left t (λ i. item_count c.args.offsets.now (c.args.place + i) ≡ 0) some c.loop-left.auto.left-fits.fits refl none c.loop-left.invariant

pub returns : goal.returns
returns g c = λ yes. none-left c.args.nulls c.loop-left.left (λ i. item_count c.args.offsets.now (c.args.place + i) ≡ 0) (omega (arith, c.loop-left-test.false)) c.loop-left.invariant
