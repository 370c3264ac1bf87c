use Rattle.std.proofs.Common.{◌+◌, ◌<◌, ℕ, bit_and, ◌-◌, arith, sym, subst}
use Rattle.read_leaf.proofs.Spreading.{IsSpreading, spreading-none, spreading-fits, spreading-more, spreading-all}
use Rattle.read_leaf.proofs.truths.spread_bits.Goals as goal

pub loop-nulls-init : goal.loop-nulls-init
loop-nulls-init c = record { is = spreading-none c.args.count c.args.valid c.args.source c.low_bits-nulls.result c.requires.few c.ranges.valid.fits c.requires.low c.low_bits-nulls.ensures.below c.low_bits-nulls.ensures.same }

pub overflow_add-word : goal.overflow_add-word
overflow_add-word c =
    let some : 0 < c.loop-nulls.nulls = omega (arith, c.loop-nulls-test.true) in
    let fits = spreading-fits c.args.count c.args.valid c.args.source c.loop-nulls.nulls c.loop-nulls.word some c.loop-nulls.auto.nulls-fits.fits c.loop-nulls.invariant.is in
    omega (arith, fits, c.from_place-word.ensures)

pub loop-nulls-preserved : goal.loop-nulls-preserved
loop-nulls-preserved c =
    let some : 0 < c.loop-nulls.nulls = omega (arith, c.loop-nulls-test.true) in
    let more = spreading-more c.args.count c.args.valid c.args.source c.loop-nulls.nulls c.loop-nulls.word some c.loop-nulls.auto.nulls-fits.fits c.loop-nulls.invariant.is in
    record { is = subst (λ (k : ℕ). IsSpreading c.args.count c.args.valid c.args.source (bit_and c.loop-nulls.nulls (c.loop-nulls.nulls - 1)) (c.loop-nulls.word + k)) (sym c.from_place-word.ensures) more }

pub returns : goal.returns
returns c = spreading-all c.args.count c.args.valid c.args.source c.loop-nulls.nulls c.loop-nulls.word (omega (arith, c.loop-nulls-test.false)) c.loop-nulls.invariant.is
