use Rattle.std.proofs.Common.{◌*◌, ◌+◌, arith}
use Rattle.columns_core.proofs.Packed.{count_fits, count_eight}
use Rattle.columns_core.proofs.bit_runs.unset_whole.Goals as goal

pub overflow_add-unset : goal.overflow_add-unset
overflow_add-unset c =
    omega (arith, count_fits c.args.bytes.now c.args.from (8 * (c.loop-i.i + 1)), count_eight c.args.bytes.now c.args.from c.loop-i.i _ _ c.eight_bits.ensures c.unset_of-unset.ensures, c.loop-i.invariant, c.loop-i-test.true, c.requires.counted)

pub loop-i-preserved : goal.loop-i-preserved
loop-i-preserved c =
    omega (arith, count_eight c.args.bytes.now c.args.from c.loop-i.i _ _ c.eight_bits.ensures c.unset_of-unset.ensures, c.loop-i.invariant)
