use Rattle.std.proofs.Common.{◌+◌, arith}
use Rattle.columns_core.proofs.Packed.{count_fits, count_one}
use Rattle.columns_core.proofs.bit_runs.unset_single.Goals as goal

pub overflow_add-unset : goal.overflow_add-unset
overflow_add-unset c =
    omega (arith, count_fits c.args.bytes.now c.args.from (c.loop-i.i + 1), count_one c.args.bytes.now c.args.from c.loop-i.i _ c.bit_in.ensures, c.loop-i.invariant, c.loop-i-test.true, c.requires.counted, c.from-unset.ensures)

pub loop-i-preserved : goal.loop-i-preserved
loop-i-preserved c =
    omega (arith, count_one c.args.bytes.now c.args.from c.loop-i.i _ c.bit_in.ensures, c.loop-i.invariant, c.from-unset.ensures)
