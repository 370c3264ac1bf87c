use Rattle.std.proofs.Common.{arith}
use Rattle.schema_to_tree.proofs.Lengths.{power_fits, none_short, next_fits, short-next, found, decimal_length-least, length-unique}
use Rattle.schema_to_tree.proofs.decimals.decimal_length_from_precision.Goals as goal

pub pow-greatest-requires : goal.pow-greatest-requires
pow-greatest-requires c = power_fits _ c.requires.to_38

pub loop-length-init : goal.loop-length-init
loop-length-init c = record { from_one = omega arith; to_16 = omega arith; short = none_short c.args.precision }

pub loop-length-smaller : goal.loop-length-smaller
loop-length-smaller c = omega (arith, next_fits _ _ _ c.requires.to_38 c.loop-length.invariant.to_16 c.pow-greatest.ensures c.loop-length-test.true)

pub loop-length-preserved : goal.loop-length-preserved
loop-length-preserved c =
    record {
      from_one = omega arith;
      to_16 = omega (arith, next_fits _ _ _ c.requires.to_38 c.loop-length.invariant.to_16 c.pow-greatest.ensures c.loop-length-test.true);
      short = short-next _ _ _ c.loop-length.invariant.short c.loop-length.invariant.to_16 c.pow-greatest.ensures c.loop-length-test.true;
    }

pub returns-clause-value : goal.returns-clause-value
returns-clause-value c =
    length-unique _ _ _ (found _ _ _ c.loop-length.invariant.short c.loop-length.invariant.to_16 c.pow-greatest.ensures c.loop-length-test.false) (decimal_length-least _ c.requires.to_38)

pub returns-clause-least : goal.returns-clause-least
returns-clause-least c = found _ _ _ c.loop-length.invariant.short c.loop-length.invariant.to_16 c.pow-greatest.ensures c.loop-length-test.false
