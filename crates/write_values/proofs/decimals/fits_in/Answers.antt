use Rattle.std.proofs.Common.{rules}
use Rattle.write_values.proofs.decimals.fits_in.Goals as goal
use Rattle.write_values.proofs.DecimalBits.{shifted}

pub returns-else-above-eq0 : goal.returns-else-above-eq0
returns-else-above-eq0 c = shifted c.args.number c.args.bits c.ranges.number (search rules)
