use Rattle.write_values.proofs.Lowest.{lowest-off}
use Rattle.write_values.proofs.strings.without_lowest.Goals as goal

pub returns : goal.returns
returns c = lowest-off c.args.word c.requires c.ranges.word.fits
