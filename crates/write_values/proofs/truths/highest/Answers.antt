use Rattle.write_values.proofs.ClosedGaps.{highest_place}
use Rattle.write_values.proofs.truths.highest.Goals as goal

pub returns-clause-least : goal.returns-clause-least
returns-clause-least c = (highest_place c.args.word c.requires c.ranges.word.fits).0

pub returns-clause-most : goal.returns-clause-most
returns-clause-most c = (highest_place c.args.word c.requires c.ranges.word.fits).1
