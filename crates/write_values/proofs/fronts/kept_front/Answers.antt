use Rattle.write_values.proofs.FirstBytes.{kept_masked}
use Rattle.write_values.proofs.fronts.kept_front.Goals as goal

pub returns : goal.returns
returns c = kept_masked c.args.number c.args.size c.ranges.number.fits c.requires
