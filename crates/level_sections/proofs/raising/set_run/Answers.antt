use Rattle.std.proofs.Common.{arith}
use Rattle.level_sections.proofs.FullLists.{no-run, set-run}
use Rattle.level_sections.proofs.raising.set_run.Goals as goal

pub returns-clause-set : goal.returns-clause-set
returns-clause-set c i h = set-run c.args.word c.args.at c.trailing_ones.result i c.ranges.word.fits c.trailing_ones.ensures (omega (arith, h, c.min.ensures))

pub returns-clause-none : goal.returns-clause-none
returns-clause-none c z = no-run c.args.word c.args.at c.trailing_ones.result c.ranges.word.fits c.trailing_ones.ensures (omega (arith, z, c.min.ensures, c.requires.before))
