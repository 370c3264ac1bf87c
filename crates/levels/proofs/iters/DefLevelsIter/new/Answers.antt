use Rattle.std.proofs.Common.{◌∙◌, refl}
use Rattle.levels.proofs.Columns.{definitions-column}
use Rattle.levels.proofs.iters.DefLevelsIter.new.Goals as goal

pub returns-clause-ok : goal.returns-clause-ok
returns-clause-ok c = λ values. c.in_ok-levels.ensures.ok ∙ definitions-column values c.args.nested.now _ refl
