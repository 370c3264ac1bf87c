use Rattle.std.proofs.Common.{◌∙◌, refl}
use Rattle.levels.proofs.Columns.{repetitions-column}
use Rattle.levels.proofs.iters.RepLevelsIter.new.Goals as goal

pub returns-clause-ok : goal.returns-clause-ok
returns-clause-ok c = λ values. c.in_ok-levels.ensures.ok ∙ repetitions-column values c.args.nested.now _ refl
