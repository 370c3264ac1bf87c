use Rattle.levels.proofs.Stacks.{repetitions-like, definitions-like}
use Rattle.levels.proofs.cursors.front_of.Goals as goal

pub returns-in-Repetition : goal.returns-in-Repetition
returns-in-Repetition c = repetitions-like c.args.level c.args.rep c.args.depth c.args.def c.args.count c.in-Repetition.is c.requires.some

pub returns-in-Definition : goal.returns-in-Definition
returns-in-Definition c = definitions-like c.args.level c.args.rep c.args.depth c.args.def c.args.count c.in-Definition.is c.requires.some
