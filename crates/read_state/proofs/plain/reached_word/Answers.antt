use Rattle.read_state.proofs.Compared.{both-reached}
use Rattle.read_state.proofs.plain.reached_word.Goals as goal

pub returns : goal.returns
returns c = both-reached 64 c.to.result c.from.result c.args.depth c.args.def c.args.reps.now c.args.defs.now c.requires.reps c.requires.defs c.to.ensures c.from.ensures
