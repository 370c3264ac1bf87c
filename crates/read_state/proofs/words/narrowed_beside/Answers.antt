use Rattle.read_state.proofs.Outer.{outer-zeros}
use Rattle.read_state.proofs.words.narrowed_beside.Goals as goal

pub returns-then-outer-eq18446744073709551615 : goal.returns-then-outer-eq18446744073709551615
returns-then-outer-eq18446744073709551615 c = outer-zeros c.args.outer c.args.levels.now c.requires.size c.if-outer-eq18446744073709551615.true c.requires.outer
