use Rattle.read_state.proofs.Empty.{begin-empty}
use Rattle.read_state.proofs.laws.states_begin_empty.Goals as goal

pub returns : goal.returns
returns c = begin-empty
