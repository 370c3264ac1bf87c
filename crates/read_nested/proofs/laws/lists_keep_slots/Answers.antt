use Rattle.read_nested.proofs.Keeps.{lists-kept}
use Rattle.read_nested.proofs.laws.lists_keep_slots.Goals as goal

pub returns : goal.returns
returns c = lists-kept
