use Rattle.shredding.proofs.Seen.{slots_go_along}
use Rattle.shredding.proofs.slots_go_along.Goals as goal

pub returns : goal.returns
returns c = slots_go_along
