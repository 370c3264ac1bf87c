use Rattle.write_groups.proofs.Chosen.{chosen_used}
use Rattle.write_groups.proofs.laws.chosen_are_used.Goals as goal

pub returns : goal.returns
returns c = chosen_used
