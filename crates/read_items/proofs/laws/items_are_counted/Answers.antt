use Rattle.read_items.proofs.Items.{items-counted}
use Rattle.read_items.proofs.laws.items_are_counted.Goals as goal

pub returns : goal.returns
returns c = items-counted
