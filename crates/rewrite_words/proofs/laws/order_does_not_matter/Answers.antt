use Rattle.rewrite_words.proofs.Orders.{in_any_order}
use Rattle.rewrite_words.proofs.laws.order_does_not_matter.Goals as goal

pub returns : goal.returns
returns c = in_any_order
