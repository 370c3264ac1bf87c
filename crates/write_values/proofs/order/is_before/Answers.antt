use Rattle.shredding.specs.Slot.{bytes}
use Rattle.page_statistics.proofs.Further.{up_to_self}
use Rattle.write_values.proofs.order.is_before.Goals as goal

pub returns-in-Equal-clause-other : goal.returns-in-Equal-clause-other
returns-in-Equal-clause-other c = λ e. rw c.in-Equal.ensures (up_to_self (bytes c.args.b.now))
