use Rattle.std.proofs.Common.{List, ℕ, subst, sym}
use Rattle.shredding.specs.Slot.{bytes}
use Rattle.pq_files.specs.Statistics.{IsUpTo}
use Rattle.page_statistics.proofs.Further.{up_to_self}
use Rattle.joined_statistics.proofs.Texts.{bytes_up}
use Rattle.joined_statistics.proofs.order.are_bytes_less.Goals as goal

pub returns-in-Equal-clause-other : goal.returns-in-Equal-clause-other
returns-in-Equal-clause-other c = λ e t p u v o i j.
    bytes_up c.args.b.now c.args.a.now (subst (λ (s : List ℕ). IsUpTo (bytes c.args.b.now) (bytes s)) (sym c.in-Equal.ensures) (up_to_self (bytes c.args.b.now))) t p v u o j i
