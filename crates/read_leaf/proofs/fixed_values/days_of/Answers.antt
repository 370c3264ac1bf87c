use Rattle.std.proofs.Common.{arith, sym, ◌∙◌}
use Rattle.read_leaf.proofs.IntervalsRead.{days_read}
use Rattle.read_leaf.proofs.fixed_values.days_of.Goals as goal

pub returns : goal.returns
returns c = days_read c.args.bytes.now c.number_in.result c.number_in-2.result c.if-bytes-ne12.false (sym c.are_zeros.ensures ∙ c.if-not-are_zeros.false) (λ i. omega (arith, c.type_inv.bytes i)) c.number_in.ensures c.number_in-2.ensures
