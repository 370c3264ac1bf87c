use Rattle.std.proofs.Common.{arith, sym, ◌∙◌}
use Rattle.read_leaf.proofs.IntervalsRead.{months_read}
use Rattle.read_leaf.proofs.fixed_values.months_of.Goals as goal

pub returns : goal.returns
returns c = months_read c.args.bytes.now c.number_in.result c.if-bytes-ne12.false (rw c.skip.ensures at (sym c.are_zeros.ensures ∙ c.if-not-are_zeros.false)) (λ i. omega (arith, c.type_inv.bytes i)) c.number_in.ensures
