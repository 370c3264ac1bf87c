use Rattle.std.proofs.Common.{w8, refl}
use Rattle.std.proofs.lemmas.Nat.Bits.{bit_at_set_same, bit_at_set_other, bit_at_clear_same, bit_at_clear_other}
use Rattle.columns_core.proofs.mutable_bitmap.with_bit.Goals as goal

pub returns-then-value-clause-set : goal.returns-then-value-clause-set
returns-then-value-clause-set c = rw (bit_at_set_same w8 c.args.byte c.args.at c.requires, c.if-value.true) refl

pub returns-then-value-clause-others : goal.returns-then-value-clause-others
returns-then-value-clause-others c = λ i h n. bit_at_set_other w8 c.args.byte c.args.at c.requires i n

pub returns-else-value-clause-set : goal.returns-else-value-clause-set
returns-else-value-clause-set c = rw (bit_at_clear_same w8 c.args.byte c.args.at c.requires, c.if-value.false) refl

pub returns-else-value-clause-others : goal.returns-else-value-clause-others
returns-else-value-clause-others c = λ i h n. bit_at_clear_other w8 c.args.byte c.args.at c.requires i h n
