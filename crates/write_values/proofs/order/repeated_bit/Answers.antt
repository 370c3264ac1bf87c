use Rattle.std.proofs.Common.{refl, sym, ◌∙◌}
use Rattle.write_places.proofs.Bits.{full_bits, zero_bits}
use Rattle.write_values.proofs.order.repeated_bit.Goals as goal

pub returns-then-value : goal.returns-then-value
returns-then-value c = λ i h. full_bits c.full_word.result c.args.count i c.full_word.ensures h ∙ sym c.if-value.true

pub returns-else-value : goal.returns-else-value
returns-else-value c = λ i h. zero_bits 0 i refl ∙ sym c.if-value.false
