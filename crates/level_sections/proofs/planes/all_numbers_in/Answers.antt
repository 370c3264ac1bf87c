use Rattle.std.proofs.Common.{◌+◌, ◌∙◌, ap, arith, ℕ}
use Rattle.level_sections.proofs.PlaneNumbers.{byte-at, number-most}
use Rattle.level_sections.proofs.planes.all_numbers_in.Goals as goal

pub raised-requires-clause-small : goal.raised-requires-clause-small
raised-requires-clause-small c = λ i h. omega (arith, byte-at c.args.planes c.low_bytes_in.result i c.low_bytes_in.ensures h, number-most c.args.planes i)

pub raised-requires-else-planes-eq0-clause-small : goal.raised-requires-else-planes-eq0-clause-small
raised-requires-else-planes-eq0-clause-small c = λ i h. omega (arith, byte-at c.args.planes c.bytes_in.result i c.bytes_in.ensures h, number-most c.args.planes i)

pub returns-then-planes-eq0 : goal.returns-then-planes-eq0
returns-then-planes-eq0 c = λ i h. c.raised.ensures i h ∙ ap (λ (n : ℕ). c.args.low + n) (byte-at c.args.planes c.low_bytes_in.result i c.low_bytes_in.ensures h)

pub returns-else-planes-eq0 : goal.returns-else-planes-eq0
returns-else-planes-eq0 c = λ i h. c.raised-else-planes-eq0.ensures i h ∙ ap (λ (n : ℕ). c.args.low + n) (byte-at c.args.planes c.bytes_in.result i c.bytes_in.ensures h)
