use Rattle.std.proofs.Common.{◌+◌, ◌*◌, ◌∙◌, ap, length, sym}
use Rattle.pq_numbers.proofs.Digits.{length-digits}
use Rattle.pq_runs.specs.Held.{held_number}
use Rattle.pq_runs.proofs.bit_block.BitBlock.len.Goals as goal

pub returns-clause-value : goal.returns-clause-value
returns-clause-value c =
    let b = c.self.inside in
    sym (length-digits 2 (8 * b.at + b.more) (held_number b.bytes b.at b.held)) ∙ ap length c.self.view_is
