use Rattle.std.proofs.Common.{◌<◌, ◌+◌, ◌*◌, ◌∙◌, ap, arith, length, sym}
use Rattle.std.proofs.lemmas.List.{length-set, take_more_set}
use Rattle.pq_numbers.proofs.Digits.{length-digits}
use Rattle.pq_runs.specs.Held.{held_number}
use Rattle.pq_runs.proofs.HeldBits.{unpacked_bits}
use Rattle.pq_runs.proofs.bit_block.BitBlock.unpack_to.Goals as goal

pub unpack-requires-clause-enough : goal.unpack-requires-clause-enough
unpack-requires-clause-enough c =
    let b = c.self.inside in
    omega (arith, c.requires, ap length c.self.view_is, length-digits 2 (8 * b.at + b.more) (held_number b.bytes b.at b.held), c.self.invariant.room, length-set b.bytes b.at b.held)

pub returns : goal.returns
returns c =
    let b = c.self.inside in
    let within : b.at < length b.bytes = omega (arith, c.self.invariant.room) in
    c.unpack.ensures ∙ (unpacked_bits b.bytes _ b.at b.held b.more _ (omega arith) c.self.invariant (c.requires ∙ sym (ap length c.self.view_is)) (take_more_set b.bytes b.at b.held within) ∙ c.self.view_is)
