use Rattle.std.proofs.Common.{◌+◌, ◌*◌, ◌++◌, ◌∙◌, ap, arith, length, List, ℕ}
use Rattle.std.proofs.lemmas.Nat.{shl_whole}
use Rattle.pq_numbers.specs.Bits.{digits_of}
use Rattle.pq_numbers.proofs.Digits.{length-digits}
use Rattle.pq_runs.specs.Held.{held_number}
use Rattle.pq_runs.proofs.HeldBits.{more_held, more_bits}
use Rattle.pq_runs.proofs.bit_block.BitBlock.add.Goals as goal

pub invariant_of-self : goal.invariant_of-self
invariant_of-self c =
    let b = c.self.inside in
    let n = length-digits 2 (8 * b.at + b.more) (held_number b.bytes b.at b.held) in
    more_held b.bytes c.put_bytes.new.places c.to_le_bytes.result b.at b.held b.more c.args.word c.args.count _ c.self.invariant c.requires.few c.requires.low (omega (arith, c.requires.room, ap length c.self.view_is, n))
    (ap (λ (x : ℕ). b.held + x) (shl_whole c.args.word c.args.count b.more 64 c.requires.low (omega (arith, c.requires.few, c.self.invariant.few)))) c.to_le_bytes.ensures (omega arith) c.put_bytes.ensures.front

pub returns : goal.returns
returns c =
    let b = c.self.inside in
    let n = length-digits 2 (8 * b.at + b.more) (held_number b.bytes b.at b.held) in
    more_bits b.bytes c.put_bytes.new.places c.to_le_bytes.result b.at b.held b.more c.args.word c.args.count _ c.self.invariant c.requires.few c.requires.low (omega (arith, c.requires.room, ap length c.self.view_is, n))
    (ap (λ (x : ℕ). b.held + x) (shl_whole c.args.word c.args.count b.more 64 c.requires.low (omega (arith, c.requires.few, c.self.invariant.few)))) c.to_le_bytes.ensures (omega arith) c.put_bytes.ensures.front
    ∙ ap (λ (t : List ℕ). t ++ digits_of 2 c.args.count c.args.word) c.self.view_is
