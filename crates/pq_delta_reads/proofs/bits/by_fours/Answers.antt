use Rattle.std.proofs.Common.{◌≡◌, ◌*◌, ◌%◌, ◌^◌, ◌∙◌, arith}
use Rattle.std.proofs.lemmas.Nat.{one_shl}
use Rattle.pq_numbers.specs.Texts.{number_of}
use Rattle.pq_delta_reads.proofs.Groups.{from_start, two_parts}
use Rattle.pq_delta_reads.proofs.bits.by_fours.Goals as goal

pub returns : goal.returns
returns c =
    let w = c.args.width in
    let m = number_of c.args.bytes.now in
    let mask : 1 * 2 ^ w % 2 ^ 64 ≡ 2 ^ w = one_shl w 64 (omega arith) in
    rw mask (two_parts w 4 4 m _ _ (c.word_at-first.ensures w 4 (omega arith) ∙ from_start w 4 m) (c.word_at-fifth.ensures w 4 (omega arith)))
