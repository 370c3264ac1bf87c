use Rattle.std.proofs.Common.{◌≡◌, ◌*◌, ◌%◌, ◌^◌, ◌∙◌, arith}
use Rattle.std.proofs.lemmas.Nat.{one_shl}
use Rattle.pq_numbers.specs.Texts.{number_of}
use Rattle.pq_delta_reads.proofs.Groups.{from_start, two_parts, more_parts, word_from}
use Rattle.pq_delta_reads.proofs.bits.by_twos.Goals as goal

pub returns : goal.returns
returns c =
    let w = c.args.width in
    let m = number_of c.args.bytes.now in
    let mask : 1 * 2 ^ w % 2 ^ 64 ≡ 2 ^ w = one_shl w 64 (omega arith) in
    let third = more_parts w 2 2 (4 * w) m _ _ (c.word_at-third.ensures w 2 (omega arith)) (word_from w 2 (4 * w) 2 (6 * w) m _ (omega arith) (c.word_at-fourth.ensures w 2 (omega arith))) in
    let second = more_parts w 2 4 (2 * w) m _ _ (c.word_at-second.ensures w 2 (omega arith)) (word_from w 4 (2 * w) 2 (4 * w) m _ (omega arith) third) in
    rw mask (two_parts w 2 6 m _ _ (c.word_at-first.ensures w 2 (omega arith) ∙ from_start w 2 m) second)
