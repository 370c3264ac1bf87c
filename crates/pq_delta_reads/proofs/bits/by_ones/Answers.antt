use Rattle.std.proofs.Common.{◌≡◌, ◌*◌, ◌%◌, ◌^◌, ◌∙◌, arith}
use Rattle.std.proofs.lemmas.Nat.{one_shl}
use Rattle.pq_numbers.specs.Texts.{number_of}
use Rattle.pq_delta_reads.proofs.Groups.{from_start, two_parts, more_parts, word_first, word_from}
use Rattle.pq_delta_reads.proofs.bits.by_ones.Goals as goal

pub returns : goal.returns
returns c =
    let w = c.args.width in
    let m = number_of c.args.bytes.now in
    let mask : 1 * 2 ^ w % 2 ^ 64 ≡ 2 ^ w = one_shl w 64 (omega arith) in
    let seventh_on = more_parts w 1 1 (6 * w) m _ _ (c.word_at-seventh.ensures w 1 (omega arith)) (word_from w 1 (6 * w) 1 (7 * w) m _ (omega arith) (c.word_at-eighth.ensures w 1 (omega arith))) in
    let sixth_on = more_parts w 1 2 (5 * w) m _ _ (c.word_at-sixth.ensures w 1 (omega arith)) (word_from w 2 (5 * w) 1 (6 * w) m _ (omega arith) seventh_on) in
    let fifth_on = more_parts w 1 3 (4 * w) m _ _ (c.word_at-fifth.ensures w 1 (omega arith)) (word_from w 3 (4 * w) 1 (5 * w) m _ (omega arith) sixth_on) in
    let fourth_on = more_parts w 1 4 (3 * w) m _ _ (c.word_at-fourth.ensures w 1 (omega arith)) (word_from w 4 (3 * w) 1 (4 * w) m _ (omega arith) fifth_on) in
    let third_on = more_parts w 1 5 (2 * w) m _ _ (c.word_at-third.ensures w 1 (omega arith)) (word_from w 5 (2 * w) 1 (3 * w) m _ (omega arith) fourth_on) in
    let second_on = more_parts w 1 6 w m _ _ (c.word_at-second.ensures w 1 (omega arith)) (word_from w 6 w 1 (2 * w) m _ (omega arith) third_on) in
    rw mask (two_parts w 1 7 m _ _ (c.word_at-first.ensures w 1 (omega arith) ∙ from_start w 1 m) (word_first w 7 m _ second_on))
