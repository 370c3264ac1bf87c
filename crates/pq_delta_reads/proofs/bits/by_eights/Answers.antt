use Rattle.std.proofs.Common.{◌≡◌, ◌*◌, ◌%◌, ◌^◌, ◌∙◌, arith}
use Rattle.std.proofs.lemmas.Nat.{one_shl}
use Rattle.pq_numbers.specs.Texts.{number_of}
use Rattle.pq_delta_reads.proofs.Groups.{from_start}
use Rattle.pq_delta_reads.proofs.bits.by_eights.Goals as goal

pub returns : goal.returns
returns c =
    let mask : 1 * 2 ^ c.args.width % 2 ^ 64 ≡ 2 ^ c.args.width = one_shl c.args.width 64 (omega arith) in
    rw mask (c.word_at-first.ensures c.args.width 8 (omega arith) ∙ from_start c.args.width 8 (number_of c.args.bytes.now))
