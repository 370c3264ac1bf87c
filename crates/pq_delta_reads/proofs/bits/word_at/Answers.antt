use Rattle.pq_delta_reads.proofs.Groups.{word_digits}
use Rattle.pq_delta_reads.proofs.bits.word_at.Goals as goal

pub returns : goal.returns
returns c = λ w n few. rw (c.first_word.ensures, c.behind.ensures) (word_digits c.args.bytes.now c.args.bit w n (λ k. (c.type_inv.bytes k).fits) c.requires few)
