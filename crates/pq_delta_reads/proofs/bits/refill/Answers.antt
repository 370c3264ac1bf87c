use Rattle.pq_delta_reads.proofs.Fields.{more_bits, same_bits}
use Rattle.pq_delta_reads.proofs.bits.refill.Goals as goal

pub returns-clause-small : goal.returns-clause-small
returns-clause-small c = (more_bits c.args.bits.now.held c.args.bits.now.count c.from.result c.next_word-word.result.1 c.requires.small c.requires.few (rw c.from.ensures c.next_word-word.ensures.below) c.next_word-word.ensures.most).0

pub returns-clause-same : goal.returns-clause-same
returns-clause-same c =
    let more = more_bits c.args.bits.now.held c.args.bits.now.count c.from.result c.next_word-word.result.1 c.requires.small c.requires.few (rw c.from.ensures c.next_word-word.ensures.below) c.next_word-word.ensures.most in
    same_bits c.args.bits.now.held _ c.args.bits.now.count c.from.result c.next_word-word.result.1 _ _ more.1 (rw c.from.ensures c.next_word-word.ensures.value)
