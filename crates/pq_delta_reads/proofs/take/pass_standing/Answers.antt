use Rattle.std.proofs.Common.{refl}
use Rattle.pq_delta_reads.specs.Reading.{later, later_of, items, total}
use Rattle.pq_delta_reads.proofs.Passing.{passed_items}
use Rattle.pq_delta_reads.proofs.take.pass_standing.Goals as goal

pub returns-clause-passed : goal.returns-clause-passed
unfolding items later
returns-clause-passed c =
    let s = c.args.state.now in
    passed_items s.latest s.least s.buffer s.width s.standing s.packed.now (later_of s.cut s.miniblocks s.groups s.least s.widths.now s.left s.bytes.now) c.requires.empty

pub returns-clause-total : goal.returns-clause-total
unfolding total later
returns-clause-total c = refl
