use Rattle.std.proofs.Common.{◌∙◌, ap, arith, [], false}
use Rattle.pq_runs.specs.DeltaReading.{Out}
use Rattle.pq_delta_reads.specs.Reading.{later, later_of, items, total, stepped}
use Rattle.pq_delta_reads.proofs.Steps.{idle_items, none_wanted}
use Rattle.pq_delta_reads.proofs.take.fail.Goals as goal

pub returns-clause-failed : goal.returns-clause-failed
unfolding items
returns-clause-failed c =
    let s = c.args.state.now in
    idle_items s.latest s.least s.buffer s.width s.standing s.packed.now (later s) c.requires.empty c.requires.none ∙ ap (λ (o : Out). stepped s.latest o.items) c.requires.failed

pub returns-clause-ended : goal.returns-clause-ended
unfolding items later
returns-clause-ended c =
    let s = c.args.state.now in
    idle_items s.latest s.least s.buffer s.width s.standing s.packed.now (later_of false s.miniblocks s.groups s.least [] 0 s.bytes.now) c.requires.empty c.requires.none ∙ ap (λ (o : Out). stepped s.latest o.items) (none_wanted s.miniblocks s.groups s.least [] s.bytes.now)

pub returns-clause-total : goal.returns-clause-total
unfolding total later
returns-clause-total c =
    let s = c.args.state.now in
    omega (arith, ap (λ (o : Out). o.taken) (none_wanted s.miniblocks s.groups s.least [] s.bytes.now), ap (λ (o : Out). o.taken) c.requires.failed)
