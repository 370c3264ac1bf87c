use Rattle.std.proofs.Common.{◌/◌, ◌*◌, ℕ, take, drop, arith, ap, ◌∙◌}
use Rattle.pq_runs.proofs.Taken.{no_copy, packed_run, take_min, drop_min}
use Rattle.pq_runs.proofs.run.take_run.Goals as goal

pub returns-then-rest-size-clause-gives : goal.returns-then-rest-size-clause-gives
returns-then-rest-size-clause-gives c = no_copy c.args.width c.args.bytes.now c.in_ok-head.head c.in_ok-head.rest.now c.in_ok-head.ensures.gives (omega arith) c.if-rest-size.true

pub returns-else-head-eq0-clause-gives : goal.returns-else-head-eq0-clause-gives
returns-else-head-eq0-clause-gives c =
    let tail = c.in_ok-head.rest.now in
    let n : ℕ = c.args.width * (c.in_ok-head.head / 2) in
    packed_run c.args.width c.args.bytes.now c.in_ok-head.head tail _ _ c.in_ok-head.ensures.gives (omega arith)
    (c.split_at-else-head-eq0.ensures.front ∙ ap (λ (k : ℕ). take k tail) c.body_size-size.ensures ∙ take_min n tail)
    (c.split_at-else-head-eq0.ensures.back ∙ ap (λ (k : ℕ). drop k tail) c.body_size-size.ensures ∙ drop_min n tail)
