use Rattle.std.proofs.Common.{arith}
use Rattle.pq_runs.proofs.Steps.{wrote_flush}
use Rattle.pq_runs.proofs.Tight.{packed_size}
use Rattle.pq_runs.proofs.runs.flush.Goals as goal

pub returns-in_ok-push_run-clause-ok : goal.returns-in_ok-push_run-clause-ok
returns-in_ok-push_run-clause-ok c =
    let e = c.in_ok-push_run.ensures.ok in
    (c.clear.ensures, λ start xs s. wrote_flush c.args.width start c.args.out.now.items c.push_run.new.out.items c.args.block.now xs e.0 (omega arith) (omega arith) (omega arith) c.requires.whole e.2 e.1 s)

pub returns-in_ok-push_run-clause-size : goal.returns-in_ok-push_run-clause-size
returns-in_ok-push_run-clause-size c =
    let e = c.in_ok-push_run.ensures.ok in
    packed_size c.args.width c.args.out.now.items c.push_run.new.out.items c.args.block.now e.0 (omega arith) c.requires.whole e.2 e.1
