use Rattle.std.proofs.Common.{◌≡◌, Bool, arith, subst}
use Rattle.read_column.specs.Lookups.{LaysRun}
use Rattle.read_column.proofs.Gathering.{run_on, run_stops, runs_end}
use Rattle.read_column.proofs.indices.laid_runs.Goals as goal

pub returns-then-not-all-clause-ok : goal.returns-then-not-all-clause-ok
returns-then-not-all-clause-ok c =
    run_stops c.args.entries.now c.args.width c.args.count c.runs.runs.left c.take_run.new.runs.left c.args.bytes.now c.runs.runs.bytes.now c.take_run.new.runs.bytes.now c.runs.values.items c.take_run.new.values.items c.requires.wide (subst (λ (b : Bool). LaysRun c.args.entries.now b c.args.width c.runs.runs.left c.runs.runs.bytes.now c.take_run.new.runs.left c.take_run.new.runs.bytes.now c.runs.values.items c.take_run.new.values.items) c.if-not-all.true c.in_ok-all.ensures.ok) c.runs.invariant.laid

pub runs-preserved : goal.runs-preserved
runs-preserved c = record {
  laid = run_on c.args.entries.now c.args.width c.runs.runs.left c.take_run.new.runs.left c.runs.runs.bytes.now c.take_run.new.runs.bytes.now c.runs.values.items c.take_run.new.values.items _ (subst (λ (b : Bool). LaysRun c.args.entries.now b c.args.width c.runs.runs.left c.runs.runs.bytes.now c.take_run.new.runs.left c.take_run.new.runs.bytes.now c.runs.values.items c.take_run.new.values.items) c.if-not-all.false c.in_ok-all.ensures.ok) c.runs.invariant.laid;
}

pub returns-clause-ok : goal.returns-clause-ok
returns-clause-ok c =
    let none : c.runs.runs.left ≡ 0 = omega (arith, c.runs-test.false) in
    runs_end c.args.entries.now c.args.width c.args.count c.runs.runs.left c.args.bytes.now c.runs.runs.bytes.now c.runs.values.items c.requires.wide none c.runs.invariant.laid
