use Rattle.std.proofs.Common.{rules}
use Rattle.pq_runs.specs.Taking.{NoRun}
use Rattle.read_column.proofs.Gathering.{no_bytes, no_run_laid}
use Rattle.read_column.proofs.indices.take_run.Goals as goal

pub returns-in-Some-Err-clause-ok : goal.returns-in-Some-Err-clause-ok
returns-in-Some-Err-clause-ok c =
    let none : NoRun c.args.width c.args.runs.now.bytes.now = search rules in
    no_run_laid c.args.entries.now c.args.width c.args.runs.now.left c.args.runs.now.left c.args.runs.now.bytes.now c.args.runs.now.bytes.now c.args.values.now.items c.requires.some none

pub returns-in-None-clause-ok : goal.returns-in-None-clause-ok
returns-in-None-clause-ok c =
    no_run_laid c.args.entries.now c.args.width c.args.runs.now.left c.args.runs.now.left c.args.runs.now.bytes.now c.args.runs.now.bytes.now c.args.values.now.items c.requires.some (no_bytes c.args.width c.args.runs.now.bytes.now (search rules))
