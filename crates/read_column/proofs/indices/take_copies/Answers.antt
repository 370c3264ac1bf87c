use Rattle.std.proofs.Common.{◌-◌, replicate}
use Rattle.std.proofs.lemmas.Result.{IfOk-weaker}
use Rattle.pq_runs.proofs.Decoding.{value_size}
use Rattle.read_column.proofs.Gathering.{copies_run, run_laid}
use Rattle.read_column.proofs.indices.take_copies.Goals as goal

pub whole_number-requires : goal.whole_number-requires
whole_number-requires c = value_size c.args.width c.args.count c.args.runs.now.bytes.now c.args.value.now c.args.rest.now c.requires.fits c.requires.run

pub returns-clause-ok : goal.returns-clause-ok
returns-clause-ok c =
    IfOk-weaker c.push_copies.result _ _ (λ all l. run_laid all c.args.entries.now c.args.width c.args.runs.now.left (c.args.runs.now.left - c.min-count.result) (replicate c.min-count.result c.whole_number.result) c.args.runs.now.bytes.now c.args.rest.now c.args.values.now.items c.push_copies.new.values.items (copies_run c.args.width c.args.runs.now.left c.args.count c.min-count.result c.whole_number.result c.args.runs.now.bytes.now c.args.value.now c.args.rest.now c.requires.some c.requires.run c.min-count.ensures c.whole_number.ensures) l) c.push_copies.ensures.ok
