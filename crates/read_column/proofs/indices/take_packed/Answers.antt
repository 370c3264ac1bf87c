use Rattle.std.proofs.Common.{◌-◌}
use Rattle.std.proofs.lemmas.Result.{IfOk-weaker}
use Rattle.pq_numbers.specs.Bits.{unpacked}
use Rattle.read_column.proofs.Gathering.{packed_run, run_laid}
use Rattle.read_column.proofs.indices.take_packed.Goals as goal

pub returns-clause-ok : goal.returns-clause-ok
returns-clause-ok c =
    IfOk-weaker c.push_packed.result _ _ (λ all l. run_laid all c.args.entries.now c.args.width c.args.runs.now.left (c.args.runs.now.left - c.standing-count.result) (unpacked c.args.width c.standing-count.result c.args.body.now) c.args.runs.now.bytes.now c.args.rest.now c.args.values.now.items c.push_packed.new.values.items (packed_run c.args.width c.args.runs.now.left c.standing-count.result c.args.runs.now.bytes.now c.args.body.now c.args.rest.now c.requires.wide c.requires.some c.requires.run c.standing-count.ensures) l) c.push_packed.ensures.ok
