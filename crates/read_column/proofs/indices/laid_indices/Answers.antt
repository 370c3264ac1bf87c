use Rattle.std.proofs.Common.{◌≤◌, arith}
use Rattle.std.proofs.lemmas.Result.{IfOk-weaker}
use Rattle.read_column.proofs.Gathering.{no_width, past_width, some_width}
use Rattle.read_column.proofs.indices.laid_indices.Goals as goal

pub returns-then-width-gt32-clause-ok : goal.returns-then-width-gt32-clause-ok
returns-then-width-gt32-clause-ok c = past_width c.args.entries.now c.args.width c.args.count c.args.runs.now _ c.if-width-gt32.true c.new.ensures.items

pub returns-then-width-eq0-clause-ok : goal.returns-then-width-eq0-clause-ok
returns-then-width-eq0-clause-ok c = IfOk-weaker c.laid_copies.result _ _ (λ v l. no_width c.args.entries.now c.args.width c.args.count c.args.runs.now v.items c.if-width-eq0.true l) c.laid_copies.ensures.ok

pub returns-clause-ok : goal.returns-clause-ok
returns-clause-ok c =
    let fits : c.args.width ≤ 32 = omega (arith, c.if-width-gt32.false) in
    IfOk-weaker c.laid_runs.result _ _ (λ v l. some_width c.args.entries.now c.args.width c.args.count c.args.runs.now v.items fits l) (rw c.from.ensures at c.laid_runs.ensures.ok)
