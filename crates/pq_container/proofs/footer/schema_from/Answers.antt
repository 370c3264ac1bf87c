use Rattle.std.proofs.Common.{arith}
use Rattle.std.proofs.lemmas.Result.{err_from_is_err_and}
use Rattle.pq_container.proofs.Parts.{root_refused, nodes_refused}
use Rattle.pq_container.proofs.footer.schema_from.Goals as goal

pub returns-in_err-name-clause-refused : goal.returns-in_err-name-clause-refused
returns-in_err-name-clause-refused c =
    let p = err_from_is_err_and c.from_residual.result c.from_residual.ensures.1 in
    rw (p.1, p.2) (root_refused _ _ c.args.values.now c.first-item.result (omega arith) c.first-item.is c.in_err-name.ensures.refused)

pub returns-in_err-elements-clause-refused : goal.returns-in_err-elements-clause-refused
returns-in_err-elements-clause-refused c =
    let p = err_from_is_err_and c.from_residual-in_err-elements.result c.from_residual-in_err-elements.ensures.1 in
    rw (p.1, p.2) (nodes_refused _ _ c.args.values.now c.in_err-elements.ensures.refused)
