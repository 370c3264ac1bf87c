use Rattle.std.proofs.Common.{refl, inr}
use Rattle.std.proofs.lemmas.Result.{err_from_is_err_and}
use Rattle.pq_thrift.specs.Value.{view, fields_view}
use Rattle.pq_container.specs.Raw.{raw_view}
use Rattle.pq_container.proofs.Parts.{root_none}
use Rattle.pq_container.proofs.elements.root_from.Goals as goal

pub returns-in_err-num_children-clause-refused : goal.returns-in_err-num_children-clause-refused
returns-in_err-num_children-clause-refused c =
    let p = err_from_is_err_and c.from_residual-in_err-num_children.result c.from_residual-in_err-num_children.ensures.1 in
    rw (p.1, p.2) (inr (refl, root_none (view c.args.value.now) (fields_view c.in-Some.fields.now) (raw_view c.in_ok-raw.raw) c.in-Some.ensures c.in_ok-raw.ensures.found c.in_err-num_children.ensures.refused))
