use Rattle.columns_base.specs.declared.error.Error.TheVariants.{OutOfSpec}
use Rattle.columns_base.specs.declared.error.S.TheVariants.{S1}
use Rattle.pq_thrift.specs.Value.{view, fields_view}
use Rattle.pq_metadata.specs.Elements.{IsNode, SpellsNode}
use Rattle.pq_container.specs.Raw.{raw_view}
use Rattle.pq_tree.specs.Reads.{Refuses}
use Rattle.pq_container.proofs.Parts.{node_refused}
use Rattle.pq_tree.proofs.Refusals.{if_err_more}
use Rattle.pq_container.proofs.elements.element_from.Goals as goal

pub returns-clause-refused : goal.returns-clause-refused
returns-clause-refused c =
    let raw = raw_view c.in_ok-raw.raw in
    let v = view c.args.value.now in
    if_err_more c.node_from.result (Refuses (OutOfSpec S1) (IsNode raw)) (Refuses (OutOfSpec S1) (SpellsNode v)) (λ e r. node_refused (OutOfSpec S1) e v (fields_view c.in-Some.fields.now) raw c.in-Some.ensures c.in_ok-raw.ensures.found r) c.node_from.ensures.refused
