use Rattle.std.proofs.Common.{◌≤◌, map, arith}
use Rattle.std.specs.Prelude.{string_bytes}
use Rattle.pq_tree.specs.Views.{element_view}
use Rattle.pq_container.proofs.FooterFronts.{schema_stands}
use Rattle.pq_container.proofs.footer_bytes.schema.Goals as goal

pub returns : goal.returns
returns c =
    let some : 1 ≤ c.in-Some.count = omega (arith, c.if-count-eq0.false) in
    schema_stands c.in-Some.count (string_bytes c.in_ok-root.root.0, c.in_ok-root.root.1) (map element_view c.in_ok-nodes.nodes.items) c.args.bytes.now c.in-Some.list.now c.in_ok-root.others.now c.in_ok-nodes.rest.now some c.in-Some.ensures c.in_ok-root.ensures c.in_ok-nodes.ensures
