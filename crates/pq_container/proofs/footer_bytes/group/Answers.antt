use Rattle.std.proofs.Common.{map, rules, SFits, w64, to_z-of_z}
use Rattle.pq_tree.specs.Views.{chunk_view}
use Rattle.pq_tree.proofs.Describing.{none_described}
use Rattle.pq_container.proofs.FooterFronts.{group_stands}
use Rattle.pq_container.proofs.footer_bytes.group.Goals as goal

pub returns-clause-found : goal.returns-clause-found
returns-clause-found c =
    let r = c.in-Some-rows.ensures in
    let fits : SFits w64 c.in-Some-rows.num_rows = search rules in
    simp to_z-of_z
    (group_stands
    c.in-Some.count
    (map chunk_view c.in_ok-columns.columns.items)
    r.0
    c.in-Some-rows.num_rows
    c.args.bytes.now
    c.in-Some.list.now
    c.in_ok-columns.tail.now
    c.in-Some-rows.rest.now
    c.in-Some.ensures
    c.in_ok-columns.ensures.found
    r.1)

pub returns-clause-described : goal.returns-clause-described
returns-clause-described c = none_described c.in_ok-columns.columns.items c.in_ok-columns.ensures.bare
