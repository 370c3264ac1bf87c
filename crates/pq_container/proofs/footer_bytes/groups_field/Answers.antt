use Rattle.std.proofs.Common.{map}
use Rattle.pq_tree.specs.Views.{group_view}
use Rattle.pq_container.proofs.FooterFronts.{groups_stand}
use Rattle.pq_container.proofs.footer_bytes.groups_field.Goals as goal

pub returns-clause-found : goal.returns-clause-found
returns-clause-found c =
    let creator = c.in-Some-created.ensures in
    (c.in-Some-created._rest.now, groups_stand c.in-Some.count (map group_view c.in_ok-row_groups.row_groups.items) creator.0 c.args.bytes.now c.in-Some.list.now c.in_ok-row_groups.tail.now c.in-Some-created._rest.now c.in-Some.ensures c.in_ok-row_groups.ensures.found creator.1)
