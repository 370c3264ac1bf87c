use Rattle.std.proofs.Common.{map}
use Rattle.std.specs.Prelude.{string_bytes}
use Rattle.pq_tree.specs.Views.{element_view, group_view}
use Rattle.pq_container.proofs.FooterFronts.{footer_stands}
use Rattle.pq_container.proofs.footer_bytes.straight_footer.Goals as goal

pub returns-clause-found : goal.returns-clause-found
returns-clause-found c =
    let groups = c.in_ok-row_groups.ensures.found in
    rw c.new.ensures.items
    (footer_stands
    c.in-Some.field-0-0
    (string_bytes c.in_ok-root.root.0)
    c.in_ok-root.root.1
    (map element_view c.in_ok-root.elements.items)
    (map group_view c.in_ok-row_groups.row_groups.items)
    c.args.bytes.now
    c.in-Some.nodes.now
    c.in_ok-root.rest.now
    groups.0
    c.in-Some.ensures
    c.in_ok-root.ensures
    groups.1)
