use Rattle.std.proofs.Common.{◌≤◌, [], map}
use Rattle.pq_metadata.specs.Footer.{SpellsGroup}
use Rattle.pq_tree.specs.Described.{GroupsAreDescribed}
use Rattle.pq_tree.specs.Views.{group_view}
use Rattle.pq_container.specs.Ahead.{FrontsValues}
use Rattle.pq_container.proofs.footer_bytes.groups.Given as goal

abbrev pub invariant-groups : goal.invariant-groups
invariant-groups l = record {
  within : l.counter ≤ l.count;
  found : FrontsValues SpellsGroup 12 6 l.counter (map group_view l.groups.items) l.bytes l.rest;
  described : GroupsAreDescribed [] l.groups.items;
}
