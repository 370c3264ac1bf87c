use Rattle.std.proofs.Common.{◌≤◌, map}
use Rattle.pq_metadata.specs.Elements.{SpellsNode}
use Rattle.pq_tree.specs.Views.{element_view}
use Rattle.pq_container.specs.Ahead.{FrontsValues}
use Rattle.pq_container.proofs.footer_bytes.elements.Given as goal

abbrev pub invariant-elements : goal.invariant-elements
invariant-elements l = record {
  within : l.counter ≤ l.count;
  found : FrontsValues SpellsNode 12 100 l.counter (map element_view l.elements.items) l.bytes l.rest;
}
