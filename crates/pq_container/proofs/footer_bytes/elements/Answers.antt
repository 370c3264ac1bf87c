use Rattle.std.proofs.Common.{arith}
use Rattle.pq_metadata.specs.Elements.{SpellsNode}
use Rattle.pq_tree.specs.Views.{element_view}
use Rattle.pq_container.proofs.Lists.{none_yet, one_seen}
use Rattle.pq_container.proofs.footer_bytes.elements.Goals as goal

pub elements-init : goal.elements-init
elements-init c = record {
  within = omega arith;
  found = rw c.new-elements.ensures.items (none_yet SpellsNode 12 100 c.args.bytes.now);
}

pub elements-preserved : goal.elements-preserved
elements-preserved c = record {
  within = omega (arith, c.elements-test.true);
  found = rw c.in_ok-push.ensures.items (one_seen SpellsNode element_view 100 c.elements.counter c.elements.elements.items c.in_ok-read.read c.args.bytes.now c.elements.rest.now c.in_ok-read.after.now c.elements.invariant.found c.in_ok-read.ensures);
}
