use Rattle.std.proofs.Common.{[], rules, arith}
use Rattle.std.proofs.lemmas.List.Elements.{All-push}
use Rattle.pq_metadata.specs.Footer.{SpellsGroup}
use Rattle.pq_tree.specs.Described.{IsDescribed}
use Rattle.pq_tree.specs.Views.{group_view}
use Rattle.pq_container.proofs.Lists.{none_yet, one_seen}
use Rattle.pq_container.proofs.footer_bytes.groups.Goals as goal

pub groups-init : goal.groups-init
groups-init c = record {
  within = omega arith;
  found = rw c.new-groups.ensures.items (none_yet SpellsGroup 12 6 c.args.bytes.now);
  described = search rules;
}

pub groups-preserved : goal.groups-preserved
groups-preserved c = record {
  within = omega (arith, c.groups-test.true);
  found = rw c.in_ok-push.ensures.items (one_seen SpellsGroup group_view 6 c.groups.counter c.groups.groups.items c.in_ok-read.read c.args.bytes.now c.groups.rest.now c.in_ok-read.after.now c.groups.invariant.found c.in_ok-read.ensures.found);
  described = rw c.in_ok-push.ensures.items (All-push (IsDescribed []) c.groups.groups.items c.in_ok-read.read c.groups.invariant.described c.in_ok-read.ensures.described);
}
