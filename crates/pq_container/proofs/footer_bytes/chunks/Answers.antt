use Rattle.std.proofs.Common.{rules, arith}
use Rattle.pq_metadata.specs.Footer.{SpellsChunk}
use Rattle.pq_tree.specs.Views.{chunk_view}
use Rattle.pq_container.proofs.Lists.{none_yet, one_seen}
use Rattle.pq_container.proofs.footer_bytes.chunks.Goals as goal

pub chunks-init : goal.chunks-init
chunks-init c = record {
  within = omega arith;
  found = rw c.new-chunks.ensures.items (none_yet SpellsChunk 12 4 c.args.bytes.now);
  bare = search rules;
}

pub chunks-preserved : goal.chunks-preserved
chunks-preserved c = record {
  within = omega (arith, c.chunks-test.true);
  found = rw c.in_ok-push.ensures.items (one_seen SpellsChunk chunk_view 4 c.chunks.counter c.chunks.chunks.items c.in-Some.read c.args.bytes.now c.chunks.rest.now c.in-Some.after.now c.chunks.invariant.found c.in-Some.ensures.found);
  bare = search rules;
}
