use Rattle.std.proofs.Common.{◌<◌, ◌^◌, length, Some}
use Rattle.write_places.specs.Places.{picked}
use Rattle.page_statistics.specs.Extremes.{AreWithin}
use Rattle.page_statistics.proofs.Places.{IsPartly}
use Rattle.page_statistics.proofs.seen.search_some.Given as goal

abbrev pub decreases-loop-left : goal.decreases-loop-left
decreases-loop-left g l = length (picked l.left l.from l.count)

abbrev pub invariant-loop-left : goal.invariant-loop-left
invariant-loop-left g l = record {
  low : l.left < 2 ^ l.count;
  within : AreWithin (g.L.OrderedLeaf.count l.leaf) (Some l.now);
  partly : IsPartly (g.L.OrderedLeaf.value l.leaf) (Some l.fn.extremes) (Some l.now) (picked l.bits l.from l.count) (picked l.left l.from l.count);
}
