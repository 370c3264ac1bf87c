use Rattle.std.proofs.Common.{length}
use Rattle.write_places.specs.Places.{picked}
use Rattle.write_values.proofs.TruthPlaces.{IsPicking}
use Rattle.write_values.proofs.truths.pick_each.Given as goal

abbrev pub decreases-loop-left : goal.decreases-loop-left
decreases-loop-left l = length (picked l.left 0 l.count)

abbrev pub invariant-loop-left : goal.invariant-loop-left
invariant-loop-left l = record {
  is : IsPicking l.values l.bits l.left l.count l.word l.size;
}
