use Rattle.std.proofs.Common.{◌≡◌, ◌≤◌, ◌-◌, ◌∷◌, [], cond, false, length}
use Rattle.std.specs.Prelude.{slice_index_or}
use Rattle.write_places.specs.Places.{gather}
use Rattle.write_values.proofs.measure.kept.Given as goal

abbrev pub decreases-loop-place : goal.decreases-loop-place
decreases-loop-place l = l.size - l.place

abbrev pub invariant-loop-place : goal.invariant-loop-place
invariant-loop-place l = record {
  within : l.place ≤ l.size;
  few : l.kept ≤ l.place;
  kept : l.kept ≡ length (gather (λ i. cond (slice_index_or l.mask i false) (i ∷ []) []) 0 l.place);
}
