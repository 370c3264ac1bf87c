use Rattle.std.proofs.Common.{◌≡◌, ◌≤◌, ◌<◌, ◌-◌, ℕ, false}
use Rattle.std.specs.Prelude.{slice_index_or}
use Rattle.levels.specs.Nested.{parts_of}
use Rattle.levels.specs.Sizes.{HasNoItems}
use Rattle.levels.proofs.whole.nulls_have_none.Given as goal

abbrev pub invariant-loop-place : goal.invariant-loop-place
invariant-loop-place l = record {
  after : l.from ≤ l.place;
  none : (i : ℕ) → l.from ≤ i → i < l.place → slice_index_or l.mask i false ≡ false → HasNoItems (parts_of l.parts) i;
}

abbrev pub decreases-loop-place : goal.decreases-loop-place
decreases-loop-place l = l.to - l.place
