use Rattle.std.proofs.Common.{◌≡◌, ℕ, ◌-◌, ◌≤◌, ◌<◌, true}
use Rattle.levels.specs.Nested.{parts_of}
use Rattle.write_places.specs.There.{is_there}
use Rattle.write_places.proofs.there.full_end.Given as goal

abbrev pub invariant-loop-end : goal.invariant-loop-end
invariant-loop-end l = record {
  after : l.from ≤ l.end;
  within : l.end ≤ l.to;
  there : (i : ℕ) → l.from ≤ i → i < l.end → is_there (parts_of l.parts) i ≡ true;
}

abbrev pub decreases-loop-end : goal.decreases-loop-end
decreases-loop-end l = l.to - l.end
