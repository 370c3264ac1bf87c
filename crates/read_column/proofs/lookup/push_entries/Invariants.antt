use Rattle.std.proofs.Common.{◌≡◌, ◌≤◌, ◌-◌, ◌++◌, List, ℕ, take}
use Rattle.read_column.specs.Lookups.{AreLaidAs}
use Rattle.read_column.proofs.lookup.push_entries.Given as goal

abbrev pub invariant-loop-at : goal.invariant-loop-at
invariant-loop-at l = record {
  most : l.at ≤ l.count;
  laid : (front : List ℕ) × (l.values.items ≡ l.fn.values.items ++ front) × AreLaidAs l.entries (take l.at l.indices) front;
}

abbrev pub decreases-loop-at : goal.decreases-loop-at
decreases-loop-at l = l.count - l.at
