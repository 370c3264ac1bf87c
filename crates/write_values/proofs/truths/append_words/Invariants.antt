use Rattle.std.proofs.Common.{◌≡◌, ◌+◌, ◌-◌, ◌≤◌, ◌++◌, map}
use Rattle.write_places.specs.Places.{range}
use Rattle.write_values.specs.Truths.{truth_at}
use Rattle.write_values.proofs.truths.append_words.Given as goal

abbrev pub decreases-loop-done : goal.decreases-loop-done
decreases-loop-done l = l.count - l.done

abbrev pub invariant-loop-done : goal.invariant-loop-done
invariant-loop-done l = (l.out.0 ≡ l.fn.out.0 ++ map (truth_at l.values) (range l.from l.done)) × (l.count ≤ l.out.1 + l.done) × (l.done ≤ l.count)
