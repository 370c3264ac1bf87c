use Rattle.std.proofs.Common.{◌≡◌, List, ℕ, ◌++◌, take}
use Rattle.pq_runs.specs.Writing.{Extends, Keeps}
use Rattle.pq_runs.proofs.writer.RunWriter.push_narrow_others.Given as goal

abbrev pub invariant-loop-number : goal.invariant-loop-number
invariant-loop-number l = record {
  width : l.self.width ≡ l.fn.self.width;
  kept : Extends l.fn.out.items l.out.items;
  added : (start xs : List ℕ) → Keeps start l.fn.out.items l.fn.self xs → Keeps start l.out.items l.self (xs ++ take l.number-index l.numbers);
}
