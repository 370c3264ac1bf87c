use Rattle.std.proofs.Common.{◌≡◌, ◌++◌, ℕ, List}
use Rattle.pq_numbers.specs.Varint.{varint}
use Rattle.pq_numbers.proofs.Writes.{Writes}
use Rattle.pq_numbers.proofs.varint.push_digits.Given as goal

abbrev pub invariant-loop-left : goal.invariant-loop-left
invariant-loop-left l = record { writes : Writes l.out.items l.left (l.fn.out.items ++ varint l.n); some : (some : List ℕ) × (l.out.items ≡ l.fn.out.items ++ some) }

abbrev pub decreases-loop-left : goal.decreases-loop-left
decreases-loop-left l = l.left
