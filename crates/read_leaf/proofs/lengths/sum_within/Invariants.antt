use Rattle.std.proofs.Common.{◌≡◌, ◌+◌, sum, take}
use Rattle.read_leaf.proofs.lengths.sum_within.Given as goal

abbrev pub invariant-loop-length : goal.invariant-loop-length
invariant-loop-length l = l.left + sum (take l.length-index l.lengths) ≡ l.most
