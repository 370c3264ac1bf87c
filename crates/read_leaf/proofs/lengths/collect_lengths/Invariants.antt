use Rattle.std.proofs.Common.{◌≡◌}
use Rattle.read_leaf.proofs.lengths.collect_lengths.Given as goal

abbrev pub invariant-loop-length : goal.invariant-loop-length
invariant-loop-length g l = l.all.items ≡ l.yielded
