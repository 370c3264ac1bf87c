use Rattle.std.proofs.Common.{◌≡◌, ◌+◌}
use Rattle.shredding.specs.Parts.{item_count}
use Rattle.levels.proofs.Wholes.{AreLeft}
use Rattle.levels.proofs.whole.are_empty.Given as goal

abbrev pub invariant-loop-left : goal.invariant-loop-left
invariant-loop-left g l = AreLeft l.nulls l.left (λ i. item_count l.offsets (l.place + i) ≡ 0)

abbrev pub decreases-loop-left : goal.decreases-loop-left
decreases-loop-left g l = l.left
