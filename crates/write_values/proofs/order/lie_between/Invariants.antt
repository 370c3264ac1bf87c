use Rattle.std.proofs.Common.{◌≡◌, ◌≤ℤ◌, false, take}
use Rattle.std.specs.Prelude.{All}
use Rattle.write_values.proofs.order.lie_between.Given as goal

abbrev pub invariant-loop-number : goal.invariant-loop-number
invariant-loop-number g l = l.are_past ≡ false → All (λ x. (g.T.OrderedNative.ordinal l.low ≤ℤ g.T.OrderedNative.ordinal x) × (g.T.OrderedNative.ordinal x ≤ℤ g.T.OrderedNative.ordinal l.high)) (take l.number-index l.numbers)
