use Rattle.std.proofs.Common.{◌≡◌, take}
use Rattle.read_leaf.proofs.primitive.put_numbers.Given as goal

abbrev pub invariant-loop-i : goal.invariant-loop-i
invariant-loop-i g l = take l.i l.places ≡ take l.i l.numbers
