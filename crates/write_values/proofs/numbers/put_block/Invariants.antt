use Rattle.std.proofs.Common.{◌≡◌, take}
use Rattle.write_values.proofs.numbers.put_block.Given as goal

abbrev pub invariant-loop-i : goal.invariant-loop-i
invariant-loop-i l = take l.i l.places ≡ take l.i l.block
