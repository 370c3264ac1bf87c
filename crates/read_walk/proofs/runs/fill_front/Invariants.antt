use Rattle.std.proofs.Common.{◌≡◌, take, replicate}
use Rattle.read_walk.proofs.runs.fill_front.Given as goal

abbrev pub invariant-loop-i : goal.invariant-loop-i
invariant-loop-i l = take l.i l.out ≡ replicate l.i l.number
