use Rattle.std.proofs.Common.{◌≡◌}
use Rattle.write_values.specs.FirstBytes.{front}
use Rattle.write_values.proofs.fronts.front_by_bytes.Given as goal

abbrev pub invariant-loop-i : goal.invariant-loop-i
invariant-loop-i l = l.number ≡ front l.i l.text
