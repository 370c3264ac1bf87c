use Rattle.std.proofs.Common.{◌≡◌}
use Rattle.columns_core.specs.Bits.{bits_from}
use Rattle.columns_core.proofs.bit_runs.is_same_single.Given as goal

abbrev pub invariant-loop-i : goal.invariant-loop-i
invariant-loop-i l = bits_from l.a l.a_from l.i ≡ bits_from l.b l.b_from l.i
