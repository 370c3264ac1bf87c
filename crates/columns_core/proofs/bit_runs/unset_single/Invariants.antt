use Rattle.std.proofs.Common.{◌≡◌, count_by, not}
use Rattle.columns_core.specs.Bits.{bits_from}
use Rattle.columns_core.proofs.bit_runs.unset_single.Given as goal

abbrev pub invariant-loop-i : goal.invariant-loop-i
invariant-loop-i l = l.unset ≡ count_by not (bits_from l.bytes l.from l.i)
