use Rattle.std.proofs.Common.{◌≡◌, ℕ, ◌≤◌, ◌<◌}
use Rattle.columns_core.specs.Bits.{bit_of}
use Rattle.columns_core.proofs.bit_words.single_end.Given as goal

abbrev pub invariant-loop-end : goal.invariant-loop-end
invariant-loop-end l = (i : ℕ) → l.from ≤ i → i < l.end → bit_of l.bytes i ≡ l.value
