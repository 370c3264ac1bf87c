use Rattle.std.proofs.Common.{◌≡◌, ℕ, ◌-◌, ◌≤◌, ◌<◌}
use Rattle.columns_core.specs.Bits.{bit_of}
use Rattle.columns_core.proofs.bit_words.run_end_in.Given as goal

abbrev pub invariant-loop-end : goal.invariant-loop-end
invariant-loop-end l = record {
  after : l.from ≤ l.end;
  within : l.end ≤ l.to;
  alike : (i : ℕ) → l.from ≤ i → i < l.end → bit_of l.bytes i ≡ l.value;
}

abbrev pub decreases-loop-end : goal.decreases-loop-end
decreases-loop-end l = l.to - l.end
