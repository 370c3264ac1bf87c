use Rattle.std.proofs.Common.{◌≡◌, ℕ, ◌+◌, ◌<◌, ◌≤◌, length}
use Rattle.std.specs.Prelude.{slice_index}
use Rattle.std.specs.Int.{bit_at}
use Rattle.level_sections.proofs.block.add_bits.Given as goal

abbrev pub invariant-loop-i : goal.invariant-loop-i
invariant-loop-i l = record {
  size : length l.levels ≡ 64;
  done : (k : ℕ) → k < l.i → slice_index l.levels k ≡ slice_index l.fn.levels k + bit_at l.word k;
  left : (k : ℕ) → l.i ≤ k → slice_index l.levels k ≡ slice_index l.fn.levels k;
}
