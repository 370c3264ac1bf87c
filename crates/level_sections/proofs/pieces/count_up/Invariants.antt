use Rattle.std.proofs.Common.{◌≡◌, ℕ, ◌<◌, length, slice_index}
use Rattle.level_sections.proofs.pieces.count_up.Given as goal

abbrev pub invariant-loop-i : goal.invariant-loop-i
invariant-loop-i l = record {
  len : length l.starts ≡ length l.fn.starts;
  each : (k : ℕ) → k < l.i → slice_index l.starts k ≡ k;
}
