use Rattle.std.proofs.Common.{◌≡◌, ℕ, ◌+◌, ◌-◌, ◌<◌, ◌≤◌, length, slice_index}
use Rattle.level_sections.proofs.raising.move_starts.Given as goal

abbrev pub invariant-loop-i : goal.invariant-loop-i
invariant-loop-i l = record {
  len : length l.upper ≡ length l.fn.upper;
  others : (j : ℕ) → j < l.at → slice_index l.upper j ≡ slice_index l.fn.upper j;
  each : (j : ℕ) → l.at ≤ j → j < l.i → slice_index l.upper j ≡ slice_index l.lower j - l.less + l.more;
}
