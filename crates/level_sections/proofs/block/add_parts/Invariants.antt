use Rattle.std.proofs.Common.{◌≡◌, ℕ, ◌+◌, ◌<◌, ◌≤◌, ◌==◌, cond, length}
use Rattle.std.specs.Prelude.{slice_index}
use Rattle.std.specs.Int.{bit_at}
use Rattle.levels.specs.Nested.{parts_of}
use Rattle.level_sections.specs.Blocks.{flat_level, Reaches}
use Rattle.level_sections.proofs.block.add_parts.Given as goal

abbrev pub invariant-loop-part : goal.invariant-loop-part
invariant-loop-part l = record {
  size : length l.levels ≡ 64;
  reaches : Reaches (l.place + l.count) (parts_of l.rest);
  low : (i : ℕ) → i < 64 → slice_index l.levels i + length l.rest ≤ 256;
  same : (i : ℕ) → i < l.count → cond (bit_at l.alive i == 1) (flat_level (parts_of l.rest) (slice_index l.levels i) (l.place + i)) (slice_index l.levels i) ≡ cond (bit_at l.word i == 1) (flat_level (parts_of l.parts) (slice_index l.fn.levels i) (l.place + i)) (slice_index l.fn.levels i);
}

abbrev pub decreases-loop-part : goal.decreases-loop-part
decreases-loop-part l = length l.rest
