use Rattle.std.proofs.Common.{◌≡◌, ℕ, ◌+◌, ◌<◌, ◌≤◌, ◌==◌, cond, length}
use Rattle.std.specs.Int.{bit_at}
use Rattle.levels.specs.Nested.{parts_of}
use Rattle.level_sections.specs.Planes.{plane_number}
use Rattle.level_sections.specs.Blocks.{flat_level, Reaches}
use Rattle.level_sections.proofs.planes.with_parts.Given as goal

abbrev pub invariant-loop-part : goal.invariant-loop-part
invariant-loop-part l = record {
  reaches : Reaches (l.place + l.count) (parts_of l.rest);
  low : (i : ℕ) → i < l.count → plane_number l.sums i + length l.rest ≤ 7;
  same : (i : ℕ) → i < l.count → (def : ℕ) → cond (bit_at l.alive i == 1) (flat_level (parts_of l.rest) (def + plane_number l.sums i) (l.place + i)) (def + plane_number l.sums i) ≡ cond (bit_at l.word i == 1) (flat_level (parts_of l.parts) (def + plane_number l.fn.planes i) (l.place + i)) (def + plane_number l.fn.planes i);
}

abbrev pub decreases-loop-part : goal.decreases-loop-part
decreases-loop-part l = length l.rest
