use Rattle.std.proofs.Common.{◌≡◌, ℕ, ◌+◌, ◌<◌, ◌≤◌, length}
use Rattle.levels.specs.Nested.{parts_of}
use Rattle.level_sections.specs.Blocks.{flat_level, Reaches}
use Rattle.level_sections.proofs.block.front_at.Given as goal

abbrev pub invariant-loop-part : goal.invariant-loop-part
invariant-loop-part l = record {
  reaches : Reaches (l.place + l.count) (parts_of l.rest);
  low : l.level + length l.rest ≤ 256;
  same : (i : ℕ) → i < l.count → flat_level (parts_of l.parts) l.def (l.place + i) ≡ flat_level (parts_of l.rest) l.level (l.place + i);
}

abbrev pub decreases-loop-part : goal.decreases-loop-part
decreases-loop-part l = length l.rest
