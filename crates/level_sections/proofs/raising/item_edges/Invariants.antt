use Rattle.std.proofs.Common.{◌≡◌, ℕ, ◌+◌, ◌-◌, ◌<◌, length, slice_index}
use Rattle.shredding.specs.Parts.{item_start}
use Rattle.level_sections.proofs.raising.item_edges.Given as goal

abbrev pub invariant-loop-k : goal.invariant-loop-k
invariant-loop-k g l = record {
  len : length l.edges ≡ 65;
  each : (j : ℕ) → j < l.k → slice_index l.edges j ≡ item_start l.offsets (l.place + j) - item_start l.offsets l.from;
}
