use Rattle.std.proofs.Common.{◌≡◌, ℕ, ◌+◌, ◌-◌, ◌≤◌, ◌++◌, ◌∷◌, drop, length, slice_index, take}
use Rattle.shredding.specs.Parts.{list_part}
use Rattle.levels.specs.Nested.{parts_of}
use Rattle.level_sections.specs.Walk.{walked}
use Rattle.level_sections.proofs.raising.push_full.Given as goal

abbrev pub invariant-loop-k : goal.invariant-loop-k
invariant-loop-k g l = record {
  low : l.at ≤ l.k;
  high : l.k ≤ l.at + l.count;
  told : l.upper.told ≡ walked l.level (list_part l.list.is_optional l.list.validity l.list.offsets ∷ parts_of l.rest) l.above l.from (l.place + l.k - l.from) ++ take (l.stop - slice_index l.lower.starts (slice_index l.edges l.k)) (drop (slice_index l.lower.starts (slice_index l.edges l.k)) l.lower.told);
  here : l.here ≡ length (walked l.level (list_part l.list.is_optional l.list.validity l.list.offsets ∷ parts_of l.rest) l.above l.from (l.place + l.k - l.from));
  after : l.first ≤ slice_index l.lower.starts (slice_index l.edges l.k);
  sum : l.here ≡ slice_index l.lower.starts (slice_index l.edges l.k) - l.first + l.begin;
  starts : (j : ℕ) → j ≤ l.place + l.k - l.from → slice_index l.upper.starts j ≡ length (walked l.level (list_part l.list.is_optional l.list.validity l.list.offsets ∷ parts_of l.rest) l.above l.from j);
}
