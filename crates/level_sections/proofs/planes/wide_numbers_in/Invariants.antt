use Rattle.std.proofs.Common.{◌≡◌, ℕ, ◌+◌, ◌<◌, length}
use Rattle.std.specs.Prelude.{slice_index}
use Rattle.level_sections.specs.Planes.{plane_number}
use Rattle.level_sections.proofs.planes.wide_numbers_in.Given as goal

abbrev pub invariant-loop-i : goal.invariant-loop-i
invariant-loop-i l = record {
  size : length l.numbers ≡ 64;
  done : (k : ℕ) → k < l.i → slice_index l.numbers k ≡ l.low + plane_number l.planes k;
}
