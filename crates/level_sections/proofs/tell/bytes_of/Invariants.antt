use Rattle.std.proofs.Common.{◌≡◌, ◌*◌, length, take}
use Rattle.level_sections.specs.Planes.{plane_numbers}
use Rattle.level_sections.proofs.tell.bytes_of.Given as goal

abbrev pub invariant-loop-i : goal.invariant-loop-i
invariant-loop-i l = record {
  size : length l.bytes ≡ 64;
  front : take (4 * l.i) l.bytes ≡ plane_numbers l.low l.planes 0 (4 * l.i);
}
