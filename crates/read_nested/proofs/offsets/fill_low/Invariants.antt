use Rattle.std.proofs.Common.{◌≡◌, ◌<◌, ◌^◌, IsTrue, length, map, pos, take}
use Rattle.read_state.specs.Kinds.{starts_of}
use Rattle.read_nested.proofs.offsets.fill_low.Given as goal

abbrev pub invariant-loop-i : goal.invariant-loop-i
invariant-loop-i g l = record {
  size : length l.places ≡ length l.starts;
  filled : IsTrue l.fits → l.all < 2 ^ 31 → map g.O.Offset.number (take l.i l.places) ≡ map pos (starts_of (take l.i l.starts));
}
