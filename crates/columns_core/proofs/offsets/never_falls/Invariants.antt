use Rattle.std.proofs.Common.{◌↔◌, map, drop}
use Rattle.columns_core.specs.Rising.{AreFrom}
use Rattle.columns_core.proofs.offsets.never_falls.Given as goal

abbrev pub invariant-loop-place : goal.invariant-loop-place
invariant-loop-place g l = AreFrom 0 (map g.O.Offset.number l.places) ↔ AreFrom l.before (map g.O.Offset.number (drop l.place-index l.places))
