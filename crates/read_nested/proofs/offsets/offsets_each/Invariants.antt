use Rattle.std.proofs.Common.{◌≡◌, map, pos, take}
use Rattle.read_state.specs.Kinds.{starts_of}
use Rattle.read_nested.proofs.offsets.offsets_each.Given as goal

abbrev pub invariant-loop-i : goal.invariant-loop-i
invariant-loop-i g l = map g.O.Offset.number l.made.items ≡ map pos (starts_of (take l.i l.starts))
