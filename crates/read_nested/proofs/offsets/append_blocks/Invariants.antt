use Rattle.std.proofs.Common.{◌≡◌, ◌≤◌, ◌-◌, ◌++◌, length, map, pos, take}
use Rattle.read_state.specs.Kinds.{starts_of}
use Rattle.read_nested.proofs.offsets.append_blocks.Given as goal

abbrev pub invariant-loop-at : goal.invariant-loop-at
invariant-loop-at g l = record {
  within : l.at ≤ length l.starts;
  made : map g.O.Offset.number l.offsets.items ≡ map g.O.Offset.number l.initial.offsets.items ++ map pos (starts_of (take l.at l.starts));
}

abbrev pub decreases-loop-at : goal.decreases-loop-at
decreases-loop-at g l = length l.starts - l.at
