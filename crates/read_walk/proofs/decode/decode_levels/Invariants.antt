use Rattle.std.proofs.Common.{List, length, drop, ◌-◌}
use Rattle.columns_base.specs.declared.error.Error.{Error}
use Rattle.shredding.specs.Slot.{Slot}
use Rattle.read_walk.specs.Gives.{Decoded, called}
use Rattle.read_walk.specs.Values.{Stored, CannotDecode}
use Rattle.read_walk.proofs.decode.decode_levels.Given as goal

abbrev pub invariant-loop-at : goal.invariant-loop-at
invariant-loop-at g l = record {
  all : (left' : List Stored) (slots' : List Slot) → Decoded l.floor l.top (drop l.at l.defs) (g.D.NestedDecoder.left l.decoder l.values) left' (g.D.NestedDecoder.slots l.decoded) slots' → Decoded l.floor l.top l.defs (g.D.NestedDecoder.left l.decoder l.initial.values) left' (g.D.NestedDecoder.slots l.initial.decoded) slots';
  cannot : (e : Error) → CannotDecode g.D.NestedDecoder.byte_limit (called l.top (drop l.at l.defs)) (g.D.NestedDecoder.left l.decoder l.values) (g.D.NestedDecoder.slots l.decoded) e → CannotDecode g.D.NestedDecoder.byte_limit (called l.top l.defs) (g.D.NestedDecoder.left l.decoder l.initial.values) (g.D.NestedDecoder.slots l.initial.decoded) e;
  suits : g.D.NestedDecoder.suits l.decoder l.decoded;
}

abbrev pub decreases-loop-at : goal.decreases-loop-at
decreases-loop-at g l = length l.defs - l.at
