use Rattle.std.proofs.Common.{◌≤◌, ◌+◌, ◌-◌, length, map, take}
use Rattle.read_leaf.specs.Numbers.{TookNumbers}
use Rattle.read_leaf.proofs.primitive.write_numbers.Given as goal

abbrev pub decreases-loop-done : goal.decreases-loop-done
decreases-loop-done g l = l.count - l.done

abbrev pub invariant-loop-done : goal.invariant-loop-done
invariant-loop-done g l = record {
  most : l.done ≤ l.count;
  took : TookNumbers g.T.FromStored.loaded g.P.StoredNumber.spelled g.P.PlainNumber.byte_count l.done l.bytes l.rest (map g.T.FromStored.loaded_number (take l.before l.fn.values.items)) (map g.T.FromStored.loaded_number (take (l.before + l.done) l.values.items));
  kept : l.before + l.done ≤ length l.values.items;
}
