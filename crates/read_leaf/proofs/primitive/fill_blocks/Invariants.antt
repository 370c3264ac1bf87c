use Rattle.std.proofs.Common.{◌≤◌, ◌-◌, ◌*◌, [], length, map, take, drop}
use Rattle.read_leaf.specs.Numbers.{TookNumbers}
use Rattle.read_leaf.proofs.primitive.fill_blocks.Given as goal

abbrev pub invariant-loop-done : goal.invariant-loop-done
invariant-loop-done g l = record {
  within : l.done ≤ length l.places;
  took : TookNumbers g.T.FromStored.loaded g.P.StoredNumber.spelled g.P.PlainNumber.byte_count l.done l.bytes (drop (g.P.PlainNumber.byte_count * l.done) l.bytes) [] (map g.T.FromStored.loaded_number (take l.done l.places));
}

abbrev pub decreases-loop-done : goal.decreases-loop-done
decreases-loop-done g l = length l.places - l.done
