use Rattle.std.proofs.Common.{◌≡◌, ◌≤◌, ◌-◌, ◌*◌, length, map, drop}
use Rattle.read_leaf.specs.Numbers.{TookNumbers}
use Rattle.read_leaf.proofs.primitive.append_blocks.Given as goal

abbrev pub decreases-loop-done : goal.decreases-loop-done
decreases-loop-done g l = l.count - l.done

abbrev pub invariant-loop-done : goal.invariant-loop-done
invariant-loop-done g l = record {
  most : l.done ≤ l.count;
  block : length l.block.items ≡ g.row.N;
  kept : length l.fn.values.items ≤ length l.values.items;
  took : TookNumbers g.T.FromStored.loaded g.P.StoredNumber.spelled g.P.PlainNumber.byte_count l.done l.bytes (drop (g.P.PlainNumber.byte_count * l.done) l.bytes) (map g.T.FromStored.loaded_number l.fn.values.items) (map g.T.FromStored.loaded_number l.values.items);
}
