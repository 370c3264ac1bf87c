use Rattle.std.proofs.Common.{◌≡◌, ◌*◌, [], length, map, take, drop}
use Rattle.read_leaf.proofs.Reading.{IsReading}
use Rattle.read_leaf.proofs.primitive.copy_block.Given as goal

abbrev pub invariant-loop-i : goal.invariant-loop-i
invariant-loop-i g l = record {
  long : length l.numbers ≡ g.row.N;
  is : IsReading g.T.FromStored.loaded g.P.StoredNumber.spelled g.P.PlainNumber.byte_count l.i g.row.N l.source (drop (g.P.PlainNumber.byte_count * l.i) l.source) [] (map g.T.FromStored.loaded_number (take l.i l.numbers));
}
