use Rattle.std.proofs.Common.{[], length, map, take}
use Rattle.read_leaf.proofs.Reading.{IsReading}
use Rattle.read_leaf.proofs.primitive.fill_singly.Given as goal

abbrev pub invariant-loop-place : goal.invariant-loop-place
invariant-loop-place g l = record {
  is : IsReading g.T.FromStored.loaded g.P.StoredNumber.spelled g.P.PlainNumber.byte_count l.place-index (length l.places) l.bytes l.rest [] (map g.T.FromStored.loaded_number (take l.place-index l.places));
}
