use Rattle.std.proofs.Common.{◌≡◌, ◌≤◌, ◌-◌, ◌*◌, ◌/◌, ◌^◌, [], length, map, take, drop}
use Rattle.columns_core.specs.Bits.{word_bits}
use Rattle.read_walk.specs.Values.{ones}
use Rattle.read_leaf.specs.Numbers.{TookMixed}
use Rattle.read_leaf.proofs.primitive.fill_fronts.Given as goal

abbrev pub invariant-loop-eights : goal.invariant-loop-eights
invariant-loop-eights g l = record {
  within : 8 * l.eights ≤ length l.places;
  bits : l.word ≡ l.valid / 2 ^ (8 * l.eights);
  count : l.at ≡ ones (word_bits l.valid (8 * l.eights));
  took : TookMixed g.T.FromStored.loaded g.P.StoredNumber.spelled g.P.PlainNumber.byte_count (word_bits l.valid (8 * l.eights)) l.bytes (drop (g.P.PlainNumber.byte_count * l.at) l.bytes) [] (map g.T.FromStored.loaded_number (take (8 * l.eights) l.places));
}

abbrev pub decreases-loop-eights : goal.decreases-loop-eights
decreases-loop-eights g l = length l.places - l.eights
