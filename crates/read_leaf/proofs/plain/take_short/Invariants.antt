use Rattle.std.proofs.Common.{◌*◌, ◌≤◌, [], take}
use Rattle.columns_core.specs.Bits.{word_bits}
use Rattle.read_leaf.specs.Strings.{TookBytes}
use Rattle.read_leaf.proofs.plain.take_short.Given as goal

abbrev pub invariant-loop-count : goal.invariant-loop-count
invariant-loop-count l = record {
  room : l.size ≤ 32 * l.count;
  took : TookBytes (word_bits l.valid l.count) l.text l.rest (take l.count l.lengths) [] (take l.size l.places);
}
