use Rattle.std.proofs.Common.{◌*◌, ◌/◌, ◌^◌, map, take, drop}
use Rattle.columns_core.specs.Bits.{word_bits}
use Rattle.read_walk.specs.Values.{ones}
use Rattle.read_leaf.proofs.MixedNumbers.{IsMixing}
use Rattle.read_leaf.proofs.primitive.spread_eight.Given as goal

abbrev pub invariant-loop-i : goal.invariant-loop-i
invariant-loop-i g l = IsMixing g.T.FromStored.loaded g.P.StoredNumber.spelled g.P.PlainNumber.byte_count l.word 8 l.i (l.word / 2 ^ l.i) l.source (drop (g.P.PlainNumber.byte_count * ones (word_bits l.word l.i)) l.source) (map g.T.FromStored.loaded_number (take l.i l.places))
