use Rattle.std.proofs.Common.{◌*◌, ◌/◌, ◌^◌, map, take, drop}
use Rattle.columns_core.specs.Bits.{word_bits}
use Rattle.read_walk.specs.Values.{ones}
use Rattle.read_leaf.proofs.MixedNumbers.{IsMixing}
use Rattle.read_leaf.proofs.primitive.spread_pairs.Given as goal

abbrev pub invariant-loop-k : goal.invariant-loop-k
invariant-loop-k g l = IsMixing g.T.FromStored.loaded g.P.StoredNumber.spelled g.P.PlainNumber.byte_count l.word 8 (2 * l.k) (l.word / 2 ^ (2 * l.k)) (drop g.P.PlainNumber.byte_count l.source) (drop (g.P.PlainNumber.byte_count * ones (word_bits l.word (2 * l.k))) (drop g.P.PlainNumber.byte_count l.source)) (map g.T.FromStored.loaded_number (take (2 * l.k) l.places))
