use Rattle.std.proofs.Common.{map}
use Rattle.dictionary_leaves.specs.KeySlots.{AreMaskedTo}
use Rattle.dictionary_leaves.proofs.keys.kept_bits.Given as goal

abbrev pub invariant-loop-i : goal.invariant-loop-i
invariant-loop-i g l = AreMaskedTo l.i l.count l.validity (map g.K.KeyNumber.kept l.numbers) (map g.K.KeyNumber.loaded_key l.numbers) l.bits.0
