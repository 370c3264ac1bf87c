use Rattle.std.proofs.Common.{take}
use Rattle.columns_core.specs.Bits.{word_bits}
use Rattle.read_leaf.specs.Strings.{TookBytes}
use Rattle.read_leaf.proofs.plain.take_each.Given as goal

abbrev pub invariant-loop-count : goal.invariant-loop-count
invariant-loop-count l = record { took : TookBytes (word_bits l.valid l.count) l.text l.rest (take l.count l.lengths) l.initial.content.items l.content.items }
