use Rattle.columns_core.specs.declared.types.IntegerType.TheVariants as K
use Rattle.pq_files.specs.Plain.{InARow}
use Rattle.pq_tree.specs.Physical.{int32}
use Rattle.dictionary_columns.specs.Keys.{stored_keys}
use Rattle.dictionary_columns.proofs.page.small_keys.Given as goal

abbrev pub invariant-loop-i : goal.invariant-loop-i
invariant-loop-i l = InARow int32 l.body.items (stored_keys K.UInt32 0 l.i)
