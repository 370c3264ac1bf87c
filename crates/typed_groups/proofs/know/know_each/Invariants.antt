use Rattle.std.proofs.Common.{drop}
use Rattle.columns_array.specs.Boxed.{all_boxed}
use Rattle.typed_groups.specs.Suiting.{AreAllSound}
use Rattle.typed_groups.proofs.know.know_each.Given as goal

abbrev pub invariant-loop-array : goal.invariant-loop-array
invariant-loop-array l = AreAllSound (all_boxed (drop l.array-index l.arrays)) → AreAllSound (all_boxed l.arrays)
