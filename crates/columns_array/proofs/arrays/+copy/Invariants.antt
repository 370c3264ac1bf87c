use Rattle.std.proofs.Common.{◌≡◌, take}
use Rattle.columns_array.specs.Boxed.{all_boxed}
use Rattle.columns_array.proofs.arrays.+copy.Given as goal

abbrev pub invariant-clone::copy_all-loop-child : goal.invariant-clone::copy_all-loop-child
invariant-clone::copy_all-loop-child l = all_boxed l.copies.items ≡ all_boxed (take l.child-index l.child-items)
