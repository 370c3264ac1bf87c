use Rattle.std.proofs.Common.{◌↔◌, drop}
use Rattle.columns_array.specs.Boxed.{all_boxed}
use Rattle.columns_array.specs.Chunks.{HaveLen}
use Rattle.columns_array.proofs.chunk.have_len.Given as goal

abbrev pub invariant-loop-i : goal.invariant-loop-i
invariant-loop-i l = HaveLen l.length (all_boxed l.arrays.items) ↔ HaveLen l.length (all_boxed (drop l.i l.arrays.items))
