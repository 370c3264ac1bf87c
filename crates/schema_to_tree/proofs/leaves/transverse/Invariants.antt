use Rattle.std.proofs.Common.{take}
use Rattle.schema_to_tree.specs.Leaves.{shown, AnswersEach}
use Rattle.schema_to_tree.proofs.leaves.transverse.Given as goal

abbrev pub invariant-loop-leaf : goal.invariant-loop-leaf
invariant-loop-leaf g l = AnswersEach g.F.Fn l.map (shown (take l.leaf-index l.leaf-items)) l.answers.items
