use Rattle.std.proofs.Common.{subst, sym}
use Rattle.leaf_iters.specs.Iters.{IsGivingPieces}
use Rattle.leaf_iters.proofs.Arrays.{gives}
use Rattle.leaf_iters.proofs.simple.FlatIter.next.Goals as goal

pub returns-clause-gives : goal.returns-clause-gives
returns-clause-gives g c = λ o t pieces alone given.
    gives o t pieces c.next.result c.array_of.result _ alone c.array_of.ensures (c.next.ensures.gives o t pieces (subst (IsGivingPieces o t pieces) (sym c.self.view_is) given))
