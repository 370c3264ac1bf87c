use Rattle.std.proofs.Common.{inl, inr, arith}
use Rattle.read_laws.proofs.Steps.{column-row, column-deep}
use Rattle.read_laws.proofs.Ends.{fits-new, fits-deep}
use Rattle.read_laws.proofs.laws.pairs_extend_columns.Goals as goal

pub returns : goal.returns
returns c leaf rep level ks o f top come gives = elim come [
  | inl e ↦ rw e record {
    fits = fits-new 0 level _ 0 0 ks f (omega arith);
    column = column-row leaf level ks o f top gives;
  }
  | inr e ↦ record {
    fits = fits-deep rep level 0 0 ks f e.0 e.1;
    column = column-deep leaf rep level ks o f e.0 top e.1 gives;
  }
]
