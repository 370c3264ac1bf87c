use Rattle.std.proofs.Common.{inl, inr, sym, subst}
use Rattle.leaf_iters.specs.Nulls.{TakesValues}
use Rattle.leaf_iters.proofs.Values.{ended, failed, stated, took}
use Rattle.leaf_iters.proofs.nulls.take_values.Goals as goal

pub returns-in-Err-clause-err : goal.returns-in-Err-clause-err
returns-in-Err-clause-err g c = elim c.in-Err.ensures.1 [
  | inl memory ↦ inl memory
  | inr f ↦ (let is = failed _ _ _ f in inr (is.0, is.1, f))
]

pub returns-in-None-clause-ok : goal.returns-in-None-clause-ok
returns-in-None-clause-ok g c = ended _ _ _ c.in-Ok.ensures (sym c.in-None.ensures)

pub returns-in-Some-Dict-clause-ok : goal.returns-in-Some-Dict-clause-ok
returns-in-Some-Dict-clause-ok g c =
    let shown = rw c.in-Some-Dict.field-0-is at c.in-Some-Dict.ensures in
    took _ _ _ _ c.in-Ok.ensures (sym shown)

pub returns-in-Some-Data-clause-ok : goal.returns-in-Some-Data-clause-ok
returns-in-Some-Data-clause-ok g c =
    let shown = rw c.in-Some-Data.field-0-is at c.in-Some-Data.ensures in
    subst (TakesValues _ _) (stated c.in-Some-Data.page.header _ c.num_values.ensures) (took _ _ _ _ c.in-Ok.ensures (sym shown))
