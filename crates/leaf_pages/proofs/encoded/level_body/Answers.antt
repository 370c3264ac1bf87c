use Rattle.std.proofs.Common.{ap, arith, inl, inr, pos}
use Rattle.std.specs.Prelude.{Err}
use Rattle.shredding.specs.Slot.{number}
use Rattle.leaf_pages.proofs.encoded.level_body.Goals as goal

pub returns-in-Err-clause-err : goal.returns-in-Err-clause-err
returns-in-Err-clause-err c =
    elim c.in-Err.ensures.err.0 [
      | inl m ↦ m
      | inr v ↦ absurd (omega (arith, c.requires.few (λ i. number (pos 0)), (c.in-Err.ensures.too_large (λ i. number (pos 0))).0 (ap Err v)))
    ]
