use Rattle.std.proofs.Common.{◌≡◌, ap, arith, inl, inr, Err, false}
use Rattle.shredding.specs.Slot.{truth}
use Rattle.columns_base.specs.declared.error.Error.{Error}
use Rattle.columns_base.specs.declared.error.Error.TheVariants.{Memory}
use Rattle.pq_runs.proofs.Decoding.{passed_on}
use Rattle.dictionary_pages.proofs.key_page.page_body.Goals as goal

pub returns-in_err-repetition-clause-err : goal.returns-in_err-repetition-clause-err
returns-in_err-repetition-clause-err c =
    let e = c.in_err-repetition.ensures in
    passed_on (λ (x : Error). x ≡ Memory) c.from_residual.result c.in_err-repetition.field-0.0 c.from_residual.ensures.1
    (elim e.err.0 [ inl m ↦ m | inr v ↦ absurd (omega (arith, (e.too_large (λ i. truth false)).0 (ap Err v), c.requires.room (λ i. truth false))) ])
