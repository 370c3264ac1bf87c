use Rattle.std.proofs.Common.{◌∙◌, inr, ℕ, ap, sym, subst, arith, pos}
use Rattle.pq_files.specs.Packed.{IsWrittenPage}
use Rattle.write_file.proofs.Headed.{pairs_are, passes_given}
use Rattle.write_file.proofs.Reasons.{own}
use Rattle.write_file.proofs.push.push_page.Goals as goal

pub returns-clause-ok : goal.returns-clause-ok
returns-clause-ok g c =
    let page = c.args.page in
    let p = c.in-Ok.ensures.ok in (
      p.0,
      p.1,
      p.2,
      λ version l entries o given. (
        pairs_are version l entries o page c.in_ok-pairs.pairs given (ap (λ (n : ℕ). pos n) (omega (arith, c.in_ok-pairs.ensures.ok, c.zero.ensures)) ∙ c.num_values.ensures),
        subst (IsWrittenPage version l entries o) (sym p.3.parts) (c.pages_are_written.ensures.data_pages version l entries o page p.3.head given.is given.some p.3.is),
      ),
    )

pub returns-in-Err-clause-refused : goal.returns-in-Err-clause-refused
returns-in-Err-clause-refused g c = own (λ h. (h.0, λ version l entries o given. inr (passes_given version l entries o c.args.page c.pages_are_written.ensures given h.1))) c.in-Err.ensures.refused
