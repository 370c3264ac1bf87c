use Rattle.std.proofs.Common.{◌≡◌, sym, true, true≢false, ◌∙◌}
use Rattle.columns_array.specs.Boxed.{boxed}
use Rattle.columns_base.specs.declared.error.Error.TheVariants.{NotYetImplemented, Overflow}
use Rattle.columns_base.specs.declared.error.N.TheVariants.{N5}
use Rattle.columns_base.specs.declared.error.V.TheVariants.{V3}
use Rattle.leaf_pages.proofs.Causes.{never}
use Rattle.leaf_pages.specs.Columns.{is_in_pages}
use Rattle.write_pages.proofs.PageRows.{comes_as}
use Rattle.leaf_pages.proofs.checked.checked_page.Goals as goal

pub returns-clause-unserved : goal.returns-clause-unserved
returns-clause-unserved c =
    let written : is_in_pages (boxed c.args.array.now) ≡ true = sym c.is_in_pages.ensures ∙ c.if-not-is_in_pages.false in
    never (NotYetImplemented N5) _ (λ n. true≢false (sym written ∙ n)) (λ e. cc) c.plain_page.result c.plain_page.ensures.err

pub returns-clause-too_large : goal.returns-clause-too_large
returns-clause-too_large c =
    let written : is_in_pages (boxed c.args.array.now) ≡ true = sym c.is_in_pages.ensures ∙ c.if-not-is_in_pages.false in
    comes_as (Overflow V3) _ _ (λ h. (written, h)) (λ h. h.1) c.plain_page.result c.plain_page.ensures.too_large
