use Rattle.std.proofs.Common.{◌≡◌, ◌≤◌, ◌∙◌, ℕ, ◌/◌, ◌+◌, min, ap, arith, Option, Some, None, refl}
use Rattle.std.specs.Prelude.{unwrap_or}
use Rattle.write_pages.specs.Rule.{page_limit}
use Rattle.write_pages.proofs.RowRule.{quotient_same}
use Rattle.write_pages.proofs.rule.rows_per_page.Goals as goal

limit_is : (limit : Option ℕ) → unwrap_or limit 1048576 ≡ page_limit limit
limit_is None = refl
limit_is (Some n) = refl

pub returns : goal.returns
returns c = λ size h.
    let low : c.min-limit.result ≤ 2113929216 = omega (arith, c.min-limit.ensures) in
    let same = quotient_same c.min-limit.result size c.args.rows c.args.plain c.saturating_add-each.result c.requires c.ranges.rows.fits low h c.saturating_add-each.ensures in
    let limit : c.min-limit.result ≡ min (page_limit c.args.limit) 2113929216 = c.min-limit.ensures ∙ ap (λ (n : ℕ). min n 2113929216) (c.unwrap_or.ensures ∙ limit_is c.args.limit) in
    omega (arith, c.max.ensures, same, ap (λ (n : ℕ). n / (size / c.args.rows + 1)) limit)
