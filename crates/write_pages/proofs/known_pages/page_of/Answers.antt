use Rattle.std.proofs.Common.{◌≡◌, ℕ, Option, arith, subst, sym}
use Rattle.std.specs.Prelude.{IfSome}
use Rattle.write_values.specs.declared.known.Known.{Known}
use Rattle.write_pages.specs.KnownColumns.{IsKnownPage, IsKnownRows}
use Rattle.write_pages.proofs.known_pages.page_of.Goals as goal

pub returns-in-Some-known : goal.returns-in-Some-known
returns-in-Some-known c = λ wanted a parts p all.
    let l = c.in-Some-get.ensures.lookup in
    let page = c.in-Some-get.page.now in
    let known = c.in-Some-known.known in
    let k : IsKnownPage wanted a parts p page = subst (IsKnownPage wanted a parts p) (sym l.1) (all _ page l.3.0) in
    let h : IsKnownRows wanted a parts p page.first page.count known = subst (λ (o : Option Known). IfSome o (IsKnownRows wanted a parts p page.first page.count)) c.in-Some-known.is k in
    let first : page.first ≡ c.args.first = omega (arith, c.if-page-first.false) in
    let count : page.count ≡ c.args.count = omega (arith, c.if-page-count.false) in
    subst (λ (n : ℕ). IsKnownRows wanted a parts p c.args.first n known) count (subst (λ (n : ℕ). IsKnownRows wanted a parts p n page.count known) first h)
