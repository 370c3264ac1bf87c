use Rattle.std.proofs.Common.{◌≡◌, ◌∙◌, min, sym, arith}
use Rattle.levels.specs.Nested.{parts_of}
use Rattle.pq_files.specs.Layout.{rows_per_page}
use Rattle.write_pages.specs.Rule.{page_limit}
use Rattle.write_pages.proofs.Moved.{rows_counted}
use Rattle.write_pages.proofs.PiecesLeft.{none_by_rule, some_by_rule}
use Rattle.write_pages.proofs.rule.page_rows.Goals as goal

pub returns-then-rows-eq0-clause-rule : goal.returns-then-rows-eq0-clause-rule
returns-then-rows-eq0-clause-rule c = λ t p a m.
    none_by_rule _ _ _ _ _ 1 (omega (arith, rows_counted (parts_of c.args.nested.now) a, c.slot_count-rows.ensures, c.if-rows-eq0.true))

pub returns-clause-rule : goal.returns-clause-rule
returns-clause-rule c = λ t p a m.
    some_by_rule _ _ _ _ _ c.args.plain _ c.slot_count-rows.result m (c.slot_count-rows.ensures ∙ sym (rows_counted (parts_of c.args.nested.now) a)) c.rows_per_page.ensures

pub returns-clause-some : goal.returns-clause-some
returns-clause-some c =
    let whole : c.args.plain ≡ min c.args.plain 340282366920938463463374607431768211455 = omega (arith, c.ranges.plain.fits) in
    let e : c.rows_per_page.result ≡ rows_per_page (page_limit c.args.limit) c.args.plain c.slot_count-rows.result = c.rows_per_page.ensures c.args.plain whole in
    omega (arith, e)
