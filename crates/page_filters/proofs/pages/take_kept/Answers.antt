use Rattle.std.proofs.Common.{sym, ◌∙◌}
use Rattle.pq_tree.specs.Described.{column_view}
use Rattle.page_filters.specs.Filters.{keeping}
use Rattle.page_filters.proofs.Kept.{fails_later, fewer, goes_on, taken}
use Rattle.page_filters.proofs.pages.take_kept.Goals as goal

pub pages-smaller : goal.pages-smaller
pages-smaller g c = fewer (keeping g.F.PageFilter.keeps c.args.filter.now (column_view c.args.column.now)) _ _ _ _ (sym c.lends_refused.ensures ∙ c.pages-test.true) c.in-Ok-advance.ensures

pub pages-preserved : goal.pages-preserved
pages-preserved g c = goes_on (keeping g.F.PageFilter.keeps c.args.filter.now (column_view c.args.column.now)) _ _ _ _ _ c.pages.invariant (sym c.lends_refused.ensures ∙ c.pages-test.true) c.in-Ok-advance.ensures

pub returns-in-Err-advance : goal.returns-in-Err-advance
returns-in-Err-advance g c = fails_later (keeping g.F.PageFilter.keeps c.args.filter.now (column_view c.args.column.now)) c.in-Err-advance.error _ _ _ _ _ c.pages.invariant (sym c.lends_refused.ensures ∙ c.pages-test.true) c.in-Err-advance.ensures

pub returns : goal.returns
returns g c = taken (keeping g.F.PageFilter.keeps c.args.filter.now (column_view c.args.column.now)) _ _ _ c.pages.invariant (sym c.lends_refused.ensures ∙ c.pages-test.false)
