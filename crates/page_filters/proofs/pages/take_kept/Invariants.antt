use Rattle.std.proofs.Common.{length}
use Rattle.pq_tree.specs.Described.{column_view}
use Rattle.page_filters.specs.Filters.{keeping}
use Rattle.page_filters.proofs.Kept.{Stands, ahead}
use Rattle.page_filters.proofs.pages.take_kept.Given as goal

abbrev pub invariant-pages : goal.invariant-pages
invariant-pages g l = Stands (keeping g.F.PageFilter.keeps l.filter (column_view l.column)) (g.P.Pages.outcomes l.fn.pages) (g.P.Pages.lent l.pages) (g.P.Pages.outcomes l.pages)

abbrev pub decreases-pages : goal.decreases-pages
decreases-pages g l = length (ahead (g.P.Pages.lent l.pages) (g.P.Pages.outcomes l.pages))
