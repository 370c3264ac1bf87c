use Rattle.pq_tree.specs.Described.{column_view}
use Rattle.page_filters.specs.Filters.{keeping}
use Rattle.page_filters.proofs.Kept.{lent_dictionary, lent_none}
use Rattle.page_filters.proofs.pages.lends_refused.Goals as goal

pub returns-in-Some-Dict : goal.returns-in-Some-Dict
returns-in-Some-Dict g c = lent_dictionary (keeping g.F.PageFilter.keeps c.args.filter.now (column_view c.args.column.now)) _ _ c.in-Some-Dict.field-0-0 _ c.get.ensures c.in-Some-Dict.is c.in-Some-Dict.field-0-is

pub returns-in-None : goal.returns-in-None
returns-in-None g c = lent_none (keeping g.F.PageFilter.keeps c.args.filter.now (column_view c.args.column.now)) _ _ c.get.ensures c.in-None.is
