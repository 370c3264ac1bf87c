use Rattle.write_values.proofs.page.leaf_page.Goals as goal

pub page_with-requires-clause-known : goal.page_with-requires-clause-known
page_with-requires-clause-known c = record { measures = c.measure-measured.ensures; stated = c.in_ok-statistics.ensures.ok }
