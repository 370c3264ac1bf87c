use Rattle.columns_array.specs.Boxed.{boxed}
use Rattle.pq_tree.specs.Views.{physical_view}
use Rattle.write_pages.proofs.PageRows.{each_ok, comes_as, holds_rows, rows_held, room_is_past, is_past_room}
use Rattle.write_pages.proofs.page.page_of_rows.Goals as goal

pub returns-clause-ok : goal.returns-clause-ok
returns-clause-ok c =
    let a = boxed c.args.array.now in
    let p = physical_view c.args.type_.physical_type in
    let nested = c.args.nested.now in
    let served = c.requires.served in
    each_ok c.data_page.result _ _ (λ page h. holds_rows a p nested c.know.ensures served c.requires.nulls c.args.options c.args.with_deltas c.args.type_ page (c.data_page.ensures.stored served) h) c.data_page.ensures.ok

pub returns-clause-too_large : goal.returns-clause-too_large
returns-clause-too_large c =
    let a = boxed c.args.array.now in
    let p = physical_view c.args.type_.physical_type in
    let nested = c.args.nested.now in
    let served = c.requires.served in
    let are = c.data_page.ensures.stored served in
    comes_as _ _ _ (λ h. room_is_past a p nested c.know.ensures served c.requires.nulls are h.1) (λ h. (served, is_past_room a p nested c.know.ensures served c.requires.nulls are h)) c.data_page.result c.data_page.ensures.too_large

pub data_page-requires-clause-held : goal.data_page-requires-clause-held
data_page-requires-clause-held c =
    rows_held (boxed c.args.array.now) (physical_view c.args.type_.physical_type) c.args.nested.now c.know.ensures c.requires.served c.requires.nulls c.requires.held
