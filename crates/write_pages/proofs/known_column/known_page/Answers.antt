use Rattle.columns_array.specs.Boxed.{boxed}
use Rattle.pq_tree.specs.Views.{physical_view}
use Rattle.write_pages.proofs.PageRows.{each_ok, holds_rows, room_is_past, rows_held}
use Rattle.write_pages.proofs.WidePieces.{past_result}
use Rattle.write_pages.proofs.known_column.known_page.Goals as goal

pub returns-clause-ok : goal.returns-clause-ok
returns-clause-ok c =
    let a = boxed c.args.array.now in
    let p = physical_view c.args.type_.physical_type in
    let nested = c.args.nested.now in
    let served = c.requires.served in
    each_ok c.data_page_with.result _ _ (λ page h. holds_rows a p nested c.know.ensures served c.requires.nulls c.args.options c.args.with_deltas c.args.type_ page c.data_page_with.ensures.stored h) c.data_page_with.ensures.ok

pub returns-clause-err : goal.returns-clause-err
returns-clause-err c =
    let a = boxed c.args.array.now in
    let p = physical_view c.args.type_.physical_type in
    past_result c.data_page_with.result _ _ (λ h. room_is_past a p c.args.nested.now c.know.ensures c.requires.served c.requires.nulls c.data_page_with.ensures.stored h) c.data_page_with.ensures.too_large c.data_page_with.ensures.err

pub data_page_with-requires-clause-held : goal.data_page_with-requires-clause-held
data_page_with-requires-clause-held c =
    rows_held (boxed c.args.array.now) (physical_view c.args.type_.physical_type) c.args.nested.now c.know.ensures c.requires.served c.requires.nulls c.requires.held
