use Rattle.std.proofs.Common.{sym}
use Rattle.columns_array.specs.Boxed.{boxed}
use Rattle.columns_core.specs.Shapes.{leaf_type}
use Rattle.columns_slots.specs.Slots.{type_of}
use Rattle.levels.specs.Nested.{parts_of}
use Rattle.pq_tree.specs.Views.{physical_view}
use Rattle.leaf_pages.proofs.Opened.{fits, is_large, is_page, is_wide, large}
use Rattle.leaf_pages.proofs.Values.{values_told}
use Rattle.leaf_pages.specs.Columns.{column_along}
use Rattle.write_values.specs.Deltas.{page_encoding}
use Rattle.write_pages.proofs.PageRows.{comes_as, each_ok, holds_rows, is_past_room, room_is_past, rows_held}
use Rattle.leaf_pages.proofs.page.spelled_page.Goals as goal

pub data_page-requires-clause-leaf : goal.data_page-requires-clause-leaf
data_page-requires-clause-leaf c =
    let f = fits (column_along c.args.type_ c.args.nested.now (boxed c.args.array.now)) c.requires.fits in
    sym f.array.count

pub data_page-requires-clause-nulls : goal.data_page-requires-clause-nulls
data_page-requires-clause-nulls c = values_told (boxed c.args.array.now) (parts_of c.args.nested.now) c.requires.values

pub data_page-requires-clause-held : goal.data_page-requires-clause-held
data_page-requires-clause-held c =
    let a = boxed c.args.array.now in
    let p = physical_view c.args.type_.physical_type in
    let col = column_along c.args.type_ c.args.nested.now a in
    let told = values_told a (parts_of c.args.nested.now) c.requires.values in
    rows_held a p c.args.nested.now c.know.ensures c.requires.served told (λ w. c.requires.held (is_wide col w))

pub returns-clause-ok : goal.returns-clause-ok
returns-clause-ok c =
    let a = boxed c.args.array.now in
    let p = physical_view c.args.type_.physical_type in
    let nested = c.args.nested.now in
    let served = c.requires.served in
    let told = values_told a (parts_of nested) c.requires.values in
    each_ok c.data_page.result _ _ (λ page h. is_page c.args.options (page_encoding c.args.with_deltas (leaf_type (type_of a)) p) (column_along c.args.type_ nested a) page (holds_rows a p nested c.know.ensures served told c.args.options c.args.with_deltas c.args.type_ page (c.data_page.ensures.stored served) h)) c.data_page.ensures.ok

pub returns-clause-too_large : goal.returns-clause-too_large
returns-clause-too_large c =
    let a = boxed c.args.array.now in
    let p = physical_view c.args.type_.physical_type in
    let nested = c.args.nested.now in
    let col = column_along c.args.type_ nested a in
    let served = c.requires.served in
    let told = values_told a (parts_of nested) c.requires.values in
    let are = c.data_page.ensures.stored served in
    comes_as _ _ _ (λ h. is_large col (room_is_past a p nested c.know.ensures served told are h.1)) (λ h. (served, is_past_room a p nested c.know.ensures served told are (large col h))) c.data_page.result c.data_page.ensures.too_large
