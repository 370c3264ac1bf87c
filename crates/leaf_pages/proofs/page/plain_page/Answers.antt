use Rattle.columns_array.specs.Boxed.{boxed}
use Rattle.columns_core.specs.Shapes.{base}
use Rattle.columns_slots.specs.Slots.{type_of}
use Rattle.pq_tree.specs.Views.{physical_view}
use Rattle.leaf_pages.proofs.Opened.{fits}
use Rattle.leaf_pages.specs.Columns.{column_along}
use Rattle.write_pages.proofs.PageTable.{fits_served}
use Rattle.leaf_pages.proofs.page.plain_page.Goals as goal
use Rattle.std.proofs.Common.{true}

pub spelled_page-requires-clause-served : goal.spelled_page-requires-clause-served
spelled_page-requires-clause-served c =
    let a = boxed c.args.array.now in
    let f = fits (column_along c.args.type_ c.args.nested.now a) c.requires.fits in
    fits_served true (base (type_of a)) (physical_view c.args.type_.physical_type) c.requires.written f.physical
