use Rattle.std.proofs.Common.{◌<◌, subst}
use Rattle.columns_core.specs.Shapes.{base}
use Rattle.columns_slots.specs.Slots.{tree_len}
use Rattle.columns_leaf.specs.Fixed.{fixed_width, fixed_count}
use Rattle.columns_array.specs.Boxed.{boxed}
use Rattle.columns_array.proofs.Cells.{strings_under, widths_under}
use Rattle.columns_array.proofs.arrays.+cells.Goals as goal

pub ArrayBox::kept_cell-text_cell-requires : goal.ArrayBox::kept_cell-text_cell-requires
ArrayBox::kept_cell-text_cell-requires t c =
    let a = c.in-Utf8.a in
    strings_under a.1.0 a.1.1.0 c.args.i (subst (λ b. c.args.i < tree_len (boxed b)) c.in-Utf8.is c.requires.place)

pub ArrayBox::kept_cell-text_cell-requires-in-LargeUtf8 : goal.ArrayBox::kept_cell-text_cell-requires-in-LargeUtf8
ArrayBox::kept_cell-text_cell-requires-in-LargeUtf8 t c =
    let a = c.in-LargeUtf8.a in
    strings_under a.1.0 a.1.1.0 c.args.i (subst (λ b. c.args.i < tree_len (boxed b)) c.in-LargeUtf8.is c.requires.place)

pub ArrayBox::kept_cell-binary_cell-requires : goal.ArrayBox::kept_cell-binary_cell-requires
ArrayBox::kept_cell-binary_cell-requires t c =
    let a = c.in-Binary.a in
    strings_under a.1.0 a.1.1.0 c.args.i (subst (λ b. c.args.i < tree_len (boxed b)) c.in-Binary.is c.requires.place)

pub ArrayBox::kept_cell-binary_cell-requires-in-LargeBinary : goal.ArrayBox::kept_cell-binary_cell-requires-in-LargeBinary
ArrayBox::kept_cell-binary_cell-requires-in-LargeBinary t c =
    let a = c.in-LargeBinary.a in
    strings_under a.1.0 a.1.1.0 c.args.i (subst (λ b. c.args.i < tree_len (boxed b)) c.in-LargeBinary.is c.requires.place)

pub ArrayBox::kept_cell-chunk_cell-requires : goal.ArrayBox::kept_cell-chunk_cell-requires
ArrayBox::kept_cell-chunk_cell-requires t c =
    let a = c.in-FixedSizeBinary.a in
    widths_under (fixed_width (base a.0)) (fixed_count (base a.0) a.1.0) a.1.0 c.args.i (subst (λ b. c.args.i < tree_len (boxed b)) c.in-FixedSizeBinary.is c.requires.place)
