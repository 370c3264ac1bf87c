use Rattle.std.proofs.Common.{◌+◌, ◌≤◌, subst}
use Rattle.columns_array.specs.Boxed.{boxed}
use Rattle.columns_slots.specs.Slots.{tree_len}
use Rattle.columns_core.specs.Shapes.{base}
use Rattle.columns_leaf.specs.Fixed.{fixed_width, fixed_count}
use Rattle.columns_array.proofs.Know.{widths_fit}
use Rattle.columns_array.proofs.arrays.boxes.cut_leaf.Goals as goal

pub slice-requires-in-FixedSizeBinary : goal.slice-requires-in-FixedSizeBinary
slice-requires-in-FixedSizeBinary c =
    let a = c.in-FixedSizeBinary.a in
    widths_fit (fixed_width (base a.0)) (fixed_count (base a.0) a.1.0) a.1.0 (c.args.offset + c.args.length) (subst (λ b. c.args.offset + c.args.length ≤ tree_len (boxed b)) c.in-FixedSizeBinary.is c.requires.within)
