use Rattle.std.proofs.Common.{◌+◌, ◌≤◌, sym, subst}
use Rattle.columns_core.specs.View.{type_view}
use Rattle.columns_slots.specs.Tree.{list_array}
use Rattle.columns_array.specs.Boxed.{boxed}
use Rattle.columns_slots.specs.Slots.{tree_len}
use Rattle.columns_slots.proofs.Sound.{cut_sound}
use Rattle.columns_array.proofs.arrays.MapArray.slice.Goals as goal

pub invariant_of-self : goal.invariant_of-self
invariant_of-self c =
    let i = c.self.inside in
    rw (c.slice_ranges.ensures, c.cut_validity.ensures) (
      cut_sound (list_array (type_view i.data_type) i.offsets (boxed i.values.value) i.validity) c.args.offset c.args.length c.self.invariant.0
          (subst (λ t. c.args.offset + c.args.length ≤ tree_len t) (sym c.self.view_is) c.requires),
      c.self.invariant.1,
    )
