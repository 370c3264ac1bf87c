use Rattle.std.proofs.Common.{◌≡◌, ◌+◌, ◌*◌, ◌≤◌, ◌<◌, ◌∙◌, ℕ, length, slice_index_or, ap, sym, subst, rules, arith}
use Rattle.columns_slots.specs.Tree.{struct_array, fixed_list_array}
use Rattle.columns_array.specs.Boxed.{boxed, all_boxed}
use Rattle.columns_slots.specs.Slots.{IsSound, cut_mask, tree_len, first_len, cut, tree_size, trees_size}
use Rattle.columns_slots.proofs.Sound.{cut_sound, first_cut, all_long, scaled}
use Rattle.columns_core.specs.View.{type_view}
use Rattle.columns_array.proofs.Boxes.{set_step, long_at, size_at}
use Rattle.columns_array.proofs.arrays.+cut.Goals as goal

pub StructArray::slice-slice_all-requires : goal.StructArray::slice-slice_all-requires
StructArray::slice-slice_all-requires t c =
    let i = c.self.inside in
    (omega (arith, c.decreases, ap tree_size c.self.view_is), all_long (all_boxed i.values.items) _ _ c.self.invariant.1.0 (subst (λ a. c.args.offset + c.args.length ≤ tree_len a) (sym c.self.view_is) c.requires))

pub StructArray::slice-invariant_of-self : goal.StructArray::slice-invariant_of-self
StructArray::slice-invariant_of-self t c =
    let i = c.self.inside in
    let cs = all_boxed i.values.items in
    let fits : c.args.offset + c.args.length ≤ first_len (all_boxed i.values.items) = subst (λ a. c.args.offset + c.args.length ≤ tree_len a) (sym c.self.view_is) c.requires in
    rw (c.slice_all.ensures, c.cut_validity.ensures) (
      sym (first_cut cs (first_len cs) c.args.offset c.args.length c.self.invariant.1.0 fits),
      cut_sound (struct_array (type_view i.data_type) cs i.validity) c.args.offset c.args.length c.self.invariant.1 fits,
    )

-- the child is the one that was there at the start
child_is : {t : ℕ} (c : goal.structs::slice_all-After-index_mut-child t) → c.index_mut-child.result.now ≡ slice_index_or c.args.values.now.items c.loop-i.i c.index_mut-child.result.now
child_is c = c.index_mut-child.ensures.value ∙ c.loop-i.invariant.0.1 c.loop-i.i _ (omega arith)

within : {t : ℕ} (c : goal.structs::slice_all-After-index_mut-child t) → c.loop-i.i < length c.args.values.now.items
within c = omega (arith, c.loop-i-test.true, c.len-i-end.ensures, c.args.values.now.ok.0)

pub structs::slice_all-slice-requires : goal.structs::slice_all-slice-requires
structs::slice_all-slice-requires t c =
    let ys = c.args.values.now.items in
    let b = c.index_mut-child.result.now in
    let smaller : tree_size (boxed b) ≤ trees_size (all_boxed ys) =
    subst (λ x. tree_size (boxed x) ≤ trees_size (all_boxed ys)) (sym (child_is c)) (size_at ys c.loop-i.i b (within c)) in (
      omega (arith, c.decreases, smaller),
      subst (λ x. c.args.offset + c.args.length ≤ tree_len (boxed x)) (sym (child_is c)) (long_at ys c.loop-i.i b _ c.requires (within c)),
    )

pub structs::slice_all-loop-i-preserved : goal.structs::slice_all-loop-i-preserved
structs::slice_all-loop-i-preserved t c =
    let ys = c.args.values.now.items in (
      search rules,
      set_step c.loop-i.values.items ys c.loop-i.i c.slice.new.self c.index_mut-child.result.now _ _ (omega (arith, c.loop-i.invariant.0.0, c.loop-i-test.true, c.len-i-end.ensures, c.args.values.now.ok.0)) c.loop-i.invariant.0.0 c.loop-i.invariant.1
          (subst (λ x. boxed c.slice.new.self ≡ cut (boxed x) c.args.offset c.args.length) (c.index_mut-child.ensures.value ∙ c.loop-i.invariant.0.1 c.loop-i.i _ (omega arith)) c.slice.ensures),
    )

pub FixedSizeListArray::slice-slice-requires : goal.FixedSizeListArray::slice-slice-requires
FixedSizeListArray::slice-slice-requires t c =
    let i = c.self.inside in
    let e : c.deref_mut.result.now ≡ i.values.value = c.deref_mut.ensures.value in
    let fits : c.args.offset + c.args.length ≤ i.size = subst (λ a. c.args.offset + c.args.length ≤ tree_len a) (sym c.self.view_is) c.requires in
    let within : c.args.offset * i.width + c.args.length * i.width ≤ tree_len (boxed i.values.value) = subst (λ k. c.args.offset * i.width + c.args.length * i.width ≤ k) (sym c.self.invariant.0) (scaled c.args.offset c.args.length i.size i.width fits) in
    (omega (arith, c.decreases, ap tree_size c.self.view_is, ap (λ b. tree_size (boxed b)) e), subst (λ b. c.args.offset * i.width + c.args.length * i.width ≤ tree_len (boxed b)) (sym e) within)

pub FixedSizeListArray::slice-invariant_of-self : goal.FixedSizeListArray::slice-invariant_of-self
FixedSizeListArray::slice-invariant_of-self t c =
    let i = c.self.inside in
    let e : c.deref_mut.result.now ≡ i.values.value = c.deref_mut.ensures.value in
    let fits : c.args.offset + c.args.length ≤ i.size = subst (λ a. c.args.offset + c.args.length ≤ tree_len a) (sym c.self.view_is) c.requires in
    rw (c.slice.ensures, c.cut_validity.ensures)
    (subst (λ b. IsSound (fixed_list_array (type_view i.data_type) i.width c.args.length (cut (boxed b) (c.args.offset * i.width) (c.args.length * i.width)) (cut_mask i.validity c.args.offset c.args.length))) (sym e)
    (cut_sound (fixed_list_array (type_view i.data_type) i.width i.size (boxed i.values.value) i.validity) c.args.offset c.args.length c.self.invariant fits))
