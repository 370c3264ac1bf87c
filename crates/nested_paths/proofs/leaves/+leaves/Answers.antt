use Rattle.std.proofs.Common.{◌≤◌, sym, subst, ap, ◌∙◌, ◌++◌, arith}
use Rattle.columns_array.specs.Boxed.{boxed, all_boxed}
use Rattle.columns_slots.specs.Slots.{tree_size, trees_size}
use Rattle.nested_paths.specs.Leaves.{array_leaves, has_fixed_list}
use Rattle.nested_paths.specs.Taken.{shown}
use Rattle.nested_paths.proofs.Inners.{items_smaller, fields_smaller}
use Rattle.nested_paths.proofs.Walks.{size_at, leaves_step, fixed_step}
use Rattle.nested_paths.proofs.leaves.+leaves.Goals as goal

pub push_leaves-push_leaves-requires : goal.push_leaves-push_leaves-requires
push_leaves-push_leaves-requires t c =
    omega (arith, c.decreases, items_smaller (boxed c.args.array.now) (boxed c.in-Items.items.now) c.in-Items.ensures)

pub push_leaves-push_all_leaves-requires : goal.push_leaves-push_all_leaves-requires
push_leaves-push_all_leaves-requires t c =
    omega (arith, c.decreases, fields_smaller (boxed c.args.array.now) (all_boxed c.in-Fields.arrays.now) c.in-Fields.ensures)

pub push_all_leaves-push_leaves-requires : goal.push_all_leaves-push_leaves-requires
push_all_leaves-push_leaves-requires t c =
    let xs = c.args.arrays.now in
    let smaller : tree_size (boxed c.array-item.result) ≤ trees_size (all_boxed xs) =
    subst (λ x. tree_size (boxed x) ≤ trees_size (all_boxed xs)) (sym c.array-item.is) (size_at xs c.loop-array.array-index c.array-item.result c.loop-array-test.true) in
    omega (arith, c.decreases, smaller)

pub push_all_leaves-loop-array-preserved : goal.push_all_leaves-loop-array-preserved
push_all_leaves-loop-array-preserved t c =
    let xs = c.args.arrays.now in
    let k = c.loop-array.array-index in
    let x = c.array-item.result in
    record {
      taken = leaves_step xs k x (shown c.loop-array.leaves.items) _ _ c.loop-array-test.true c.loop-array.invariant.taken (c.in_ok-push_leaves.ensures.0 ∙ ap (λ y. shown c.loop-array.leaves.items ++ array_leaves (boxed y)) c.array-item.is);
      fixed = fixed_step xs k x _ c.loop-array-test.true c.loop-array.invariant.fixed (ap (λ y. has_fixed_list (boxed y)) (sym c.array-item.is) ∙ c.in_ok-push_leaves.ensures.1);
    }
