use Rattle.std.proofs.Common.{◌≡◌, ◌∙◌, length, true≢false, sym, ap, inl, inr, arith, Vec, Bor}
use Rattle.std.specs.Global.{Global}
use Rattle.std.proofs.lemmas.List.{length-map}
use Rattle.columns_array.specs.Boxed.{boxed}
use Rattle.columns_array.specs.declared.arrays.ArrayBox.{ArrayBox}
use Rattle.levels.specs.declared.nested.Nested.{Nested}
use Rattle.levels.specs.Nested.{parts_of}
use Rattle.nested_paths.specs.Leaves.{array_leaves, leaf_node, node_of}
use Rattle.nested_paths.specs.Levels.{path_levels, leaf_levels}
use Rattle.nested_paths.specs.Taken.{all_parts, shown}
use Rattle.pq_tree.specs.Tree.{Tree, leaves}
use Rattle.pq_tree.specs.TreeViews.{tree_view}
use Rattle.write_pages.proofs.ArrayColumns.{mapped_long, none_fixed, seen_long}
use Rattle.write_pages.proofs.columns.array_to_columns.Goals as goal

pub returns-clause-err : goal.returns-clause-err
returns-clause-err c =
    let none = none_fixed (boxed c.args.array.now) (tree_view c.args.type_.now) c.in_ok-found.ensures.fits in
    elim c.in-Err.ensures.err [ inl m ↦ inl m | inr h ↦ absurd (true≢false (sym h.1 ∙ none)) ]

pub pages_of_all-requires-clause-paths : goal.pages_of_all-requires-clause-paths
pages_of_all-requires-clause-paths c =
    let found = c.in_ok-found.found.items in
    let types = c.in_ok-types.types.items in
    let tree : length (all_parts found) ≡ length (leaves (tree_view c.args.type_.now)) = mapped_long path_levels leaf_levels (all_parts found) (leaves (tree_view c.args.type_.now)) c.in_ok-found.ensures.levels in
    let nodes : length types ≡ length (leaves (tree_view c.in_ok-clone.field-0)) = mapped_long leaf_node node_of types (leaves (tree_view c.in_ok-clone.field-0)) c.in_ok-types.ensures.ok in
    let same : length (leaves (tree_view c.in_ok-clone.field-0)) ≡ length (leaves (tree_view c.args.type_.now)) = ap (λ (t : Tree). length (leaves t)) c.in_ok-clone.ensures.same in
    let a : length c.deref-in-Ok-2.result.now ≡ length found = ap length c.deref-in-Ok-2.ensures.value in
    let b : length c.deref-in-Ok.result.now ≡ length types = ap length c.deref-in-Ok.ensures.value in
    let k : length (all_parts found) ≡ length found = length-map found (λ (path : Vec Nested Global). parts_of path.items) in
    omega (arith, tree, nodes, same, a, b, k)

pub pages_of_all-requires-clause-arrays : goal.pages_of_all-requires-clause-arrays
pages_of_all-requires-clause-arrays c =
    let found = c.in_ok-found.found.items in
    let types = c.in_ok-types.types.items in
    let arrays = c.in-Ok.arrays.items in
    let tree : length (all_parts found) ≡ length (leaves (tree_view c.args.type_.now)) = mapped_long path_levels leaf_levels (all_parts found) (leaves (tree_view c.args.type_.now)) c.in_ok-found.ensures.levels in
    let nodes : length types ≡ length (leaves (tree_view c.in_ok-clone.field-0)) = mapped_long leaf_node node_of types (leaves (tree_view c.in_ok-clone.field-0)) c.in_ok-types.ensures.ok in
    let same : length (leaves (tree_view c.in_ok-clone.field-0)) ≡ length (leaves (tree_view c.args.type_.now)) = ap (λ (t : Tree). length (leaves t)) c.in_ok-clone.ensures.same in
    let seen : length (all_parts found) ≡ length (array_leaves (boxed c.args.array.now)) = seen_long _ _ (all_parts found) (array_leaves (boxed c.args.array.now)) c.in_ok-found.ensures.seen in
    let all : length (shown arrays) ≡ length (array_leaves (boxed c.args.array.now)) = ap length c.in-Ok.ensures.ok in
    let a : length c.deref.result.now ≡ length arrays = ap length c.deref.ensures.value in
    let b : length c.deref-in-Ok.result.now ≡ length types = ap length c.deref-in-Ok.ensures.value in
    let k : length (shown arrays) ≡ length arrays = length-map arrays (λ (x : Bor ArrayBox). boxed x.now) in
    omega (arith, tree, nodes, same, seen, all, a, b, k)
