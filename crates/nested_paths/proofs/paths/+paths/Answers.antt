use Rattle.std.proofs.Common.{◌≤◌, inr, sym, subst, arith}
use Rattle.columns_array.specs.Boxed.{boxed, all_boxed}
use Rattle.columns_slots.specs.Slots.{tree_size, trees_size}
use Rattle.levels.specs.Nested.{parts_of}
use Rattle.pq_tree.specs.TreeViews.{tree_view}
use Rattle.nested_paths.specs.Kinds.{kinds_of}
use Rattle.nested_paths.proofs.Widths.{items_kept, fields_kept}
use Rattle.nested_paths.proofs.Inners.{items_smaller}
use Rattle.nested_paths.proofs.Walks.{size_at, items_taken, fields_taken, other_fields}
use Rattle.nested_paths.proofs.paths.+paths.Goals as goal

pub push_paths-push_paths-requires : goal.push_paths-push_paths-requires
push_paths-push_paths-requires t c =
    omega (arith, c.decreases, items_smaller (boxed c.args.array.now) (boxed c.in-Items.items.now) c.in-Items.ensures)

pub push_all_paths-push_paths-requires : goal.push_all_paths-push_paths-requires
push_all_paths-push_paths-requires t c =
    let xs = c.args.arrays.now in
    let smaller : tree_size (boxed c.index-arrays-i.result) ≤ trees_size (all_boxed xs) =
    subst (λ x. tree_size (boxed x) ≤ trees_size (all_boxed xs)) (sym c.index-arrays-i.is) (size_at xs c.loop-i.i c.index-arrays-i.result c.loop-i-test.true) in
    omega (arith, c.decreases, smaller)

pub push_paths-returns-then-arrays-nodes-clause-taken : goal.push_paths-returns-then-arrays-nodes-clause-taken
push_paths-returns-then-arrays-nodes-clause-taken t c =
    inr (other_fields (boxed c.args.array.now) c.in-Fields.arrays.now (tree_view c.args.node.now) c.in-Some-field_nodes.nodes.now c.in-Fields.ensures (sym c.in-Some-field_nodes.ensures) c.if-arrays-nodes.true)

pub push_paths-returns-in_ok-path-in-Items-clause-taken : goal.push_paths-returns-in_ok-path-in-Items-clause-taken
push_paths-returns-in_ok-path-in-Items-clause-taken t c =
    items_taken (parts_of c.args.parents.now) (parts_of c.in_ok-path-in-Items.path.items) (boxed c.args.array.now) (boxed c.in-Items.items.now) (tree_view c.args.node.now) (tree_view c.in-Some.item.now) _ _ c.push_paths.result
    c.in-Items.ensures (sym c.in-Some.ensures) c.in_ok-path-in-Items.ensures.ok (rw c.deref.ensures.value at c.push_paths.ensures.taken)

pub push_paths-returns-in_ok-path-in-Fields-clause-taken : goal.push_paths-returns-in_ok-path-in-Fields-clause-taken
push_paths-returns-in_ok-path-in-Fields-clause-taken t c =
    fields_taken (parts_of c.args.parents.now) (parts_of c.in_ok-path-in-Fields.path.items) (boxed c.args.array.now) c.in-Fields.arrays.now (tree_view c.args.node.now) c.in-Some-field_nodes.nodes.now _ _ c.push_all_paths.result
    c.in-Fields.ensures (sym c.in-Some-field_nodes.ensures) c.if-arrays-nodes.false c.in_ok-path-in-Fields.ensures.ok (rw c.deref-in-Fields.ensures.value at c.push_all_paths.ensures.taken)

pub push_paths-returns-in_ok-path-in-Items-clause-kinds : goal.push_paths-returns-in_ok-path-in-Items-clause-kinds
push_paths-returns-in_ok-path-in-Items-clause-kinds t c =
    items_kept (kinds_of c.args.parents.now) (kinds_of c.in_ok-path-in-Items.path.items) (boxed c.args.array.now) (boxed c.in-Items.items.now) _ _ c.push_paths.result
    c.in-Items.ensures c.in_ok-path-in-Items.ensures.kinds (rw c.deref.ensures.value at c.push_paths.ensures.kinds)

pub push_paths-returns-in_ok-path-in-Fields-clause-kinds : goal.push_paths-returns-in_ok-path-in-Fields-clause-kinds
push_paths-returns-in_ok-path-in-Fields-clause-kinds t c =
    fields_kept (kinds_of c.args.parents.now) (kinds_of c.in_ok-path-in-Fields.path.items) (boxed c.args.array.now) (all_boxed c.in-Fields.arrays.now) _ _ c.push_all_paths.result
    c.in-Fields.ensures c.in_ok-path-in-Fields.ensures.kinds (rw c.deref-in-Fields.ensures.value at c.push_all_paths.ensures.kinds)
