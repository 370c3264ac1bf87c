use Rattle.std.proofs.Common.{◌≡◌, length, map, ap, ◌∙◌, arith, ◌++◌, None}
use Rattle.pq_thrift.specs.Value.{view}
use Rattle.pq_tree.specs.TreeViews.{trees_view, info_view}
use Rattle.pq_tree.specs.Tree.{preorder_of}
use Rattle.pq_files.specs.Written.{element_value, element_of}
use Rattle.footer_write.proofs.Nodes.{few_beneath, leaf_pushed, group_pushed, on_ok}
use Rattle.footer_write.proofs.elements.+elements.Goals as goal

pub push_tree-group_element-requires-clause-few : goal.push_tree-group_element-requires-clause-few
push_tree-group_element-requires-clause-few t c =
    omega (arith, few_beneath c.args.tree.now c.in-GroupType.field_info c.in-GroupType.logical_type c.in-GroupType.converted_type c.in-GroupType.fields c.in-GroupType.is c.requires.small, c.len-count.ensures)

pub push_tree-returns-in_ok-push-in-PrimitiveType : goal.push_tree-returns-in_ok-push-in-PrimitiveType
push_tree-returns-in_ok-push-in-PrimitiveType t c =
    ap (map view) c.in_ok-push-in-PrimitiveType.ensures.items ∙ leaf_pushed c.args.elements.now.items _ c.args.tree.now c.in-PrimitiveType.leaf c.in-PrimitiveType.is c.in_ok-leaf_element-in-PrimitiveType.ensures

pub push_tree-returns-in_ok-push-in-GroupType : goal.push_tree-returns-in_ok-push-in-GroupType
push_tree-returns-in_ok-push-in-GroupType t c =
    let f = c.in-GroupType.field_info in
    let l = c.in-GroupType.logical_type in
    let k = c.in-GroupType.converted_type in
    let ts = c.in-GroupType.fields in
    let g = c.in_ok-group-in-GroupType.group in
    let is_group : view g ≡ element_of None (length ts.items) (info_view f k l) = c.in_ok-group-in-GroupType.ensures ∙ ap (λ n. element_of None n (info_view f k l)) (c.len-count.ensures ∙ ts.ok.0) in
    on_ok c.push_trees.result
    (λ h. group_pushed c.args.elements.now.items c.push_trees.new.elements.items g c.args.tree.now f l k ts c.in-GroupType.is is_group
    (h ∙ (λ i. map view (c.in_ok-push-in-GroupType.ensures.items i) ++ map element_value (preorder_of (trees_view (c.deref.ensures.value i))))))
    c.push_trees.ensures
