use Rattle.std.proofs.Common.{◌≡◌, ◌++◌, length, map, refl, ◌∙◌}
use Rattle.pq_thrift.specs.Value.{binary, struct, no_fields, view}
use Rattle.pq_tree.specs.Tree.{preorder_of}
use Rattle.pq_files.specs.Written.{at, i32, element_value}
use Rattle.pq_tree.specs.TreeViews.{trees_view, schema_view}
use Rattle.footer_write.proofs.Nodes.{few, root_pushed}
use Rattle.footer_write.proofs.elements.elements_from.Goals as goal

pub root_element-requires : goal.root_element-requires
root_element-requires c = rw c.fields-fields.ensures.are (few c.args.schema.now.fields c.requires.small)

pub returns : goal.returns
returns c =
    let fields = c.args.schema.now.fields in
    let root = c.in_ok-root_element.field-0 in
    let is_root : view root ≡ struct (at 4 (binary c.args.schema.now.name) (at 5 (i32 (length fields)) no_fields)) =
    c.in_ok-root_element.ensures ∙ (λ i. struct (at 4 (binary (c.name.ensures i)) (at 5 (i32 (length (c.fields-fields.ensures.are i))) no_fields))) in
    root_pushed c.push_trees.new.elements.items root (schema_view c.args.schema.now) fields refl is_root
    (c.in_ok-push_trees.ensures ∙ (λ i. map view (c.in_ok-elements.ensures.items i) ++ map element_value (preorder_of (trees_view (c.fields-fields.ensures.are i)))))
