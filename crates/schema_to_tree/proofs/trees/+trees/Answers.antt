use Rattle.std.proofs.Common.{None, rules, arith, ap, ◌∙◌}
use Rattle.std.proofs.lemmas.Grind.{common_steps}
use Rattle.pq_tree.specs.Tree.{group}
use Rattle.pq_tree.specs.TreeViews.{info_view}
use Rattle.schema_to_tree.specs.Table.{marked}
use Rattle.schema_to_tree.proofs.Joined.{join_step, join_done, fault_step, fault_done, fault_struct, list_gives, map_gives}
use Rattle.schema_to_tree.proofs.trees.+trees.Goals as goal

pub field_trees-loop-field-preserved : goal.field_trees-loop-field-preserved
field_trees-loop-field-preserved t c =
    record { made = rw c.in_ok-push.ensures.items (search (rules, join_step)); sound = search (rules, fault_step); shallow = first_of (search rules, grind (arith, common_steps)) }

pub field_trees-returns : goal.field_trees-returns
field_trees-returns t c = search (rules, join_done, fault_done)

pub struct_tree-returns : goal.struct_tree-returns
struct_tree-returns t c = (
  c.struct_of.ensures ∙ ap (group (marked (info_view c.args.field_info None None) None None)) c.in_ok-trees.ensures.0,
  fault_struct c.args.fields.now c.if-is_empty.ensures ∙ c.in_ok-trees.ensures.1,
)

pub type_tree-returns-in-Map : goal.type_tree-returns-in-Map
type_tree-returns-in-Map t c = map_gives (info_view c.args.field_info None None) _ c.in-Map.entry c.in-Map.field-1 c.deref.result.now _ c.in-Map.is c.deref.ensures c.map_tree.ensures

pub type_tree-returns-in-List : goal.type_tree-returns-in-List
type_tree-returns-in-List t c =
    list_gives (info_view c.args.field_info None None) _ c.in-List.item c.deref-in-List.result.now _ c.in-List.is c.deref-in-List.ensures c.list_tree.ensures
