use Rattle.std.proofs.Common.{sym, subst}
use Rattle.std.specs.Prelude.{IfOk}
use Rattle.columns_array.specs.Boxed.{boxed}
use Rattle.columns_core.specs.Shapes.{leaf_type}
use Rattle.columns_slots.specs.Slots.{type_of}
use Rattle.columns_slots.specs.Tree.{ArrayTree}
use Rattle.pq_tree.specs.Physical.{Physical}
use Rattle.pq_tree.specs.Views.{physical_view}
use Rattle.write_values.specs.Decimals.{HasWide}
use Rattle.write_values.specs.Known.{AreKnown}
use Rattle.write_values.specs.Leaf.{leaf_physical, leaf_tree}
use Rattle.write_values.specs.Pages.{value_column}
use Rattle.write_values.proofs.known.known_values.Goals as goal

pub returns-clause-ok : goal.returns-clause-ok
returns-clause-ok c =
    let a = boxed c.args.array.now in
    let l = c.in-Some.ensures in
    let q = leaf_physical c.in-Some.leaf in
    subst (λ (r : Physical). IfOk c.leaf_known.result (AreKnown c.args.is_wanted a r c.args.nested.now)) l.physical
    (subst (λ (b : ArrayTree). IfOk c.leaf_known.result (AreKnown c.args.is_wanted b q c.args.nested.now)) l.tree c.leaf_known.ensures.ok)

pub leaf_known-requires-clause-held : goal.leaf_known-requires-clause-held
leaf_known-requires-clause-held c =
    let l = c.in-Some.ensures in
    let p = physical_view c.args.physical_type in
    subst (λ (q : Physical). ¬ HasWide (leaf_type (type_of (leaf_tree c.in-Some.leaf))) q (value_column (leaf_tree c.in-Some.leaf) c.args.nested.now)) (sym l.physical)
    (subst (λ (x : ArrayTree). ¬ HasWide (leaf_type (type_of x)) p (value_column x c.args.nested.now)) (sym l.tree) c.requires.held)
