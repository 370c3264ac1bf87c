use Rattle.std.proofs.Common.{◌≡◌, sym, true, subst}
use Rattle.std.specs.Prelude.{IfOk}
use Rattle.columns_array.specs.Boxed.{boxed}
use Rattle.columns_core.specs.Shapes.{base, leaf_type}
use Rattle.columns_core.specs.Tree.{TypeTree}
use Rattle.columns_slots.specs.Slots.{type_of}
use Rattle.columns_slots.specs.Tree.{ArrayTree}
use Rattle.pq_tree.specs.Physical.{Physical}
use Rattle.pq_tree.specs.Views.{physical_view}
use Rattle.write_values.specs.Deltas.{IsLeafType, IsSpelling}
use Rattle.write_values.specs.Known.{AreKnown}
use Rattle.write_values.specs.Leaf.{leaf_physical, leaf_tree}
use Rattle.write_values.specs.Served.{is_served}
use Rattle.write_values.proofs.ServedDeltas.{leaf_types}
use Rattle.write_values.specs.Pages.{IsColumnPage}
use Rattle.write_values.proofs.ServedColumns.{column_stored}
use Rattle.write_values.proofs.page.data_page_with.Goals as goal

pub returns-clause-ok : goal.returns-clause-ok
returns-clause-ok c =
    let a = boxed c.args.array.now in
    let nested = c.args.nested.now in
    let l = c.in-Some.ensures in
    let q = leaf_physical c.in-Some.leaf in
    subst (λ (r : Physical). IfOk c.page_with.result (IsColumnPage c.args.form a r c.args.type_ nested)) l.physical
    (subst (λ (b : ArrayTree). IfOk c.page_with.result (IsColumnPage c.args.form b q c.args.type_ nested)) l.tree c.page_with.ensures.ok)

pub returns-clause-stored : goal.returns-clause-stored
returns-clause-stored c =
    column_stored (boxed c.args.array.now) (physical_view c.args.type_.physical_type) c.args.nested.now c.know.ensures c.requires.served c.requires.nulls c.requires.known.measures.within c.requires.held

pub page_with-requires-clause-spelling : goal.page_with-requires-clause-spelling
page_with-requires-clause-spelling c =
    let l = c.in-Some.ensures in
    let d = c.spelling_of-deltas.result in
    let wanted = c.args.form.with_deltas in
    let t = type_of (boxed c.args.array.now) in
    let p = physical_view c.args.type_.physical_type in
    let served : is_served (base t) p ≡ true = l.served in
    let own : IsSpelling wanted (leaf_type t) p d = subst (λ (x : TypeTree). IsLeafType x → IsSpelling wanted (leaf_type x) p d) c.data_type.ensures c.spelling_of-deltas.ensures (leaf_types t p served) in
    subst (λ (q : Physical). IsSpelling wanted (leaf_type (type_of (leaf_tree c.in-Some.leaf))) q d) (sym l.physical) (subst (λ (x : ArrayTree). IsSpelling wanted (leaf_type (type_of x)) p d) (sym l.tree) own)

pub page_with-requires-clause-known : goal.page_with-requires-clause-known
page_with-requires-clause-known c =
    let l = c.in-Some.ensures in
    let p = physical_view c.args.type_.physical_type in
    subst (λ (q : Physical). AreKnown c.args.form.with_statistics (leaf_tree c.in-Some.leaf) q c.args.nested.now c.args.known) (sym l.physical)
    (subst (λ (x : ArrayTree). AreKnown c.args.form.with_statistics x p c.args.nested.now c.args.known) (sym l.tree) c.requires.known)
