use Rattle.std.proofs.Common.{◌≡◌, ◌<◌, All, sym, true, subst}
use Rattle.std.specs.Prelude.{IfOk}
use Rattle.columns_array.specs.Boxed.{boxed}
use Rattle.columns_core.specs.Shapes.{base, leaf_type}
use Rattle.columns_core.specs.Tree.{TypeTree}
use Rattle.columns_slots.specs.Slots.{tree_len, type_of}
use Rattle.columns_slots.specs.Tree.{ArrayTree}
use Rattle.levels.specs.Nested.{parts_of}
use Rattle.pq_tree.specs.Physical.{Physical}
use Rattle.pq_tree.specs.Views.{physical_view}
use Rattle.write_places.specs.Places.{path_places}
use Rattle.write_values.specs.Decimals.{HasWide}
use Rattle.write_values.specs.Deltas.{IsLeafType, IsSpelling}
use Rattle.write_values.specs.Leaf.{leaf_physical, leaf_tree}
use Rattle.write_values.specs.Served.{is_served}
use Rattle.write_values.proofs.ServedDeltas.{leaf_types}
use Rattle.write_values.specs.Pages.{IsColumnPage, value_column}
use Rattle.write_values.proofs.ServedColumns.{column_stored}
use Rattle.write_values.proofs.page.data_page.Goals as goal

pub returns-in-Some-clause-ok : goal.returns-in-Some-clause-ok
returns-in-Some-clause-ok c =
    let a = boxed c.args.array.now in
    let nested = c.args.nested.now in
    let l = c.in-Some.ensures in
    let q = leaf_physical c.in-Some.leaf in
    subst (λ (r : Physical). IfOk c.leaf_page.result (IsColumnPage c.args.form a r c.args.type_ nested)) l.physical
    (subst (λ (b : ArrayTree). IfOk c.leaf_page.result (IsColumnPage c.args.form b q c.args.type_ nested)) l.tree c.leaf_page.ensures.ok)

pub returns-in-Some-clause-stored : goal.returns-in-Some-clause-stored
returns-in-Some-clause-stored c = λ served.
    let a = boxed c.args.array.now in
    let nested = c.args.nested.now in
    let within : All (λ i. i < tree_len a) (path_places (parts_of nested)) = subst (λ (b : ArrayTree). All (λ i. i < tree_len b) (path_places (parts_of nested))) c.in-Some.ensures.tree c.leaf_page.ensures.places in
    column_stored a (physical_view c.args.type_.physical_type) nested c.know.ensures served c.requires.nulls within c.requires.held

pub leaf_page-requires-clause-spelling : goal.leaf_page-requires-clause-spelling
leaf_page-requires-clause-spelling c =
    let l = c.in-Some.ensures in
    let d = c.spelling_of-deltas.result in
    let wanted = c.args.form.with_deltas in
    let t = type_of (boxed c.args.array.now) in
    let p = physical_view c.args.type_.physical_type in
    let served : is_served (base t) p ≡ true = l.served in
    let own : IsSpelling wanted (leaf_type t) p d = subst (λ (x : TypeTree). IsLeafType x → IsSpelling wanted (leaf_type x) p d) c.data_type.ensures c.spelling_of-deltas.ensures (leaf_types t p served) in
    subst (λ (q : Physical). IsSpelling wanted (leaf_type (type_of (leaf_tree c.in-Some.leaf))) q d) (sym l.physical) (subst (λ (x : ArrayTree). IsSpelling wanted (leaf_type (type_of x)) p d) (sym l.tree) own)

pub leaf_page-requires-clause-held : goal.leaf_page-requires-clause-held
leaf_page-requires-clause-held c =
    let l = c.in-Some.ensures in
    let p = physical_view c.args.type_.physical_type in
    subst (λ (q : Physical). ¬ HasWide (leaf_type (type_of (leaf_tree c.in-Some.leaf))) q (value_column (leaf_tree c.in-Some.leaf) c.args.nested.now)) (sym l.physical)
    (subst (λ (x : ArrayTree). ¬ HasWide (leaf_type (type_of x)) p (value_column x c.args.nested.now)) (sym l.tree) c.requires.held)
