use Rattle.std.proofs.Common.{◌≡◌, ◌∙◌, true≢false, map, sym, ap, subst}
use Rattle.shredding.specs.Shape.{decimal}
use Rattle.columns_array.specs.Boxed.{boxed}
use Rattle.columns_core.specs.Shapes.{base, leaf_type}
use Rattle.columns_core.specs.Tree.{TypeTree}
use Rattle.columns_slots.specs.Slots.{type_of}
use Rattle.columns_slots.specs.Tree.{ArrayTree}
use Rattle.levels.specs.Nested.{parts_of}
use Rattle.nested_paths.specs.LeafNulls.{value_at}
use Rattle.pq_tree.specs.Physical.{Physical}
use Rattle.pq_tree.specs.Views.{physical_view}
use Rattle.write_places.specs.Places.{path_places}
use Rattle.write_values.specs.Decimals.{any_wide}
use Rattle.write_values.specs.Leaf.{leaf_physical}
use Rattle.write_values.specs.Served.{is_decimal}
use Rattle.write_values.proofs.ServedTypes.{leaf_base}
use Rattle.write_values.proofs.WideColumns.{decimal_served, decimal_type, served_room, wide_is}
use Rattle.write_values.proofs.wide.has_wide.Goals as goal

pub returns-then-not-is_decimal : goal.returns-then-not-is_decimal
returns-then-not-is_decimal c =
    let t = type_of (boxed c.args.array.now) in
    let same : c.is_decimal.result ≡ is_decimal (base t) = c.is_decimal.ensures ∙ ap (λ (x : TypeTree). is_decimal (base x)) c.data_type.ensures in (
      λ h. absurd (true≢false (sym h)),
      λ w. absurd (true≢false (sym (same ∙ decimal_served (base t) (physical_view c.args.physical_type) c.requires.served (leaf_base t ∙ w.0)) ∙ c.if-not-is_decimal.true)),
    )

pub returns : goal.returns
returns c =
    let a = boxed c.args.array.now in
    let t = type_of a in
    let p = physical_view c.args.physical_type in
    let places = path_places (parts_of c.args.nested.now) in
    let same : c.is_decimal.result ≡ is_decimal (base t) = c.is_decimal.ensures ∙ ap (λ (x : TypeTree). is_decimal (base x)) c.data_type.ensures in
    let decimals : leaf_type t ≡ decimal = sym (leaf_base t) ∙ decimal_type (base t) (sym same ∙ c.if-not-is_decimal.false) in
    let l = c.in-Some.ensures in
    let own : c.leaf_has_wide.result ≡ any_wide p (map (value_at a) places) =
    subst (λ (q : Physical). c.leaf_has_wide.result ≡ any_wide q (map (value_at a) places)) l.physical
    (subst (λ (x : ArrayTree). c.leaf_has_wide.result ≡ any_wide (leaf_physical c.in-Some.leaf) (map (value_at x) places)) l.tree c.leaf_has_wide.ensures) in
    wide_is (leaf_type t) p c.leaf_has_wide.result (value_at a) c.args.nested.now decimals (served_room (base t) p c.requires.served (leaf_base t ∙ decimals)) own
