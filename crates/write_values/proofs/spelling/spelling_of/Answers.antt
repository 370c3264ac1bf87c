use Rattle.std.proofs.Common.{◌≡◌, ◌∙◌, Bool, true, false, sym, subst}
use Rattle.columns_core.specs.Shapes.{base, leaf_type}
use Rattle.columns_core.specs.View.{type_view}
use Rattle.columns_slots.specs.Types.{is_null_type}
use Rattle.pq_tree.specs.Views.{physical_view}
use Rattle.std.specs.Prelude.{None}
use Rattle.write_values.specs.Deltas.{IsSpelling}
use Rattle.write_values.proofs.ServedDeltas.{null_spelled, spelled, unwanted}
use Rattle.write_values.proofs.spelling.spelling_of.Goals as goal

pub returns-then-not-wants_deltas : goal.returns-then-not-wants_deltas
returns-then-not-wants_deltas c = λ leaf.
    let t = type_view c.args.data_type.now in
    let p = physical_view c.args.physical_type in
    let wanted : false ≡ c.args.wants_deltas = search in
    subst (λ (b : Bool). IsSpelling b (leaf_type t) p None) wanted (unwanted t p)

pub returns-then-has_no_values : goal.returns-then-has_no_values
returns-then-has_no_values c = λ leaf. null_spelled c.args.wants_deltas (type_view c.args.data_type.now) (physical_view c.args.physical_type) (sym c.has_no_values.ensures ∙ c.if-has_no_values.true)

pub returns : goal.returns
returns c = λ leaf.
    let t = type_view c.args.data_type.now in
    let p = physical_view c.args.physical_type in
    let wanted : true ≡ c.args.wants_deltas = search in
    let values : is_null_type (base t) ≡ false = sym c.has_no_values.ensures ∙ c.if-has_no_values.false in
    subst (λ (b : Bool). IsSpelling b (leaf_type t) p c.deltas_of.result) wanted (spelled t p c.deltas_of.result leaf values c.deltas_of.ensures)
