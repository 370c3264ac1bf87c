use Rattle.std.proofs.Common.{◌∙◌}
use Rattle.std.proofs.lemmas.Bool.{and_parts}
use Rattle.std.proofs.lemmas.Result.{IfOk-weaker}
use Rattle.columns_core.specs.Shapes.{base}
use Rattle.columns_core.specs.View.{type_view}
use Rattle.read_leaf.specs.Fixed.{is_fixed}
use Rattle.read_types.proofs.Slots.{fixed-array}
use Rattle.read_types.proofs.fixed.FixedLeafArray.into_array.Goals as goal

pub returns-in-Ok-clause-ok : goal.returns-in-Ok-clause-ok
returns-in-Ok-clause-ok g c =
    let t = base (type_view c.args.data_type) in
    let parts = c.into_parts-numbers.ensures in
    let made = and_parts (g.T.NativeType.stores t) (is_fixed t) c.requires in
    IfOk-weaker c.array.result _ _ (λ a e. rw e (fixed-array (type_view c.args.data_type) (g.T.NativeType.value t) g.T.FixedValue.held (λ x. g.met.T.FixedValue.worth t x made.0 made.1) c.into_parts-numbers.result.0.items c.args.values.0 c.in-Ok.validity c.args.values.1 parts.values (c.in-Ok.ensures.ok ∙ parts.validity) parts.even)) c.array.ensures.ok
