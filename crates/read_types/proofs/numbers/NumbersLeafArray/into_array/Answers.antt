use Rattle.std.proofs.Common.{◌∙◌}
use Rattle.std.proofs.lemmas.Result.{IfOk-weaker}
use Rattle.columns_core.specs.Shapes.{base}
use Rattle.columns_core.specs.View.{type_view}
use Rattle.read_types.proofs.Slots.{number-array, stores-so, ordered-so}
use Rattle.read_types.proofs.numbers.NumbersLeafArray.into_array.Goals as goal

pub returns-in-Ok-clause-ok : goal.returns-in-Ok-clause-ok
returns-in-Ok-clause-ok g c =
    let t = base (type_view c.args.data_type) in
    let parts = c.into_parts-numbers.ensures in
    let stores = g.T.NativeType.stores in
    IfOk-weaker c.array.result _ _ (λ a e. rw e (number-array (type_view c.args.data_type) (g.T.NativeType.value t) g.T.FromStored.loaded_number (λ x. g.met.T.FromStored.valued t x (stores-so stores t c.requires) (ordered-so stores t c.requires)) c.into_parts-numbers.result.0.items c.args.values.0 c.in-Ok.validity c.args.values.1 parts.values (c.in-Ok.ensures.ok ∙ parts.validity) parts.even)) c.array.ensures.ok
