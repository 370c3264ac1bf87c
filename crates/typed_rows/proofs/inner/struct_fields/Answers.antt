use Rattle.std.proofs.Common.{◌∙◌, ap}
use Rattle.columns_core.specs.Shapes.{base}
use Rattle.columns_core.specs.Tree.{TypeTree}
use Rattle.columns_slots.specs.Types.{part_types}
use Rattle.typed_rows.proofs.Held.{struct_inner}
use Rattle.typed_rows.proofs.inner.struct_fields.Goals as goal

pub returns : goal.returns
returns c =
    let fields = c.fields_of.ensures ∙ ap (λ (t : TypeTree). part_types (base t)) c.data_type.ensures in
    struct_inner c.args.structs.now c.args.from c.args.count _ _ c.know.ensures.sound c.know.ensures.parts c.requires.within c.requires.kept fields c.values.ensures
