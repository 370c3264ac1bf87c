use Rattle.std.proofs.Common.{ap, sym, ◌∙◌, length}
use Rattle.std.proofs.lemmas.Result.{IfOk-weaker}
use Rattle.columns_core.specs.View.{type_view}
use Rattle.read_types.proofs.Slots.{string-array, mask-fits}
use Rattle.read_types.proofs.strings.string_array.Goals as goal

pub laid_strings-requires-clause-mask : goal.laid_strings-requires-clause-mask
laid_strings-requires-clause-mask g c =
    let parts = c.into_parts-strings.ensures in
    mask-fits c.in-Ok-laid_parts.offsets c.in-Ok-laid_parts.content.items c.args.values.0 c.in-Ok.validity (c.in-Ok-laid_parts.ensures.strings ∙ parts.strings) (parts.even ∙ sym (ap length (c.in-Ok.ensures.ok ∙ parts.validity)))

pub returns-in-Ok-laid_parts-clause-ok : goal.returns-in-Ok-laid_parts-clause-ok
returns-in-Ok-laid_parts-clause-ok g c =
    let parts = c.into_parts-strings.ensures in
    IfOk-weaker c.laid_strings.result _ _ (λ a e. rw e (string-array (type_view c.args.data_type) c.in-Ok-laid_parts.offsets c.in-Ok-laid_parts.content.items c.args.values.0 c.in-Ok.validity c.args.values.1 (c.in-Ok-laid_parts.ensures.strings ∙ parts.strings) (c.in-Ok.ensures.ok ∙ parts.validity) parts.even)) c.laid_strings.ensures.ok
