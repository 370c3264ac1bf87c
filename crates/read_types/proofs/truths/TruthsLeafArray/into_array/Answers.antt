use Rattle.std.proofs.Common.{◌∙◌}
use Rattle.columns_core.specs.View.{type_view}
use Rattle.read_types.proofs.Slots.{truth-array}
use Rattle.read_types.proofs.truths.TruthsLeafArray.into_array.Goals as goal

pub returns-in-Ok-truth_array-clause-ok : goal.returns-in-Ok-truth_array-clause-ok
returns-in-Ok-truth_array-clause-ok c =
    let parts = c.into_parts-truths.ensures in
    rw c.in-Ok-truth_array.ensures.ok (truth-array (type_view c.args.data_type) c.in-Ok.truths c.args.values.0 c.in-Ok-into_bitmap.validity c.args.values.1 (c.in-Ok.ensures.ok ∙ parts.values) (c.in-Ok-into_bitmap.ensures.ok ∙ parts.validity) parts.even)
