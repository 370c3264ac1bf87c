use Rattle.std.proofs.Common.{ap, ◌∙◌}
use Rattle.columns_core.specs.View.{type_view}
use Rattle.schema_to_tree.specs.Encodes.{base_encodes, encodes}
use Rattle.write_pages.proofs.WrittenForms.{base_base}
use Rattle.write_pages.proofs.fit.allows_deltas.Goals as goal

pub returns-then-nests_within : goal.returns-then-nests_within
returns-then-nests_within c =
    let e = c.args.encoding in
    let t = type_view c.args.data_type.now in
    c.can_encode.ensures ∙ ap (encodes e) c.base-base.ensures ∙ ap (base_encodes e) (base_base t)
