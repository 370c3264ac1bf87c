use Rattle.std.proofs.Common.{◌∙◌, ap}
use Rattle.columns_core.specs.Shapes.{base}
use Rattle.columns_core.specs.Tree.{TypeTree}
use Rattle.columns_slots.specs.Types.{fixed_size}
use Rattle.typed_rows.specs.Own.{item_nullable}
use Rattle.typed_rows.proofs.Held.{fixed_inner}
use Rattle.typed_rows.proofs.inner.fixed_items.Goals as goal

pub returns : goal.returns
returns c =
    let width = c.width_of-width.ensures ∙ ap (λ (t : TypeTree). fixed_size (base t)) c.data_type.ensures in
    let nullable = c.items_are_nullable.ensures ∙ ap (λ (t : TypeTree). item_nullable (base t)) c.data_type-2.ensures in
    fixed_inner c.args.lists.now c.args.from c.args.count c.width_of-width.result _ c.items_are_nullable.result c.know.ensures.sound c.know.ensures.parts c.requires.within c.requires.kept c.values-2.ensures nullable width
