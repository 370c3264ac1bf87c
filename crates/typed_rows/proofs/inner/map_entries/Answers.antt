use Rattle.std.proofs.Common.{◌+◌, ◌∙◌, ap, List, ℕ}
use Rattle.columns_core.specs.Shapes.{base}
use Rattle.columns_core.specs.Tree.{TypeTree}
use Rattle.columns_slots.specs.Slots.{first_of}
use Rattle.typed_rows.specs.Own.{item_nullable}
use Rattle.typed_rows.proofs.Held.{list_inner, list_ordered}
use Rattle.typed_rows.proofs.inner.map_entries.Goals as goal

pub overflow_sub-result : goal.overflow_sub-result
overflow_sub-result c =
    let first = c.place-first.ensures ∙ ap (λ (os : List ℕ). first_of os c.args.from) c.offsets.ensures in
    let end = c.place-end.ensures ∙ ap (λ (os : List ℕ). first_of os (c.args.from + c.args.count)) c.offsets-2.ensures in
    list_ordered c.args.maps.now c.args.from c.args.count c.place-first.result c.place-end.result c.know.ensures.sound c.know.ensures.parts c.requires.within first end

pub returns : goal.returns
returns c =
    let first = c.place-first.ensures ∙ ap (λ (os : List ℕ). first_of os c.args.from) c.offsets.ensures in
    let end = c.place-end.ensures ∙ ap (λ (os : List ℕ). first_of os (c.args.from + c.args.count)) c.offsets-2.ensures in
    let nullable = c.items_are_nullable.ensures ∙ ap (λ (t : TypeTree). item_nullable (base t)) c.data_type.ensures in
    list_inner c.args.maps.now c.args.from c.args.count c.place-first.result c.place-end.result _ c.items_are_nullable.result c.know.ensures.sound c.know.ensures.parts c.requires.within c.requires.kept c.field.ensures nullable first end
