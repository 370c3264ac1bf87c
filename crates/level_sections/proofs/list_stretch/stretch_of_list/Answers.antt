use Rattle.std.proofs.Common.{◌∙◌, false, arith, sym}
use Rattle.shredding.specs.Parts.{is_present}
use Rattle.levels.proofs.Stretches.{null_lists, empty_lists}
use Rattle.level_sections.proofs.Full.{alike-one, full-more, full-none}
use Rattle.level_sections.proofs.list_stretch.stretch_of_list.Goals as goal

pub returns-then-not-is_there : goal.returns-then-not-is_there
returns-then-not-is_there g c =
    let list = c.args.list.now in
    let null = sym c.is_there.ensures ∙ c.if-not-is_there.true in
    null_lists _ _ _ _ _ _ _ _ _ _ null (alike-one (λ i. is_present list.is_optional list.validity i) false c.args.place null) (omega arith) (omega (arith, c.requires.some))

pub returns-then-first-last : goal.returns-then-first-last
returns-then-first-last g c = empty_lists _ _ _ _ _ _ _ _ _ (sym c.is_there.ensures ∙ c.if-not-is_there.false) c.step_of.ensures.value (omega (arith, c.item_place-first.ensures.start, c.item_place-last.ensures.start, c.if-first-last.true)) c.requires.some

pub stretch_of_items-requires-clause-full : goal.stretch_of_items-requires-clause-full
stretch_of_items-requires-clause-full g c =
    let list = c.args.list.now in
    full-more list.is_optional list.validity list.offsets c.args.place c.args.place _ _ (sym c.is_there.ensures ∙ c.if-not-is_there.false) c.item_place-first.ensures.start c.item_place-last.ensures.start c.if-first-last.false c.item_place-first.ensures.rises (omega (arith, c.requires.some, c.requires.within)) (full-none list.is_optional list.validity list.offsets c.args.place)
