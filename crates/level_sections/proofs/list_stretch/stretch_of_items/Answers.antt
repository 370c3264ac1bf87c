use Rattle.std.proofs.Common.{arith, refl}
use Rattle.levels.proofs.Stretches.{many_lists, first_list}
use Rattle.level_sections.proofs.list_stretch.stretch_of_items.Goals as goal

pub returns-in-Repetition : goal.returns-in-Repetition
returns-in-Repetition g c = first_list _ _ _ _ _ _ _ _ _ _ _ refl (omega (arith, c.step_of-up.ensures.value)) c.item_place-first.ensures.start c.item_place-last.ensures.start c.requires.full (omega arith) (omega (arith, c.requires.some)) c.item_place-last.ensures.within c.requires.fits c.requires.beneath

pub returns-in-Definition : goal.returns-in-Definition
returns-in-Definition g c =
    let e = c.full_end-end.ensures in
    many_lists _ _ _ _ _ _ _ _ _ _ _ c.in-Definition.is (omega (arith, c.step_of-up.ensures.value)) c.item_place-first.ensures.start c.item_place-last-in-Definition.ensures.start e.full e.after e.before c.item_place-last-in-Definition.ensures.within c.requires.fits c.requires.beneath
