use Rattle.std.proofs.Common.{arith, sym, ◌∙◌}
use Rattle.levels.proofs.Stretches.{null_lists, empty_lists}
use Rattle.levels.proofs.walk.stretch_of_list.Goals as goal

pub returns-then-not-is_present : goal.returns-then-not-is_present
returns-then-not-is_present g c = null_lists _ _ _ _ _ _ _ _ _ _ (sym c.is_present.ensures ∙ c.if-not-is_present.true) c.alike-end.ensures.alike c.alike-end.ensures.after c.alike-end.ensures.within

pub returns-then-first-end : goal.returns-then-first-end
returns-then-first-end g c = empty_lists _ _ _ _ _ _ _ _ _ (sym c.is_present.ensures ∙ c.if-not-is_present.false) c.bit.ensures (omega arith) c.requires.some
