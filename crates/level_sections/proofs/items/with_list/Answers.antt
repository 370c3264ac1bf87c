use Rattle.std.proofs.Common.{◌+◌, ◌++◌, ◌∙◌, ap, arith, List, ℕ}
use Rattle.level_sections.specs.Definitions.{pending_levels}
use Rattle.level_sections.specs.Planes.{plane_number}
use Rattle.level_sections.proofs.Listed.{none-listed, some-listed}
use Rattle.level_sections.proofs.items.with_list.Goals as goal

pub returns-then-items-eq0-clause-followed : goal.returns-then-items-eq0-clause-followed
returns-then-items-eq0-clause-followed c = λ i h lt.
    c.with_number.ensures.behind i h ∙ (c.requires.followed i (omega (arith, h, c.with_number.ensures.count)) (omega (arith, lt)) ∙ ap (plane_number c.args.window.planes) (omega (arith, c.if-items-eq0.true)))

pub returns-then-items-eq0-clause-levels : goal.returns-then-items-eq0-clause-levels
returns-then-items-eq0-clause-levels c = λ def level is.
    c.with_number.ensures.levels def ∙ ap (λ (ys : List ℕ). pending_levels def c.args.pending ++ ys) (none-listed def c.args.empty c.args.items level c.args.first c.if-items-eq0.true)

pub returns-clause-followed : goal.returns-clause-followed
returns-clause-followed c = λ i h lt.
    ap (plane_number c.args.pending.planes) (omega arith) ∙ (c.requires.followed (c.args.items + i) (omega (arith, h)) (omega (arith, lt)) ∙ ap (plane_number c.args.window.planes) (omega arith))

pub returns-clause-levels : goal.returns-clause-levels
returns-clause-levels c = λ def level is.
    some-listed def c.args.empty level c.args.first c.args.items c.args.pending c.args.window c.if-items-eq0.false (omega (arith, c.requires.room)) c.requires.after c.requires.before c.requires.followed is
