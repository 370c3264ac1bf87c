use Rattle.std.proofs.Common.{◌≡◌, ℕ, List, ◌+◌, ◌-◌, ◌++◌, ◌∙◌, ap, arith, subst, cond}
use Rattle.levels.specs.Levels.{bit}
use Rattle.level_sections.specs.Definitions.{IsFollowed, levels_or, pending_levels}
use Rattle.level_sections.proofs.Listed.{no-items, some-items}
use Rattle.level_sections.proofs.items.with_next.Goals as goal

pub returns-then-next-at-clause-there : goal.returns-then-next-at-clause-there
returns-then-next-at-clause-there c = no-items c.args.there (c.args.next - c.args.at) (omega (arith, c.if-next-at.true))

pub returns-then-next-at-clause-followed : goal.returns-then-next-at-clause-followed
returns-then-next-at-clause-followed c = subst (λ (k : ℕ). IsFollowed c.with_list-after.result c.args.window k) (omega (arith, c.if-next-at.true)) c.with_list-after.ensures.followed

pub returns-then-next-at-clause-levels : goal.returns-then-next-at-clause-levels
returns-then-next-at-clause-levels c = λ def level is.
    let more : def + c.step_at-empty.result ≡ def + cond c.args.there (bit c.args.is_optional) 0 = ap (λ (n : ℕ). def + n) c.step_at-empty.ensures.value in
    let none : 0 ≡ c.args.next - c.args.at = omega (arith, c.if-next-at.true) in
    c.with_list-after.ensures.levels def level is
    ∙ ap (λ (ys : List ℕ). pending_levels def c.args.pending ++ ys) (ap (λ (d : ℕ). levels_or d level c.args.at 0) more ∙ ap (λ (n : ℕ). levels_or (def + cond c.args.there (bit c.args.is_optional) 0) level c.args.at n) none)

pub returns-clause-there : goal.returns-clause-there
returns-clause-there c = some-items c.args.there (c.args.next - c.args.at) c.if-not-there.false

pub returns-clause-followed : goal.returns-clause-followed
returns-clause-followed c = subst (λ (k : ℕ). IsFollowed c.with_list.result c.args.window k) (omega (arith, c.requires.ordered)) c.with_list.ensures.followed

pub returns-clause-levels : goal.returns-clause-levels
returns-clause-levels c = λ def level is.
    let more : def + c.step_at-empty.result ≡ def + cond c.args.there (bit c.args.is_optional) 0 = ap (λ (n : ℕ). def + n) c.step_at-empty.ensures.value in
    c.with_list.ensures.levels def level is
    ∙ ap (λ (ys : List ℕ). pending_levels def c.args.pending ++ ys) (ap (λ (d : ℕ). levels_or d level c.args.at (c.args.next - c.args.at)) more)
