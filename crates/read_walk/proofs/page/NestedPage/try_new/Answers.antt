use Rattle.std.proofs.Common.{◌≡◌, inl, inr, ◌<◌, ◌≤◌, ◌^◌, ℕ, arith, refl}
use Rattle.std.proofs.lemmas.Bool.{cases_lt}
use Rattle.pq_numbers.specs.Bits.{IsWidth}
use Rattle.read_walk.specs.Levels.{levels_left}
use Rattle.read_walk.proofs.page.NestedPage.try_new.Goals as goal

too-wide : (max w : ℕ) → IsWidth max w → 32 < w → 2 ^ 32 ≤ max
too-wide max w is h = elim (cases_lt max (2 ^ 32)) [ inl less ↦ absurd (omega (arith, is.least 32 less, h)) | inr more ↦ more ]

one-width : (max v w : ℕ) → IsWidth max v → IsWidth max w → v ≡ w
one-width max v w a b = omega (arith, a.least w b.holds, b.least v a.holds)

pub returns-then-rep_width-gt32 : goal.returns-then-rep_width-gt32
returns-then-rep_width-gt32 c = (refl, inl (too-wide c.args.max_repetition c.get_bit_width-rep_width.result c.get_bit_width-rep_width.ensures c.if-rep_width-gt32.true))

pub returns-then-def_width-gt32 : goal.returns-then-def_width-gt32
returns-then-def_width-gt32 c = (refl, inr (too-wide c.args.max_definition c.get_bit_width-def_width.result c.get_bit_width-def_width.ensures c.if-def_width-gt32.true))

pub returns : goal.returns
unfolding levels_left
returns c v w a b =
    let rep = one-width c.args.max_repetition v c.get_bit_width-rep_width.result a c.get_bit_width-rep_width.ensures in
    let def = one-width c.args.max_definition w c.get_bit_width-def_width.result b c.get_bit_width-def_width.ensures in
    rw (rep, def, c.level_runs.ensures.left, c.level_runs-2.ensures.left) refl
