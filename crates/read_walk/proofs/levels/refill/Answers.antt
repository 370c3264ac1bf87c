use Rattle.std.proofs.Common.{◌≡◌, ◌-◌, ◌<◌, ◌≤◌, length, min, nat_lt, arith, ap, sym, ◌∙◌}
use Rattle.read_walk.specs.Levels.{levels_left}
use Rattle.read_walk.specs.LevelRuns.{runs_left}
use Rattle.read_walk.specs.Pairs.{up_to_maxima}
use Rattle.read_walk.proofs.Zips.{refilled, refilled-none}
use Rattle.read_walk.proofs.Maxima.{capped, none-behind, or-none, lt-none}
use Rattle.read_walk.proofs.levels.refill.Goals as goal

pub returns-clause-same : goal.returns-clause-same
unfolding levels_left
returns-clause-same c =
    let l = c.args.levels.now in
    let none : l.end - l.at ≡ 0 = omega (arith, c.requires.used) in
    let even : length c.fill-reps.new.out ≡ length c.fill-defs.new.out = omega (arith, c.fill-reps.auto.out, c.fill-defs.auto.out, c.requires.is.rep_size, c.requires.is.def_size) in
    let n : c.fill-reps.result.0 ≤ length c.fill-reps.new.out = omega (arith, c.fill-reps.auto.out, c.fill-reps.ensures.within) in
    let m : c.fill-defs.result.0 ≤ length c.fill-defs.new.out = omega (arith, c.fill-defs.auto.out, c.fill-defs.ensures.within) in
    let zero : c.count_within-levels.result - 0 ≡ c.count_within-levels.result = omega arith in
    let all = refilled (runs_left l.reps) (runs_left l.defs) c.fill-reps.new.out c.fill-defs.new.out c.fill-reps.result.0 c.fill-defs.result.0 c.fill-reps.result.1 c.fill-defs.result.1 (runs_left c.fill-reps.new.levels) (runs_left c.fill-defs.new.levels) c.fill-reps.ensures.filled c.fill-defs.ensures.filled n m even in
    let cap = capped l.max_rep l.max_def c.fill-reps.new.out c.fill-defs.new.out c.min-end.result c.count_within-levels.result c.any.result (runs_left c.fill-reps.new.levels) (runs_left c.fill-defs.new.levels) c.count_within-levels.ensures.within c.count_within-levels.ensures.before c.count_within-levels.ensures.next in
    let named = rw (← c.min-end.ensures, ← c.any.ensures) at all in
    rw (zero, c.either-levels.ensures, none, c.requires.goes_on) (sym (ap (up_to_maxima l.max_rep l.max_def) named ∙ cap))

pub returns-clause-ended : goal.returns-clause-ended
unfolding levels_left
returns-clause-ended c none ok =
    let l = c.args.levels.now in
    let even : length c.fill-reps.new.out ≡ length c.fill-defs.new.out = omega (arith, c.fill-reps.auto.out, c.fill-defs.auto.out, c.requires.is.rep_size, c.requires.is.def_size) in
    let some : 0 < length c.fill-reps.new.out = omega (arith, c.fill-reps.auto.out, c.requires.is.rep_size) in
    let zero : c.count_within-levels.result - 0 ≡ 0 = omega (arith, none) in
    let parts = or-none c.any.result (nat_lt c.count_within-levels.result c.min-end.result) (sym c.either-levels.ensures ∙ ok) in
    let few : c.min-end.result ≤ c.count_within-levels.result = lt-none c.count_within-levels.result c.min-end.result parts.1 in
    let empty : 0 ≡ min c.fill-reps.result.0 c.fill-defs.result.0 = omega (arith, none, few, c.min-end.ensures) in
    let left = refilled-none (runs_left l.reps) (runs_left l.defs) c.fill-reps.new.out c.fill-defs.new.out c.fill-reps.result.0 c.fill-defs.result.0 c.fill-reps.result.1 c.fill-defs.result.1 (runs_left c.fill-reps.new.levels) (runs_left c.fill-defs.new.levels) c.fill-reps.ensures.filled c.fill-defs.ensures.filled some even empty (sym c.any.ensures ∙ parts.0) in
    rw (zero, c.either-levels.ensures) (none-behind l.max_rep l.max_def c.any.result (nat_lt c.count_within-levels.result c.min-end.result) (runs_left c.fill-reps.new.levels) (runs_left c.fill-defs.new.levels) (sym c.either-levels.ensures ∙ ok) left)
