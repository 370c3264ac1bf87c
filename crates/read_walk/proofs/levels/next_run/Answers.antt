use Rattle.std.proofs.Common.{◌+◌, ◌-◌, ◌≤◌, arith, refl, sym, ◌∙◌}
use Rattle.read_walk.specs.Levels.{levels_left}
use Rattle.read_walk.specs.LevelRuns.{runs_left}
use Rattle.read_walk.specs.Pairs.{behind}
use Rattle.read_walk.proofs.Zips.{taken}
use Rattle.read_walk.proofs.Maxima.{failed-next}
use Rattle.read_walk.proofs.levels.next_run.Goals as goal

pub returns-then-levels-2-clause-taken : goal.returns-then-levels-2-clause-taken
unfolding levels_left
returns-then-levels-2-clause-taken c =
    let l = c.prepare.new.levels in
    (refl, (sym c.prepare.ensures.same ∙ failed-next l.max_rep l.max_def l.rep_block l.def_block l.at (l.end - l.at) l.failed (runs_left l.reps) (runs_left l.defs) (omega (arith, c.if-levels.true)) c.if-levels-2.true), c.stop.ensures.none)

pub returns-clause-taken : goal.returns-clause-taken
unfolding levels_left
returns-clause-taken c =
    let l = c.prepare.new.levels in
    let a = c.alike-count.ensures in
    let n = c.alike-count.result in
    let within : l.at + n ≤ l.end = omega (arith, a.within, c.min-room.ensures, c.prepare.ensures.is.ordered) in
    (a.some, omega (arith, a.within, c.min-room.ensures), sym c.prepare.ensures.same ∙ taken l.rep_block l.def_block l.at l.end n (behind l.max_rep l.max_def l.failed (runs_left l.reps) (runs_left l.defs)) within a.alike)
