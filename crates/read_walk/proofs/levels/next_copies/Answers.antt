use Rattle.std.proofs.Common.{◌≡◌, ◌-◌, arith, refl, sym, ◌∙◌}
use Rattle.std.proofs.lemmas.List.{length-replicate}
use Rattle.read_walk.specs.Levels.{levels_left}
use Rattle.read_walk.specs.LevelRuns.{runs_left}
use Rattle.read_walk.proofs.Maxima.{copies-first}
use Rattle.read_walk.proofs.Walking.{rows-most}
use Rattle.read_walk.proofs.levels.next_copies.Goals as goal

pub returns-clause-taken : goal.returns-clause-taken
unfolding levels_left
returns-clause-taken c =
    let l = c.args.levels.now in
    let n = c.count_copies-count.result in
    let r = l.reps.number in
    let d = l.defs.number in
    let none : l.end - l.at ≡ 0 = omega (arith, c.if-levels-2.false) in
    let size = length-replicate n r in (
      (
        copies-first l.max_rep l.max_def n r d (l.end - l.at) (l.end - l.at) l.failed l.rep_block l.def_block (runs_left l.reps) (runs_left l.defs) (runs_left c.drop_copies.new.levels) (runs_left c.drop_copies-2.new.levels) c.if-levels.false none none (sym c.is_within.ensures ∙ c.if-not-is_within.false) c.drop_copies.ensures.left c.drop_copies-2.ensures.left l.at l.at,
        length-replicate n d ∙ sym size,
        omega (arith, size, c.if-count-lt16.false),
        refl,
        rows-most n r c.args.rows c.count_copies-count.ensures.rows,
      ),
      c.count_copies-count.ensures.most,
    )
