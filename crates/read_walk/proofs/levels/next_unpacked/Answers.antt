use Rattle.std.proofs.Common.{◌≡◌, ◌+◌, ◌-◌, ◌<◌, ◌≤◌, List, [], length, take, drop, get_or, arith, refl, ap, subst, sym, ◌∙◌}
use Rattle.read_walk.specs.Levels.{levels_left}
use Rattle.read_walk.specs.LevelRuns.{runs_left}
use Rattle.read_walk.specs.Pairs.{behind, rows_in, StopsAt, Item}
use Rattle.read_walk.proofs.Maxima.{failed-next, part-first, length-part, taken-front, take-less, stops-row}
use Rattle.read_walk.proofs.levels.next_unpacked.Goals as goal

pub returns-then-levels-2-clause-taken : goal.returns-then-levels-2-clause-taken
unfolding levels_left
returns-then-levels-2-clause-taken c =
    let l = c.prepare.new.levels in
    (refl, ([], sym c.prepare.ensures.same ∙ failed-next l.max_rep l.max_def l.rep_block l.def_block l.at (l.end - l.at) l.failed (runs_left l.reps) (runs_left l.defs) (omega (arith, c.if-levels.true)) c.if-levels-2.true))

pub returns-then-count-eq0-clause-taken : goal.returns-then-count-eq0-clause-taken
unfolding levels_left
returns-then-count-eq0-clause-taken c =
    let l = c.prepare.new.levels in
    let is = c.prepare.ensures.is in
    let some : 0 < l.end - l.at = omega (arith, c.if-levels.false, is.ordered) in
    let size : length c.part_of-reps.result.now ≡ l.end - l.at = rw c.part_of-reps.ensures (length-part l.rep_block l.at l.end is.ordered (omega (arith, is.within, is.rep_size))) in
    let stop = c.cut_rows-count.ensures.stops (omega (arith, c.if-count-eq0.true, size, some)) in
    let row : get_or l.rep_block l.at 0 ≡ 0 = sym (part-first l.rep_block l.at (l.end - l.at) some) ∙ (rw (c.if-count-eq0.true, c.part_of-reps.ensures) at stop.0) in
    let none : c.args.rows ≡ 0 = sym stop.1 ∙ (c.cut_rows-count.ensures.begun ∙ ap (λ n. rows_in (take n c.part_of-reps.result.now)) c.if-count-eq0.true) in
    let at-row : StopsAt c.args.rows (levels_left l) = stops-row l.rep_block l.def_block l.at (l.end - l.at) c.args.rows (behind l.max_rep l.max_def l.failed (runs_left l.reps) (runs_left l.defs)) some row none in
    (c.prepare.ensures.same, subst (λ (is : List Item). StopsAt c.args.rows is) c.prepare.ensures.same at-row)

pub returns-clause-taken : goal.returns-clause-taken
unfolding levels_left
returns-clause-taken c =
    let l = c.prepare.new.levels in
    let is = c.prepare.ensures.is in
    let count = c.cut_rows-count.result.0 in
    let size : length c.part_of-reps.result.now ≡ l.end - l.at = rw c.part_of-reps.ensures (length-part l.rep_block l.at l.end is.ordered (omega (arith, is.within, is.rep_size))) in
    let within : l.at + count ≤ l.end = omega (arith, c.cut_rows-count.ensures.within, size, is.ordered) in
    let reps : c.copy.new.self.0 ≡ take (l.at + count - l.at) (drop l.at l.rep_block) = c.copy.ensures.reps ∙ c.part_of-reps-2.ensures in
    let defs : c.copy.new.self.1 ≡ take (l.at + count - l.at) (drop l.at l.def_block) = c.copy.ensures.defs ∙ c.part_of-defs.ensures in
    let rep-size = length-part l.rep_block l.at (l.at + count) (omega arith) (omega (arith, within, is.within, is.rep_size)) in
    let def-size = length-part l.def_block l.at (l.at + count) (omega arith) (omega (arith, within, is.within, is.def_size)) in
    let front = taken-front l.rep_block l.def_block l.at l.end count (behind l.max_rep l.max_def l.failed (runs_left l.reps) (runs_left l.defs)) within (omega (arith, is.within, is.rep_size)) (omega (arith, is.within, is.def_size)) in
    let m : l.at + count - l.at ≡ count = omega arith in
    let same : take count c.part_of-reps.result.now ≡ take (l.at + count - l.at) (drop l.at l.rep_block) = rw (c.part_of-reps.ensures, m) (take-less count (l.end - l.at) (drop l.at l.rep_block) (omega (arith, within))) in
    rw (reps, defs) (
      sym c.prepare.ensures.same ∙ front,
      def-size ∙ sym rep-size,
      omega (arith, rep-size, c.if-count-eq0.false),
      omega (arith, rep-size, within, is.within),
      c.cut_rows-count.ensures.begun ∙ ap rows_in same,
      c.cut_rows-count.ensures.few,
    )
