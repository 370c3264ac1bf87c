use Rattle.std.proofs.Common.{◌≡◌, ◌++◌, ◌-◌, [], take, length, drop, arith, ◌∙◌, ap, sym, append_assoc}
use Rattle.std.proofs.lemmas.List.{length-take, length-drop}
use Rattle.read_walk.specs.LevelRuns.{runs_left, IsReading}
use Rattle.pq_runs.specs.Hybrid.{given}
use Rattle.pq_runs.proofs.Items.{nothing_left}
use Rattle.read_walk.proofs.Filling.{kept_part, given-append, length-kept}
use Rattle.read_walk.specs.declared.runs.LevelRuns.{LevelRuns}
use Rattle.read_walk.proofs.runs.fill.Goals as goal

none-called : (s : LevelRuns) → IsReading s → s.left ≡ 0 → runs_left s ≡ []
unfolding runs_left
none-called s is e = rw e (nothing_left _ _ _ _ _ _ (omega (arith, is.within, e)))

pub returns-then-levels-eq0-clause-filled : goal.returns-then-levels-eq0-clause-filled
returns-then-levels-eq0-clause-filled c = (c.loop-done.invariant.filled, λ h. none-called c.loop-done.levels c.loop-done.invariant.is c.if-levels-eq0.true)

pub returns-in-Err-clause-filled : goal.returns-in-Err-clause-filled
returns-in-Err-clause-filled c = ((c.in-Err.field-0, c.loop-done.invariant.filled ∙ ap (λ is. given (take c.loop-done.done c.loop-done.out) ++ is) c.in-Err.ensures.failed.1), c.in-Err.ensures.failed.2)

pub loop-done-preserved : goal.loop-done-preserved
loop-done-preserved c =
    let done = c.loop-done.done in
    let out = c.loop-done.out in
    let part = c.take_some-done.new.out in
    let size : length part ≡ length (take (length out - done) (drop done out)) = c.take_some-done.auto.out in
    let room : length (take (length out - done) (drop done out)) ≡ length out - done = length-take (length out - done) (drop done out) ∙ omega (arith, length-drop done out) in
    let kept = kept_part done c.take_some-done.result out part c.loop-done.invariant.within (omega (arith, size, c.take_some-done.ensures.within)) in
    record {
      is = c.take_some-done.ensures.is;
      within = omega (arith, length-kept done (length out - done) out part c.loop-done.invariant.within, c.take_some-done.ensures.within, size, room);
      filled = rw kept (c.loop-done.invariant.filled ∙ (ap (λ is. given (take done out) ++ is) (sym c.in-Ok.ensures.found.1 ∙ c.take_some-done.ensures.left) ∙ (sym (append_assoc (given (take done out)) (given (take c.take_some-done.result part)) (runs_left c.take_some-done.new.levels)) ∙ ap (λ is. is ++ runs_left c.take_some-done.new.levels) (sym (given-append (take done out) (take c.take_some-done.result part))))));
    }
