use Rattle.std.proofs.Common.{arith}
use Rattle.read_walk.specs.LevelRuns.{runs_left}
use Rattle.read_walk.proofs.Joining.{join-below, joined-bits}
use Rattle.read_walk.proofs.words.take_word.Goals as goal

pub loop-done-preserved : goal.loop-done-preserved
loop-done-preserved c =
    let l = c.loop-done in
    let t = c.in-Some.ensures.taken in
    record {
      is = c.take_bits.ensures.is;
      few = omega (arith, t.few, l.invariant.few);
      below = rw c.joined-word.ensures (join-below l.word l.done c.in-Some.bits c.in-Some.count l.invariant.below t.below);
      taken = rw c.joined-word.ensures (joined-bits l.word l.done c.in-Some.bits c.in-Some.count _ (runs_left c.args.levels.now) (runs_left c.begin.new.levels) (runs_left c.take_bits.new.levels) l.invariant.below (rw c.in-Ok.ensures.found.1 l.invariant.taken) t);
    }
