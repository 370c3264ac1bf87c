use Rattle.std.proofs.Common.{drop, arith}
use Rattle.std.proofs.Math.ListN.{drop_of_length-le}
use Rattle.read_laws.specs.State.{kept_way}
use Rattle.read_walk.proofs.Following.{next-pair, here-not, later-not, none-follow}
use Rattle.read_walk.proofs.order.check_each.Goals as goal

pub loop-j-preserved : goal.loop-j-preserved
loop-j-preserved c =
    let w = kept_way c.args.nested.now in
    let next = next-pair c.args.reps.now c.args.defs.now c.loop-j.j (omega (arith, c.loop-j-test.true)) c.requires.defs in
    record {
      all = λ f. c.loop-j.invariant.all (rw next (c.in-Ok.ensures.ok.0, c.in-Ok.ensures.ok.1, c.in-Ok.ensures.ok.2, f));
      one = λ e o. c.loop-j.invariant.one e (rw next (later-not w c.loop-j.last _ _ e o));
    }

pub returns-in-Err-clause-err : goal.returns-in-Err-clause-err
returns-in-Err-clause-err c =
    let next = next-pair c.args.reps.now c.args.defs.now c.loop-j.j (omega (arith, c.loop-j-test.true)) c.requires.defs in
    c.loop-j.invariant.one c.in-Err.error (rw next (here-not (kept_way c.args.nested.now) c.loop-j.last _ _ c.in-Err.error c.in-Err.ensures.err))

pub returns-clause-ok : goal.returns-clause-ok
returns-clause-ok c = c.loop-j.invariant.all (none-follow (kept_way c.args.nested.now) c.loop-j.last (drop c.loop-j.j c.args.reps.now) (drop c.loop-j.j c.args.defs.now) (drop_of_length-le c.args.reps.now {i = c.loop-j.j} (omega (arith, c.loop-j-test.false))))
