use Rattle.std.proofs.Common.{◌<◌, replicate, arith, refl, sym}
use Rattle.std.proofs.lemmas.List.{length-replicate}
use Rattle.read_walk.proofs.Walking.{last-copies}
use Rattle.read_walk.proofs.extend.step_pairs.Goals as goal

pub returns-clause-ok : goal.returns-clause-ok
returns-clause-ok g c =
    let n = c.in-Some.count in
    let t = c.in-Some.ensures.0 in
    let some : 0 < n = omega (arith, t.2, length-replicate n c.in-Some.rep) in
    record {
      reps = replicate n c.in-Some.rep;
      defs = replicate n c.in-Some.level;
      begun = c.begun_by.result;
      takes = (t.0, t.1, t.2, c.begun_by.ensures, rw c.begun_by.ensures t.4);
      follow = c.in-Ok.ensures.ok.0;
      took = c.in-Ok.ensures.ok.1;
      wanted = refl;
      last = sym (last-copies c.args.before.now n c.in-Some.rep c.in-Some.level some);
    }
