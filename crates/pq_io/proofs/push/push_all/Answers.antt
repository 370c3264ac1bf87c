use Rattle.std.proofs.Common.{refl, arith, length, take, drop, ◌-◌}
use Rattle.std.proofs.lemmas.List.{length-take}
use Rattle.pq_io.proofs.Known.{appends_next}
use Rattle.pq_io.proofs.push.push_all.Goals as goal

pub pushing-preserved : goal.pushing-preserved
pushing-preserved g c =
    let n : _ = length (take (length c.args.bytes.now - c.pushing.pushed) (drop c.pushing.pushed c.args.bytes.now)) in
    let e = c.in-Ok.ensures in record {
      within = omega (arith, e.bound.0, length-take (length c.args.bytes.now - c.pushing.pushed) (drop c.pushing.pushed c.args.bytes.now));
      appended = appends_next _ _ _ c.args.bytes.now c.pushing.pushed c.in-Ok.count _ e.bound.0 refl c.pushing.invariant.appended e.bytes;
      later = omega arith;
      wants_later = omega arith;
    }
