use Rattle.std.proofs.Common.{arith}
use Rattle.columns_core.proofs.Places.{pushed_at}
use Rattle.columns_core.proofs.mutable_offsets.Offsets.try_push_usize.Goals as goal

pub invariant_of-self-2 : goal.invariant_of-self-2
invariant_of-self-2 g c =
    let i = c.self.inside in
    let p = pushed_at g.O.Offset.number i.values.items c.in-Some.place c.push.new.self.items i.end c.args.length c.in_ok-push.ensures.items c.in-Some.ensures.0 c.self.invariant.1 c.self.invariant.2 in
    (omega (arith, c.in_ok-push.ensures.len), p.0, p.1)
