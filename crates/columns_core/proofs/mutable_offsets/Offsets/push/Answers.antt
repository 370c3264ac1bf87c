use Rattle.std.proofs.Common.{arith}
use Rattle.columns_core.proofs.Places.{pushed_at}
use Rattle.columns_core.proofs.mutable_offsets.Offsets.push.Goals as goal

pub invariant_of-self-2 : goal.invariant_of-self-2
invariant_of-self-2 g c =
    let i = c.self.inside in
    let p = pushed_at g.O.Offset.number i.values.items c.unwrap-place.result c.push.new.self.items i.end c.to_usize.result c.in_ok-push.ensures.items (rw c.unwrap-place.ensures at c.from_usize.ensures).0 c.self.invariant.1 c.self.invariant.2 in
    (omega (arith, c.in_ok-push.ensures.len), p.0, p.1)
