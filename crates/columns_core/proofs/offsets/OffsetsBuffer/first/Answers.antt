use Rattle.std.proofs.Common.{sym, subst, arith}
use Rattle.columns_core.specs.Rising.{IsWhole}
use Rattle.columns_core.proofs.Places.{whole_at}
use Rattle.columns_core.proofs.offsets.OffsetsBuffer.first.Goals as goal

pub returns-clause-not_negative : goal.returns-clause-not_negative
returns-clause-not_negative g c =
    let i = c.self.inside in
    subst (λ v. IsWhole (g.O.Offset.number v)) (sym (rw c.deref.ensures at c.index.ensures))
    (whole_at g.O.Offset.number i.values.value.items 0 i.start c.index.result.now c.self.invariant.1 (omega (arith, c.self.invariant.0)))
