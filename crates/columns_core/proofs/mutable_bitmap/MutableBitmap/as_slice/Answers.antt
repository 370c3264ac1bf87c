use Rattle.std.proofs.Common.{ap, arith}
use Rattle.columns_core.proofs.Bits.{size_seen}
use Rattle.columns_core.proofs.mutable_bitmap.MutableBitmap.as_slice.Goals as goal

pub returns-clause-bits : goal.returns-clause-bits
returns-clause-bits c = rw (size_seen _ _ _ _ (ap (λ p. p.0) c.self.view_is), c.deref.ensures.value) (ap (λ p. p.0) c.self.view_is)

pub returns-clause-enough : goal.returns-clause-enough
returns-clause-enough c = rw c.deref.ensures.value (omega (arith, size_seen _ _ _ _ (ap (λ p. p.0) c.self.view_is), c.self.invariant, c.self.inside.bytes.ok.0))

pub returns-clause-least : goal.returns-clause-least
returns-clause-least c = rw c.deref.ensures.value (omega (arith, size_seen _ _ _ _ (ap (λ p. p.0) c.self.view_is), c.self.invariant, c.self.inside.bytes.ok.0))
