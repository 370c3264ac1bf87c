use Rattle.std.proofs.Common.{ap, arith}
use Rattle.columns_core.proofs.Bits.{size_seen}
use Rattle.columns_core.proofs.mutable_bitmap.MutableBitmap.until_byte.Goals as goal

pub returns-then-open-eq0-clause-filled : goal.returns-then-open-eq0-clause-filled
returns-then-open-eq0-clause-filled c = λ h. omega (arith, size_seen _ _ _ _ (ap (λ p. p.0) c.self.view_is), c.if-open-eq0.true)

pub returns-else-open-eq0-clause-filled : goal.returns-else-open-eq0-clause-filled
returns-else-open-eq0-clause-filled c = λ h. omega (arith, size_seen _ _ _ _ (ap (λ p. p.0) c.self.view_is), c.min.ensures, h)
