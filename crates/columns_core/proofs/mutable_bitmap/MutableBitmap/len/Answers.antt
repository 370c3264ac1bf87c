use Rattle.std.proofs.Common.{sym, ap}
use Rattle.columns_core.proofs.Bits.{size_seen}
use Rattle.columns_core.proofs.mutable_bitmap.MutableBitmap.len.Goals as goal

pub returns : goal.returns
returns c = sym (size_seen _ _ _ _ (ap (λ p. p.0) c.self.view_is))
