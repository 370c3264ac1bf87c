use Rattle.std.proofs.Common.{ap, arith}
use Rattle.columns_core.proofs.Bits.{size_seen}
use Rattle.columns_core.proofs.Grown.{eight_more}
use Rattle.columns_core.proofs.mutable_bitmap.MutableBitmap.push_eight.Goals as goal

pub returns-clause-same : goal.returns-clause-same
returns-clause-same c =
    eight_more c.self.inside.bytes.items _ c.self.inside.size c.args.byte c.args.self.now.0 (rw c.unwrap.ensures at c.push.ensures.items) (omega (arith, size_seen _ _ _ _ (ap (λ p. p.0) c.self.view_is), c.self.invariant, c.requires.filled, c.self.inside.bytes.ok.0)) (ap (λ p. p.0) c.self.view_is)
