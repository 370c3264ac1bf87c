use Rattle.std.proofs.Common.{◌+◌, length, ap, arith}
use Rattle.columns_core.proofs.Bits.{length_bits, size_seen}
use Rattle.columns_core.proofs.mutable_bitmap.MutableBitmap.extend_narrow.Goals as goal

pub returns-clause-room : goal.returns-clause-room
returns-clause-room c =
    omega (
      arith,
      ap (λ p. p.1) c.self.view_is,
      size_seen _ _ _ _ (ap (λ p. p.0) c.self.view_is),
      ap length c.reserve.ensures.same,
      c.reserve.ensures.room,
      c.put_word.ensures.capacity,
      length_bits c.put_word.new.bytes.items 0 (c.self.inside.size + c.args.length),
    )
