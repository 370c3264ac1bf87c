use Rattle.std.proofs.Common.{◌+◌, ap, arith}
use Rattle.columns_core.proofs.Bits.{length_bits, size_seen}
use Rattle.columns_core.proofs.mutable_bitmap.MutableBitmap.extend_from_word.Goals as goal

pub returns-then-has_wide_room-clause-room : goal.returns-then-has_wide_room-clause-room
returns-then-has_wide_room-clause-room c =
    omega (
      arith,
      ap (λ p. p.1) c.self.view_is,
      size_seen _ _ _ _ (ap (λ p. p.0) c.self.view_is),
      c.put_wide.ensures.capacity,
      length_bits c.put_wide.new.bytes.items 0 (c.self.inside.size + c.args.length),
    )
