use Rattle.std.proofs.Common.{arith}
use Rattle.columns_core.proofs.Words.{word_put}
use Rattle.columns_core.proofs.mutable_bitmap.put_word.Goals as goal

pub returns-clause-bits : goal.returns-clause-bits
returns-clause-bits c =
    word_put c.args.bytes.now.items _ c.args.size c.args.length c.bytes_for.result c.args.word c.open_bits-low.result (rw c.deref.ensures.value at c.open_bits-low.ensures)
    (omega (arith, c.requires.below, c.args.bytes.now.ok.0)) (omega (arith, c.bytes_for.ensures.least, c.requires.short)) c.bytes_for.ensures.enough
    (rw (c.unwrap.ensures, c.truncate.ensures.items, c.to_le_bytes-joined.ensures, c.word_behind.ensures) at c.extend_from_slice.ensures.items)
