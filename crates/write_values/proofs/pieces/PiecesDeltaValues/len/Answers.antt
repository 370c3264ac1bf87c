use Rattle.std.proofs.Common.{arith}
use Rattle.std.proofs.lemmas.List.{length-map}
use Rattle.columns_slots.specs.Bytes.{pieces}
use Rattle.columns_slots.proofs.Strings.{pieces_len}
use Rattle.shredding.specs.Slot.{bytes}
use Rattle.write_values.proofs.pieces.PiecesDeltaValues.len.Goals as goal

pub returns : goal.returns
returns g c =
    let os = c.args.self.now.offsets.now in
    let bs = c.args.self.now.all.now in
    omega (arith, c.len_proxy.ensures, length-map (pieces os bs) bytes, pieces_len os bs)
