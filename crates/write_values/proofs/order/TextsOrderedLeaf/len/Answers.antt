use Rattle.std.proofs.Common.{arith}
use Rattle.std.proofs.lemmas.List.{length-map}
use Rattle.shredding.specs.Slot.{bytes}
use Rattle.columns_slots.proofs.Strings.{pieces_len}
use Rattle.columns_slots.specs.Bytes.{pieces}
use Rattle.write_values.proofs.order.TextsOrderedLeaf.len.Goals as goal

pub returns : goal.returns
returns g c =
    let a = c.args.self.now.array.now in
    omega (arith, c.len.ensures, pieces_len a.1.0 a.1.1.0, length-map (pieces a.1.0 a.1.1.0) bytes)
