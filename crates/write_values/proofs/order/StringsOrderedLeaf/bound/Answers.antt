use Rattle.std.proofs.Common.{◌≡◌, ◌+◌, arith}
use Rattle.shredding.specs.Slot.{bytes}
use Rattle.columns_core.specs.Shapes.{base}
use Rattle.columns_slots.specs.Bytes.{pieces_values}
use Rattle.write_values.specs.Numbers.{at_place}
use Rattle.write_values.proofs.Ordered.{string_spelled}
use Rattle.write_values.proofs.StringPlaces.{place_within}
use Rattle.write_values.proofs.order.StringsOrderedLeaf.bound.Goals as goal

pub string_at-requires-clause-within : goal.string_at-requires-clause-within
string_at-requires-clause-within g c =
    let a = c.args.self.now.array.now in
    rw c.offsets.ensures (place_within a.1.0 a.1.1.0 (c.args.i + 1) c.know.ensures.places (omega (arith, c.requires)))

pub returns-clause-ok : goal.returns-clause-ok
returns-clause-ok g c =
    let a = c.args.self.now.array.now in
    let is : bytes c.string_at.result.now ≡ at_place (pieces_values a.1.0 a.1.1.0) c.args.i = rw (c.offsets.ensures, c.values.ensures) at c.string_at.ensures.is in
    string_spelled g.O.Offset.large (base a.0) c.in_ok-text.text.items c.string_at.result.now _ c.know.ensures.typed is c.in_ok-text.ensures.items
