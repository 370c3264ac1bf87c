use Rattle.std.proofs.Common.{◌+◌, arith}
use Rattle.write_values.proofs.StringPlaces.{place_within}
use Rattle.write_values.proofs.order.TextsOrderedLeaf.is_less.Goals as goal

pub string_at-requires-clause-within : goal.string_at-requires-clause-within
string_at-requires-clause-within g c =
    let a = c.args.self.now.array.now in
    rw c.offsets-offsets.ensures (place_within a.1.0 a.1.1.0 (c.args.i + 1) c.know.ensures.places (omega (arith, c.requires.first)))

pub string_at-requires-2-clause-within : goal.string_at-requires-2-clause-within
string_at-requires-2-clause-within g c =
    let a = c.args.self.now.array.now in
    rw c.offsets-offsets.ensures (place_within a.1.0 a.1.1.0 (c.args.j + 1) c.know.ensures.places (omega (arith, c.requires.second)))
