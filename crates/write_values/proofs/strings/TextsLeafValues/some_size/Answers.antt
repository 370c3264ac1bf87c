use Rattle.std.proofs.Common.{◌+◌}
use Rattle.write_values.proofs.StringPlaces.{place_within}
use Rattle.write_values.proofs.strings.TextsLeafValues.some_size.Goals as goal

pub picked_size-requires-clause-within : goal.picked_size-requires-clause-within
picked_size-requires-clause-within g c =
    let a = c.args.self.now.array.now in
    rw c.offsets.ensures (place_within a.1.0 a.1.1.0 (c.args.from + c.args.places) c.know.ensures.places c.requires.within)
