use Rattle.write_values.proofs.StringPlaces.{place_within}
use Rattle.write_values.proofs.strings.TextsLeafValues.plain_size.Goals as goal

pub strings_size-requires-clause-within : goal.strings_size-requires-clause-within
strings_size-requires-clause-within g c =
    let a = c.args.self.now.array.now in
    rw c.offsets.ensures (place_within a.1.0 a.1.1.0 c.args.to c.know.ensures.places c.requires.within)
