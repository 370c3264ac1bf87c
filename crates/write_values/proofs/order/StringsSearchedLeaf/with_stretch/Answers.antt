use Rattle.std.proofs.Common.{◌+◌, arith}
use Rattle.write_values.proofs.StringPlaces.{place_before, place_within}
use Rattle.write_values.proofs.order.StringsSearchedLeaf.with_stretch.Goals as goal

pub with_strings-requires-clause-least : goal.with_strings-requires-clause-least
with_strings-requires-clause-least g c =
    let a = c.args.self.now.array.now in
    rw c.offsets-offsets.ensures (place_within a.1.0 a.1.1.0 (c.args.extremes.least + 1) c.know.ensures.places (omega (arith, c.requires.before.0)))

pub with_strings-requires-clause-greatest : goal.with_strings-requires-clause-greatest
with_strings-requires-clause-greatest g c =
    let a = c.args.self.now.array.now in
    rw c.offsets-offsets.ensures (place_within a.1.0 a.1.1.0 (c.args.extremes.greatest + 1) c.know.ensures.places (omega (arith, c.requires.before.1)))

pub with_strings-requires-clause-within : goal.with_strings-requires-clause-within
with_strings-requires-clause-within g c =
    let a = c.args.self.now.array.now in
    rw c.offsets-offsets.ensures (place_within a.1.0 a.1.1.0 c.args.to c.know.ensures.places (omega (arith, c.requires.within)))

pub returns-clause-within : goal.returns-clause-within
returns-clause-within g c =
    let a = c.args.self.now.array.now in
    (place_before a.1.0 a.1.1.0 c.with_strings.result.least (rw c.offsets-offsets.ensures at c.with_strings.ensures.least), place_before a.1.0 a.1.1.0 c.with_strings.result.greatest (rw c.offsets-offsets.ensures at c.with_strings.ensures.greatest))
