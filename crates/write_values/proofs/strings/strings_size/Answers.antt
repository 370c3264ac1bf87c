use Rattle.std.proofs.Common.{arith}
use Rattle.write_values.proofs.StringPlaces.{strings_size}
use Rattle.write_values.proofs.strings.strings_size.Goals as goal

pub returns : goal.returns
returns g c =
    let s = strings_size c.args.offsets.now c.args.all.now c.args.from c.args.to c.requires.places c.requires.ordered c.requires.within in
    omega (arith, s.0, s.1, c.place.ensures, c.place-2.ensures)
