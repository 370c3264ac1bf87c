use Rattle.std.proofs.Common.{◌∙◌}
use Rattle.write_values.specs.Fixed.{width_in}
use Rattle.write_values.proofs.FixedPlaces.{string_pushed, strings_stored}
use Rattle.write_values.proofs.fixed.FixedStringsFixedValues.push_one.Goals as goal

pub returns-clause-ok : goal.returns-clause-ok
returns-clause-ok c =
    let a = c.args.self.now.array.now in
    string_pushed (width_in a.0) _ _ c.string.result.now _ c.in_ok-extend_from_slice.ensures.items c.string.ensures.size (c.string.ensures.is ∙ strings_stored a.0 a.1.0 a.1.1 (width_in a.0) c.args.i)
