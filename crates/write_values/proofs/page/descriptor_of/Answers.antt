use Rattle.std.proofs.Common.{arith}
use Rattle.std.proofs.lemmas.List.{length-map}
use Rattle.levels.specs.Nested.{part_of, parts_of}
use Rattle.level_sections.proofs.Within.{most_definition, most_repetition}
use Rattle.write_values.proofs.page.descriptor_of.Goals as goal

pub level_number-requires : goal.level_number-requires
level_number-requires c =
    let well = c.requires.well in
    omega (arith, c.max_def_level.ensures, most_definition (parts_of c.args.nested.now) well.fits well.some, length-map c.args.nested.now part_of, c.requires.parts)

pub level_number-requires-2 : goal.level_number-requires-2
level_number-requires-2 c =
    let well = c.requires.well in
    omega (arith, c.max_rep_level.ensures, most_repetition (parts_of c.args.nested.now) well.fits well.some, length-map c.args.nested.now part_of, c.requires.parts)
