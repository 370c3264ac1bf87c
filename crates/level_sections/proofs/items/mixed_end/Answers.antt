use Rattle.std.proofs.Common.{◌≡◌, ◌∷◌, refl}
use Rattle.shredding.specs.Parts.{list_part}
use Rattle.levels.specs.Nested.{parts_of}
use Rattle.level_sections.proofs.Listed.{items-reach}
use Rattle.level_sections.proofs.items.mixed_end.Goals as goal

pub lists_end-requires-clause-reaches : goal.lists_end-requires-clause-reaches
lists_end-requires-clause-reaches c =
    let list = c.in-List.list in
    let e : parts_of c.args.parts.now ≡ list_part list.is_optional list.validity list.offsets ∷ parts_of c.in-Some.rest.now = rw (c.in-Some.ensures.cases.0, c.in-List.is) refl in
    items-reach list.is_optional list.validity list.offsets (parts_of c.in-Some.rest.now) (parts_of c.args.parts.now) e c.requires.items c.requires.well.fits

pub lists_end-requires-in-LargeList-clause-reaches : goal.lists_end-requires-in-LargeList-clause-reaches
lists_end-requires-in-LargeList-clause-reaches c =
    let list = c.in-LargeList.list in
    let e : parts_of c.args.parts.now ≡ list_part list.is_optional list.validity list.offsets ∷ parts_of c.in-Some.rest.now = rw (c.in-Some.ensures.cases.0, c.in-LargeList.is) refl in
    items-reach list.is_optional list.validity list.offsets (parts_of c.in-Some.rest.now) (parts_of c.args.parts.now) e c.requires.items c.requires.well.fits
