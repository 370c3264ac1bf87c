use Rattle.std.proofs.Common.{◌+◌, ◌∙◌, arith}
use Rattle.levels.specs.Nested.{parts_of}
use Rattle.level_sections.proofs.PlaneNumbers.{item-level}
use Rattle.level_sections.proofs.planes.item_planes.Goals as goal

pub returns : goal.returns
returns c = λ i h def.
    c.with_parts.ensures i h def ∙ item-level (parts_of c.args.rest.now) def _ _ c.full_word.result i (c.args.place + i) (c.full_word.ensures i h) (c.list_planes.ensures i (omega (arith, h, c.requires.few)))
