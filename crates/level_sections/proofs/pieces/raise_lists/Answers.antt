use Rattle.std.proofs.Common.{◌+◌, ◌∷◌, ◌∙◌, ap, arith, length}
use Rattle.shredding.specs.Parts.{list_part}
use Rattle.levels.specs.Nested.{parts_of}
use Rattle.level_sections.proofs.SlotLevels.{items-rise, told-none}
use Rattle.level_sections.proofs.pieces.raise_lists.Goals as goal

pub loop-place-init : goal.loop-place-init
loop-place-init g c =
    let list = c.args.list.now in
    record {
      after = omega arith;
      before = c.requires.ordered;
      told = told-none c.args.level (list_part list.is_optional list.validity list.offsets ∷ parts_of c.args.rest.now) c.args.above c.args.from _ c.mark.new.pieces (omega arith) (c.mark.ensures.told ∙ c.clear.ensures) (c.mark.ensures.here ∙ ap length c.clear.ensures);
    }

pub raise_word-requires-clause-before : goal.raise_word-requires-clause-before
raise_word-requires-clause-before g c = omega (arith, c.item_place-last.ensures.start, items-rise c.args.list.now.offsets (c.loop-place.place + c.min-count.result) c.args.to c.item_place-last.ensures.rises (omega (arith, c.min-count.ensures, c.loop-place-test.true)) (omega (arith, c.loop-place-test.true, c.requires.within)))
