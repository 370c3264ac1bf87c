use Rattle.std.proofs.Common.{◌∷◌, ◌∙◌, ap, arith, length}
use Rattle.shredding.specs.Parts.{struct_part}
use Rattle.levels.specs.Nested.{parts_of}
use Rattle.level_sections.proofs.SlotLevels.{told-none}
use Rattle.level_sections.proofs.pieces.raise_structs.Goals as goal

pub loop-place-init : goal.loop-place-init
loop-place-init c =
    record {
      after = omega arith;
      before = c.requires.ordered;
      told = told-none c.args.level (struct_part c.args.is_optional c.args.mask.now c.args.slots ∷ parts_of c.args.rest.now) c.args.above c.args.from _ c.mark.new.pieces (omega arith) (c.mark.ensures.told ∙ c.clear.ensures) (c.mark.ensures.here ∙ ap length c.clear.ensures);
    }
