use Rattle.std.proofs.Common.{ℕ, ◌∷◌, arith, subst}
use Rattle.shredding.specs.Parts.{struct_part}
use Rattle.levels.specs.Nested.{parts_of}
use Rattle.level_sections.specs.Pieces.{AreTold}
use Rattle.level_sections.specs.Walk.{walked}
use Rattle.level_sections.proofs.pieces.raise_struct_word.Goals as goal

pub loop-i-init : goal.loop-i-init
loop-i-init c = record {
  before = omega arith;
  told = subst (λ (n : ℕ). AreTold (λ m. walked c.args.level (struct_part c.args.is_optional c.args.mask.now c.args.slots ∷ parts_of c.args.rest.now) c.args.above c.args.from m) n c.args.upper.now) (omega arith) c.requires.told;
}

pub loop-i-preserved : goal.loop-i-preserved
loop-i-preserved c = record {
  before = c.raise_some_structs-some.ensures.within;
  told = c.raise_some_structs-some.ensures.told (omega (arith, c.if-some-eq0.false));
}
