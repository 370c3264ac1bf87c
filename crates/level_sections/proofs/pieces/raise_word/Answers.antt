use Rattle.std.proofs.Common.{ℕ, ◌∷◌, arith, subst}
use Rattle.shredding.specs.Parts.{list_part}
use Rattle.levels.specs.Nested.{parts_of}
use Rattle.level_sections.specs.Pieces.{AreTold}
use Rattle.level_sections.specs.Walk.{walked}
use Rattle.level_sections.proofs.pieces.raise_word.Goals as goal

pub item_edges-edges-requires-clause-small : goal.item_edges-edges-requires-clause-small
item_edges-edges-requires-clause-small g c = omega (arith, c.requires.before, c.requires.beneath.few)

pub loop-i-init : goal.loop-i-init
loop-i-init g c =
    let list = c.args.list.now in
    record {
      before = omega arith;
      told = subst (λ (n : ℕ). AreTold (λ m. walked c.args.level (list_part list.is_optional list.validity list.offsets ∷ parts_of c.args.rest.now) c.args.above c.args.from m) n c.args.upper.now) (omega arith) c.requires.told;
    }

pub loop-i-preserved : goal.loop-i-preserved
loop-i-preserved g c = record {
  before = c.raise_some_lists-some.ensures.within;
  told = c.raise_some_lists-some.ensures.told (omega (arith, c.if-some-eq0.false));
}
