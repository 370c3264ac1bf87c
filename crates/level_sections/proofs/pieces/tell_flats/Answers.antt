use Rattle.std.proofs.Common.{List, ℕ, ◌-◌, ◌++◌, ◌∙◌, ap, arith, length}
use Rattle.levels.specs.Nested.{parts_of}
use Rattle.level_sections.specs.Walk.{walked}
use Rattle.level_sections.proofs.SlotLevels.{told-flat, told-none}
use Rattle.level_sections.proofs.pieces.tell_flats.Goals as goal

pub returns-then-from-to : goal.returns-then-from-to
returns-then-from-to c = λ t. told-none c.args.level (parts_of c.args.parts.now) c.args.above c.args.from (c.args.to - c.args.from) c.mark.new.pieces (omega (arith, c.if-from-to.true)) (c.mark.ensures.told ∙ c.clear.ensures) (c.mark.ensures.here ∙ ap length c.clear.ensures)

pub returns : goal.returns
returns c = λ t. told-flat c.args.level (parts_of c.args.parts.now) c.args.above c.args.from (c.args.to - c.args.from) _ c.requires.well.fits c.requires.flat c.if-to-from-gt2048.false
    (λ i h. c.count_up.ensures.each i (omega (arith, h)))
    (c.tell_flat.ensures t ∙ ap (λ (xs : List ℕ). xs ++ walked c.args.level (parts_of c.args.parts.now) c.args.above c.args.from (c.args.to - c.args.from)) (c.mark.ensures.told ∙ c.clear.ensures))
