use Rattle.std.proofs.Common.{◌+◌, ◌-◌, ◌∙◌, ap, arith, ℕ}
use Rattle.levels.specs.Nested.{parts_of}
use Rattle.levels.specs.Levels.{bit}
use Rattle.level_sections.specs.Blocks.{flat_level}
use Rattle.level_sections.proofs.Blocks.{reaches-less}
use Rattle.level_sections.proofs.items.window_at.Goals as goal

pub item_planes-requires-clause-reaches : goal.item_planes-requires-clause-reaches
item_planes-requires-clause-reaches c = reaches-less c.args.to _ (parts_of c.args.rest.now) (omega (arith, c.min-count.ensures, c.requires.ordered)) c.requires.reaches

pub returns-clause-levels : goal.returns-clause-levels
returns-clause-levels c = λ def j l h. c.item_planes.ensures (j - c.args.first) (omega (arith, l, h)) def ∙ ap (λ (k : ℕ). flat_level (parts_of c.args.rest.now) (def + bit c.args.is_optional + 1) k) (omega (arith, l))
