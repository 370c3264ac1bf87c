use Rattle.std.proofs.Common.{arith}
use Rattle.levels.specs.Nested.{parts_of}
use Rattle.level_sections.proofs.Blocks.{reaches-less}
use Rattle.level_sections.proofs.items.has_nulls.Goals as goal

pub front_at-requires-clause-reaches : goal.front_at-requires-clause-reaches
front_at-requires-clause-reaches c = reaches-less c.args.to _ (parts_of c.args.parts.now) (omega (arith, c.min-count.ensures, c.requires.ordered)) c.requires.reaches
