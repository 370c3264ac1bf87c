use Rattle.std.proofs.Common.{◌-◌}
use Rattle.levels.specs.Nested.{parts_of}
use Rattle.level_sections.proofs.Blocks.{flat-reaches, walked-definitions, walked-repetitions}
use Rattle.level_sections.proofs.Bytes.{told-as}
use Rattle.level_sections.proofs.tell.tell_flat.Goals as goal

pub tell_levels-requires-clause-reaches : goal.tell_levels-requires-clause-reaches
tell_levels-requires-clause-reaches c = flat-reaches c.args.to (parts_of c.args.parts.now) c.requires.well.fits c.requires.flat c.requires.within

pub returns-in-Repetition : goal.returns-in-Repetition
returns-in-Repetition c = λ t. told-as _ _ _ _ (walked-repetitions c.args.level (parts_of c.args.parts.now) c.args.above c.args.from (c.args.to - c.args.from) c.in-Repetition.is c.requires.well.fits c.requires.flat) (c.tell_pairs.ensures t)

pub returns-else-above-gt248 : goal.returns-else-above-gt248
returns-else-above-gt248 c = λ t. told-as _ _ _ _ (walked-definitions c.args.level (parts_of c.args.parts.now) c.args.above c.args.from (c.args.to - c.args.from) c.in-Definition.is c.requires.well.fits c.requires.flat) (c.tell_levels.ensures t)
