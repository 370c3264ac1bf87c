use Rattle.levels.specs.Nested.{parts_of}
use Rattle.level_sections.proofs.Blocks.{reaches-less}
use Rattle.level_sections.proofs.items.lists_end.Goals as goal

pub has_nulls-requires-clause-reaches : goal.has_nulls-requires-clause-reaches
has_nulls-requires-clause-reaches g c = reaches-less _ _ (parts_of c.args.rest.now) c.item_place-last.ensures.within c.requires.reaches
