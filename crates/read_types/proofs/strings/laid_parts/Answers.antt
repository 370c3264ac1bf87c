use Rattle.std.proofs.Common.{ap, ◌∙◌}
use Rattle.columns_core.specs.Rising.{last_place}
use Rattle.read_types.proofs.Slots.{rising-places}
use Rattle.read_types.proofs.strings.laid_parts.Goals as goal

pub returns-in-Ok-clause-places : goal.returns-in-Ok-clause-places
returns-in-Ok-clause-places g c = rising-places c.in-Ok.offsets _ c.know.ensures (ap last_place c.in-Ok.ensures.ok ∙ c.into_parts-offsets.ensures.laid.last)
