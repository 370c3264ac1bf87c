use Rattle.std.proofs.Common.{◌∙◌}
use Rattle.write_groups.proofs.column.ChunkColumnChunkPages.statistics.Goals as goal

pub returns : goal.returns
returns c = λ version l k h few fewer. c.statistics.ensures ∙ h.3 few fewer
