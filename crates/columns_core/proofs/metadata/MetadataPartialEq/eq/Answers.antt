use Rattle.std.proofs.Common.{◌∙◌}
use Rattle.columns_core.proofs.Metas.{texts-eq}
use Rattle.columns_core.proofs.metadata.MetadataPartialEq.eq.Goals as goal

pub returns : goal.returns
returns c = rw (← c.self.view_is, ← c.other.view_is) (c.eq.ensures ∙ texts-eq c.self.inside.entries.entries c.other.inside.entries.entries)
