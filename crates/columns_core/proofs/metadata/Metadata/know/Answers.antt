use Rattle.std.proofs.Common.{subst}
use Rattle.columns_core.specs.Meta.{KeysAscend}
use Rattle.columns_core.proofs.Metas.{texts-ascend}
use Rattle.columns_core.proofs.metadata.Metadata.know.Goals as goal

pub returns : goal.returns
returns c = subst KeysAscend c.self.view_is (texts-ascend c.self.inside.entries.entries c.len-len.ensures.ordered)
