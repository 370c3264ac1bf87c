use Rattle.std.proofs.Common.{◌∙◌}
use Rattle.columns_core.proofs.Metas.{texts-clone}
use Rattle.columns_core.proofs.metadata.Metadata.clone.Goals as goal

pub returns-clause-ok : goal.returns-clause-ok
returns-clause-ok c = texts-clone _ _ c.in_ok-clone.ensures.cases ∙ c.self.view_is
