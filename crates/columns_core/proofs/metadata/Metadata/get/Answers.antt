use Rattle.std.proofs.Common.{◌∙◌, ap}
use Rattle.columns_core.specs.Meta.{text_at}
use Rattle.columns_core.proofs.Metas.{texts-get, texts-shown}
use Rattle.columns_core.proofs.metadata.Metadata.get.Goals as goal

pub returns : goal.returns
returns c = texts-shown c.get.result _ c.get.ensures.value ∙ texts-get c.args.key.now c.self.inside.entries.entries ∙ ap (text_at c.args.key.now) c.self.view_is
