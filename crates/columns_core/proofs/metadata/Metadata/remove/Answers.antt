use Rattle.std.proofs.Common.{◌∙◌, ap, string_bytes, option_map}
use Rattle.columns_core.specs.Meta.{text_at, without_key, texts}
use Rattle.columns_core.proofs.Metas.{texts-get, texts-remove}
use Rattle.columns_core.proofs.metadata.Metadata.remove.Goals as goal

pub returns-clause-former : goal.returns-clause-former
returns-clause-former c =
    ap (option_map string_bytes) c.remove.ensures.value ∙ texts-get c.args.key.now c.self.inside.entries.entries ∙ ap (text_at c.args.key.now) c.self.view_is

pub returns-clause-others : goal.returns-clause-others
returns-clause-others c =
    ap texts c.remove.ensures.entries ∙ texts-remove c.args.key.now c.self.inside.entries.entries ∙ ap (without_key c.args.key.now) c.self.view_is
