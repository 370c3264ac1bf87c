use Rattle.std.proofs.Common.{◌∙◌, ap, string_bytes, option_map}
use Rattle.columns_core.specs.Meta.{text_at, with_text, texts}
use Rattle.columns_core.proofs.Metas.{texts-get, texts-insert}
use Rattle.columns_core.proofs.metadata.Metadata.insert.Goals as goal

pub returns-clause-ok : goal.returns-clause-ok
returns-clause-ok c =
    ap texts c.in_ok-insert.ensures.entries ∙ texts-insert c.args.key c.args.text c.self.inside.entries.entries ∙ ap (with_text (string_bytes c.args.key) (string_bytes c.args.text)) c.self.view_is

pub returns-clause-former : goal.returns-clause-former
returns-clause-former c =
    ap (option_map string_bytes) c.in_ok-insert.ensures.old ∙ texts-get (string_bytes c.args.key) c.self.inside.entries.entries ∙ ap (text_at (string_bytes c.args.key)) c.self.view_is
