use Rattle.std.proofs.Common.{Some, string_bytes, option_map, ap, sym, ◌∙◌}
use Rattle.columns_core.specs.View.{type_view}
use Rattle.columns_core.specs.Tree.{FieldTree}
use Rattle.schema_fb.proofs.Named.{made_plain, made_extension}
use Rattle.schema_fb.proofs.extensions.made_field.Goals as goal

pub returns-in_default : goal.returns-in_default
returns-in_default c =
    ap (λ (f : FieldTree). Some f) (sym (c.field_of.ensures ∙ made_plain (string_bytes c.args.name) c.args.is_nullable (type_view c.args.data_type) c.args.metadata c.remove.new.self (sym c.in_default.ensures.former) c.remove.ensures.others))

pub returns : goal.returns
returns c =
    let name = string_bytes c.args.name in
    let extension = string_bytes c.in-Some.extension in
    let text = option_map string_bytes c.remove-text.result in
    let made = made_extension name c.args.is_nullable (type_view c.args.data_type) c.args.metadata c.remove.new.self c.remove-text.new.self extension text (sym c.in-Some.ensures.former) c.remove.ensures.others c.remove-text.ensures.former c.remove-text.ensures.others in
    cc (made, c.field_of-2.ensures, c.in_ok-data_type.ensures)
