use Rattle.std.proofs.Common.{◌≡◌, ◌∙◌, Bool, ap, inr, refl, sym}
use Rattle.columns_core.specs.Shapes.{base}
use Rattle.columns_core.specs.Tree.{TypeTree}
use Rattle.columns_core.specs.View.{type_view}
use Rattle.columns_slots.specs.Slots.{child_of, type_of}
use Rattle.levels.specs.Nested.{parts_of}
use Rattle.schema_fit.specs.PageTable.{entry_row}
use Rattle.write_pages.specs.Fits.{is_flat_path, is_keyed_in, is_row_in}
use Rattle.write_pages.proofs.ColumnForms.{keyed_row}
use Rattle.write_pages.proofs.KeyedArrays.{entries_typed}
use Rattle.write_pages.proofs.keyed_fit.check_keys_written.Goals as goal

pub returns-clause-ok : goal.returns-clause-ok
returns-clause-ok c =
    let a = c.args.keyed.now in
    let flat = is_flat_path (parts_of c.args.nested.now) in
    let entry : c.is_entry_in.result ≡ is_keyed_in flat (base (type_of a)) =
    c.is_entry_in.ensures
    ∙ (ap (λ (b : Bool). is_row_in b (entry_row (base (type_view c.data_type.result.now)))) c.is_flat.ensures
    ∙ (ap (λ (t : TypeTree). is_row_in flat (entry_row (base t))) (c.data_type.ensures ∙ ap type_of c.values.ensures)
    ∙ sym (keyed_row flat (base (type_of a)) (type_of (child_of a)) (entries_typed a c.know.ensures.parts c.know.ensures.sound)))) in
    (sym c.is_dictionary_encoding.ensures ∙ c.if-not-is_dictionary_encoding.false, sym entry ∙ c.if-not-is_entry_in.false)

pub returns-then-not-is_entry_in-clause-err : goal.returns-then-not-is_entry_in-clause-err
returns-then-not-is_entry_in-clause-err c =
    let a = c.args.keyed.now in
    let flat = is_flat_path (parts_of c.args.nested.now) in
    let entry : c.is_entry_in.result ≡ is_keyed_in flat (base (type_of a)) =
    c.is_entry_in.ensures
    ∙ (ap (λ (b : Bool). is_row_in b (entry_row (base (type_view c.data_type.result.now)))) c.is_flat.ensures
    ∙ (ap (λ (t : TypeTree). is_row_in flat (entry_row (base t))) (c.data_type.ensures ∙ ap type_of c.values.ensures)
    ∙ sym (keyed_row flat (base (type_of a)) (type_of (child_of a)) (entries_typed a c.know.ensures.parts c.know.ensures.sound)))) in
    inr (refl, sym c.is_dictionary_encoding.ensures ∙ c.if-not-is_dictionary_encoding.false, sym entry ∙ c.if-not-is_entry_in.true)
