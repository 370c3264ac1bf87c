use Rattle.std.proofs.Common.{◌≡◌, ◌∙◌, ap, subst}
use Rattle.std.specs.Prelude.{IfOk, option_map}
use Rattle.columns_array.specs.Boxed.{boxed}
use Rattle.columns_array.specs.declared.arrays.ArrayBox.TheVariants.{FixedSizeBinary}
use Rattle.columns_core.specs.Shapes.{base}
use Rattle.columns_slots.specs.Types.{byte_width}
use Rattle.pq_files.specs.Page.{plain}
use Rattle.leaf_pages.proofs.OtherDescriptors.{with_other}
use Rattle.leaf_pages.proofs.Values.{fixed_strings_are, none_wide}
use Rattle.leaf_pages.specs.Columns.{PathColumn, leaf_column}
use Rattle.leaf_pages.specs.Restated.{IsRestated, described, stated_fixed, without_statistics}
use Rattle.write_pages.proofs.PageRows.{each_ok}
use Rattle.leaf_pages.proofs.fixed_len_bytes.array_to_page.Goals as goal

pub checked_flat_page-requires-clause-held : goal.checked_flat_page-requires-clause-held
checked_flat_page-requires-clause-held c =
    none_wide (leaf_column c.args.type_ (boxed (FixedSizeBinary c.in_ok-clone.field-0))) (fixed_strings_are (base c.in_ok-clone.field-0.0) _ (ap (λ a. byte_width (base a.0)) c.in_ok-clone.ensures.ok ∙ c.know.ensures.width))

pub returns-in-Ok-clause-ok : goal.returns-in-Ok-clause-ok
returns-in-Ok-clause-ok c =
    let o = c.args.options in
    let given = option_map stated_fixed c.args.statistics in
    let col = leaf_column c.args.type_ (boxed (FixedSizeBinary c.in_ok-clone.field-0)) in
    let same : col ≡ leaf_column c.args.type_ (boxed (FixedSizeBinary c.args.array.now)) = ap (λ a. leaf_column c.args.type_ (boxed (FixedSizeBinary a))) c.in_ok-clone.ensures.ok in
    subst (λ (x : PathColumn). IfOk c.restate.result (IsRestated o given x)) same
    (each_ok c.restate.result _ (IsRestated o given col) (λ p h. (described p.descriptor c.in-Ok.page, with_other (without_statistics o) plain col p.descriptor c.in-Ok.page h.0 c.in-Ok.ensures.ok, h.1)) c.restate.ensures.ok)
