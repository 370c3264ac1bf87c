use Rattle.std.proofs.Common.{◌≡◌, ◌∙◌, ap, true}
use Rattle.columns_array.specs.Boxed.{boxed}
use Rattle.columns_array.specs.declared.arrays.ArrayBox.TheVariants.{Boolean}
use Rattle.columns_core.specs.Shapes.{base}
use Rattle.columns_slots.specs.Types.{is_boolean}
use Rattle.leaf_pages.proofs.Values.{none_wide, truths_are}
use Rattle.leaf_pages.specs.Columns.{column_along}
use Rattle.leaf_pages.proofs.boolean.nested_array_to_page.Goals as goal

pub plain_page-requires-clause-written : goal.plain_page-requires-clause-written
plain_page-requires-clause-written c =
    let truths : is_boolean (base c.in_ok-clone.field-0.0) ≡ true = ap (λ a. is_boolean (base a.0)) c.in_ok-clone.ensures.ok ∙ c.know.ensures.typed in
    (truths_are (base c.in_ok-clone.field-0.0) truths).0

pub plain_page-requires-clause-held : goal.plain_page-requires-clause-held
plain_page-requires-clause-held c =
    let truths : is_boolean (base c.in_ok-clone.field-0.0) ≡ true = ap (λ a. is_boolean (base a.0)) c.in_ok-clone.ensures.ok ∙ c.know.ensures.typed in
    none_wide (column_along c.args.type_ c.args.nested.now (boxed (Boolean c.in_ok-clone.field-0))) (truths_are (base c.in_ok-clone.field-0.0) truths).1
