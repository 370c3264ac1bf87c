use Rattle.std.proofs.Common.{◌≡◌, ◌∙◌, ap, subst, sym}
use Rattle.columns_array.specs.Boxed.{boxed}
use Rattle.columns_core.specs.Shapes.{base}
use Rattle.columns_core.specs.Tree.{TypeTree}
use Rattle.columns_slots.specs.Slots.{type_of}
use Rattle.leaf_pages.proofs.Values.{IsPlainKind, none_wide, strings_are}
use Rattle.leaf_pages.specs.Columns.{column_along}
use Rattle.leaf_pages.proofs.binary.nested_array_to_page.Goals as goal

pub plain_page-requires-clause-written : goal.plain_page-requires-clause-written
plain_page-requires-clause-written g c =
    let a = c.in_ok-clone.field-0 in
    let typed : type_of (boxed c.binary_box-array.result) ≡ c.args.array.now.0 = ap type_of (c.binary_box-array.ensures ∙ g.met.O.OffsetArray.are_strings a.0 a.1.0 a.1.1.0 a.1.1.1) ∙ ap (λ x. x.0) c.in_ok-clone.ensures.ok in
    (subst (λ (t : TypeTree). IsPlainKind (base t)) (sym typed) (strings_are _ (base c.args.array.now.0) c.know.ensures.typed)).0

pub plain_page-requires-clause-held : goal.plain_page-requires-clause-held
plain_page-requires-clause-held g c =
    let a = c.in_ok-clone.field-0 in
    let typed : type_of (boxed c.binary_box-array.result) ≡ c.args.array.now.0 = ap type_of (c.binary_box-array.ensures ∙ g.met.O.OffsetArray.are_strings a.0 a.1.0 a.1.1.0 a.1.1.1) ∙ ap (λ x. x.0) c.in_ok-clone.ensures.ok in
    none_wide (column_along c.args.type_ c.args.nested.now (boxed c.binary_box-array.result)) (subst (λ (t : TypeTree). IsPlainKind (base t)) (sym typed) (strings_are _ (base c.args.array.now.0) c.know.ensures.typed)).1
