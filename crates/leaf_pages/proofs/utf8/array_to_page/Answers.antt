use Rattle.std.proofs.Common.{◌≡◌, ◌∙◌, ap, subst, sym}
use Rattle.columns_array.specs.Boxed.{boxed}
use Rattle.columns_core.specs.Shapes.{base}
use Rattle.columns_core.specs.Tree.{TypeTree}
use Rattle.columns_slots.specs.Slots.{type_of}
use Rattle.leaf_pages.proofs.Values.{IsPlainKind, none_wide, texts_are}
use Rattle.leaf_pages.specs.Columns.{leaf_column}
use Rattle.leaf_pages.proofs.utf8.array_to_page.Goals as goal

pub flat_page_in-requires-clause-written : goal.flat_page_in-requires-clause-written
flat_page_in-requires-clause-written g c =
    let a = c.in_ok-clone.field-0 in
    let typed : type_of (boxed c.text_box-array.result) ≡ c.args.array.now.0 = ap type_of (c.text_box-array.ensures ∙ g.met.O.OffsetArray.are_texts a.0 a.1.0 a.1.1.0 a.1.1.1) ∙ ap (λ x. x.0) c.in_ok-clone.ensures.ok in
    (subst (λ (t : TypeTree). IsPlainKind (base t)) (sym typed) (texts_are _ (base c.args.array.now.0) c.know.ensures.typed)).0

pub flat_page_in-requires-clause-held : goal.flat_page_in-requires-clause-held
flat_page_in-requires-clause-held g c =
    let a = c.in_ok-clone.field-0 in
    let typed : type_of (boxed c.text_box-array.result) ≡ c.args.array.now.0 = ap type_of (c.text_box-array.ensures ∙ g.met.O.OffsetArray.are_texts a.0 a.1.0 a.1.1.0 a.1.1.1) ∙ ap (λ x. x.0) c.in_ok-clone.ensures.ok in
    none_wide (leaf_column c.args.type_ (boxed c.text_box-array.result)) (subst (λ (t : TypeTree). IsPlainKind (base t)) (sym typed) (texts_are _ (base c.args.array.now.0) c.know.ensures.typed)).1
