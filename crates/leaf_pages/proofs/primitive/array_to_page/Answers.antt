use Rattle.std.proofs.Common.{◌≡◌, ◌≤◌, ◌∙◌, ℕ, Bool, List, ap, length, subst, sym}
use Rattle.columns_array.specs.Boxed.{boxed}
use Rattle.leaf_pages.specs.Columns.{PathColumn, column_along, column_physical, leaf_column}
use Rattle.leaf_pages.specs.Encoded.{AreSections, HoldsValues, stored_pairs}
use Rattle.levels.specs.declared.nested.Nested.{Nested}
use Rattle.pq_tree.specs.Views.{physical_view}
use Rattle.write_values.specs.Pages.{column_room}
use Rattle.write_values.specs.Stored.{stored_at}
use Rattle.leaf_pages.proofs.primitive.array_to_page.Goals as goal

pub encoded_page-requires-clause-holds : goal.encoded_page-requires-clause-holds
encoded_page-requires-clause-holds g c =
    let a = boxed c.into_box-values.result in
    let type_ = c.args.type_ in
    let version = c.args.options.version in
    let levels = c.in_ok-levels.levels.buffer.items in
    let sizes : ℕ × ℕ = (c.in_ok-levels.levels.repetition, c.in_ok-levels.levels.definition) in
    let is : column_along type_ c.in_ok-nested.nested.items a ≡ leaf_column type_ (g.T.IntoBox.tree c.args.array.now) = c.in_ok-nested.ensures.ok ∙ ap (leaf_column type_) (c.into_box-values.ensures ∙ ap g.T.IntoBox.tree c.in_ok-clone.ensures.ok) in
    let before : column_along type_ c.deref-2.result.now a ≡ leaf_column type_ (g.T.IntoBox.tree c.args.array.now) = ap (λ (ns : List Nested). column_along type_ ns a) c.deref-2.ensures.value ∙ is in
    let behind : column_along type_ c.deref-3.result.now a ≡ leaf_column type_ (g.T.IntoBox.tree c.args.array.now) = ap (λ (ns : List Nested). column_along type_ ns a) c.deref-3.ensures.value ∙ is in
    let sections : AreSections version (leaf_column type_ (g.T.IntoBox.tree c.args.array.now)) levels sizes = subst (λ (x : PathColumn). AreSections version x levels sizes) before (c.in_ok-levels.ensures.ok (stored_at a (physical_view type_.physical_type))) in
    let appended = c.in_ok-buffer.ensures.ok in
    let e = c.requires.encodes in
    let spelt = subst (λ (o : Bool). g.E.Encode.spells c.args.encode c.args.array.now o appended.0) c.is_optional.ensures appended.2 in (
      e.encoding,
      e.named,
      subst (λ (x : PathColumn). HoldsValues version e.encoding x c.in_ok-buffer.buffer.items sizes) (sym behind)
          (record {
            levels = levels;
            sections = sections;
            values = record {
              text = appended.0;
              parts = appended.1;
              spelled = e.spelled appended.0 spelt;
              within = subst (λ (body : List ℕ). length body ≤ column_room (column_physical (leaf_column type_ (g.T.IntoBox.tree c.args.array.now))) (stored_pairs (leaf_column type_ (g.T.IntoBox.tree c.args.array.now)))) (sym appended.1) (e.within appended.0 levels sizes spelt sections);
            };
          }),
    )
