use Rattle.std.proofs.Common.{◌≡◌, ◌∙◌, inl, inr, refl, sym, true, true≢false}
use Rattle.columns_array.specs.Boxed.{boxed}
use Rattle.levels.specs.Nested.{parts_of}
use Rattle.pq_tree.specs.TreeViews.{leaf_view}
use Rattle.pq_tree.specs.Views.{physical_view}
use Rattle.leaf_pages.proofs.OfValues.{are_told, of_values, path_fits, values_are}
use Rattle.leaf_pages.proofs.Opened.{is_wide, wide}
use Rattle.leaf_pages.specs.Columns.{IsOfValues, column_along}
use Rattle.leaf_pages.specs.PathLeaf.{FitsPath, are_values}
use Rattle.write_pages.proofs.PageRows.{rows_wide}
use Rattle.leaf_pages.proofs.conditions.check_along.Goals as goal

pub returns-then-not-is_well_formed-clause-err : goal.returns-then-not-is_well_formed-clause-err
returns-then-not-is_well_formed-clause-err c = inl (refl, λ v. true≢false (sym (c.is_well_formed.ensures.1 v.well) ∙ c.if-not-is_well_formed.true))

pub returns-then-not-fits_path-clause-err : goal.returns-then-not-fits_path-clause-err
returns-then-not-fits_path-clause-err c =
    inl (refl, λ v. true≢false (sym (c.fits_path.ensures.1 (path_fits c.args.type_.now c.args.nested.now (boxed c.args.array.now) v)) ∙ c.if-not-fits_path.true))

pub returns-then-not-has_values-clause-err : goal.returns-then-not-has_values-clause-err
returns-then-not-has_values-clause-err c =
    inl (refl, λ v. true≢false (sym (values_are c.args.type_.now c.args.nested.now (boxed c.args.array.now) v) ∙ (sym c.has_values.ensures ∙ c.if-not-has_values.true)))

pub has_wide-requires-clause-leaf : goal.has_wide-requires-clause-leaf
has_wide-requires-clause-leaf c =
    let f : FitsPath (boxed c.args.array.now) (leaf_view c.args.type_.now) (parts_of c.args.nested.now) = c.fits_path.ensures.0 c.if-not-fits_path.false in
    sym f.1.count

pub has_wide-requires-clause-served : goal.has_wide-requires-clause-served
has_wide-requires-clause-served c =
    (are_told (boxed c.args.array.now) (physical_view c.args.type_.now.physical_type) (sym c.has_values.ensures ∙ c.if-not-has_values.false)).2

pub returns-then-has_wide-clause-err : goal.returns-then-has_wide-clause-err
returns-then-has_wide-clause-err c =
    let a = boxed c.args.array.now in
    let p = physical_view c.args.type_.now.physical_type in
    let nested = c.args.nested.now in
    let e : are_values a p ≡ true = sym c.has_values.ensures ∙ c.if-not-has_values.false in
    let v : IsOfValues (column_along c.args.type_.now nested a) = of_values c.args.type_.now nested a c.know.ensures (c.is_well_formed.ensures.0 c.if-not-is_well_formed.false) (c.fits_path.ensures.0 c.if-not-fits_path.false) e in
    inr (refl, v, is_wide (column_along c.args.type_.now nested a) ((rows_wide a p nested c.know.ensures (are_told a p e).2).0 (c.has_wide.ensures.0 c.if-has_wide.true)))

pub returns-clause-ok : goal.returns-clause-ok
returns-clause-ok c =
    let a = boxed c.args.array.now in
    of_values c.args.type_.now c.args.nested.now a c.know.ensures (c.is_well_formed.ensures.0 c.if-not-is_well_formed.false) (c.fits_path.ensures.0 c.if-not-fits_path.false) (sym c.has_values.ensures ∙ c.if-not-has_values.false)

pub returns-clause-held : goal.returns-clause-held
returns-clause-held c =
    let a = boxed c.args.array.now in
    let p = physical_view c.args.type_.now.physical_type in
    let nested = c.args.nested.now in
    let e : are_values a p ≡ true = sym c.has_values.ensures ∙ c.if-not-has_values.false in
    λ w. true≢false (sym (c.has_wide.ensures.1 ((rows_wide a p nested c.know.ensures (are_told a p e).2).1 (wide (column_along c.args.type_.now nested a) w))) ∙ c.if-has_wide.false)
