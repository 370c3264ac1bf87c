use Rattle.std.proofs.Common.{◌≡◌, ◌∙◌, List, ap, subst, sym, true}
use Rattle.std.specs.Prelude.{IfOk}
use Rattle.columns_array.specs.Boxed.{boxed}
use Rattle.columns_base.specs.declared.error.Error.TheVariants.{Overflow}
use Rattle.columns_base.specs.declared.error.V.TheVariants.{V3}
use Rattle.levels.specs.declared.nested.Nested.{Nested}
use Rattle.pq_tree.specs.Reads.{ComesWhere}
use Rattle.pq_tree.specs.Views.{physical_view}
use Rattle.leaf_pages.specs.Columns.{FitsArray, IsTooLarge, IsTooWide, PathColumn, column_along, leaf_column}
use Rattle.leaf_pages.specs.Forms.{IsPageNamed, has_form}
use Rattle.leaf_pages.proofs.page.flat_page_in.Goals as goal

pub page_in-requires-clause-fits : goal.page_in-requires-clause-fits
page_in-requires-clause-fits c =
    let a = boxed c.args.array.now in
    let same : column_along c.args.type_ c.deref.result.now a ≡ leaf_column c.args.type_ a = ap (λ (xs : List Nested). column_along c.args.type_ xs a) c.deref.ensures.value ∙ c.in_ok-nested.ensures.ok in
    subst FitsArray (sym same) c.requires.fits

pub page_in-requires-clause-held : goal.page_in-requires-clause-held
page_in-requires-clause-held c =
    let a = boxed c.args.array.now in
    let same : column_along c.args.type_ c.deref.result.now a ≡ leaf_column c.args.type_ a = ap (λ (xs : List Nested). column_along c.args.type_ xs a) c.deref.ensures.value ∙ c.in_ok-nested.ensures.ok in
    subst (λ (x : PathColumn). ¬ IsTooWide x) (sym same) c.requires.held

pub returns-clause-ok : goal.returns-clause-ok
returns-clause-ok c =
    let a = boxed c.args.array.now in
    let same : column_along c.args.type_ c.deref.result.now a ≡ leaf_column c.args.type_ a = ap (λ (xs : List Nested). column_along c.args.type_ xs a) c.deref.ensures.value ∙ c.in_ok-nested.ensures.ok in
    subst (λ (x : PathColumn). IfOk c.page_in.result (IsPageNamed c.args.options c.args.encoding x)) same c.page_in.ensures.ok

pub returns-clause-too_large : goal.returns-clause-too_large
returns-clause-too_large c =
    let a = boxed c.args.array.now in
    let same : column_along c.args.type_ c.deref.result.now a ≡ leaf_column c.args.type_ a = ap (λ (xs : List Nested). column_along c.args.type_ xs a) c.deref.ensures.value ∙ c.in_ok-nested.ensures.ok in
    subst (λ (x : PathColumn). ComesWhere (Overflow V3) ((has_form c.args.encoding (physical_view c.args.type_.physical_type) ≡ true) × IsTooLarge x) c.page_in.result) same c.page_in.ensures.too_large
