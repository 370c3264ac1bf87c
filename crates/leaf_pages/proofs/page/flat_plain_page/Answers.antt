use Rattle.std.proofs.Common.{◌≡◌, ◌∙◌, List, ap, subst, sym}
use Rattle.std.specs.Prelude.{IfOk}
use Rattle.columns_array.specs.Boxed.{boxed}
use Rattle.columns_base.specs.declared.error.Error.TheVariants.{Overflow}
use Rattle.columns_base.specs.declared.error.V.TheVariants.{V3}
use Rattle.levels.specs.declared.nested.Nested.{Nested}
use Rattle.pq_files.specs.Page.{plain}
use Rattle.pq_tree.specs.Reads.{ComesWhere}
use Rattle.leaf_pages.specs.Columns.{FitsArray, IsPageAlong, IsTooLarge, IsTooWide, PathColumn, column_along, leaf_column}
use Rattle.leaf_pages.proofs.page.flat_plain_page.Goals as goal

pub plain_page-requires-clause-fits : goal.plain_page-requires-clause-fits
plain_page-requires-clause-fits c =
    let a = boxed c.args.array.now in
    let same : column_along c.args.type_ c.deref.result.now a ≡ leaf_column c.args.type_ a = ap (λ (xs : List Nested). column_along c.args.type_ xs a) c.deref.ensures.value ∙ c.in_ok-nested.ensures.ok in
    subst FitsArray (sym same) c.requires.fits

pub plain_page-requires-clause-held : goal.plain_page-requires-clause-held
plain_page-requires-clause-held c =
    let a = boxed c.args.array.now in
    let same : column_along c.args.type_ c.deref.result.now a ≡ leaf_column c.args.type_ a = ap (λ (xs : List Nested). column_along c.args.type_ xs a) c.deref.ensures.value ∙ c.in_ok-nested.ensures.ok in
    subst (λ (x : PathColumn). ¬ IsTooWide x) (sym same) c.requires.held

pub returns-clause-ok : goal.returns-clause-ok
returns-clause-ok c =
    let a = boxed c.args.array.now in
    let same : column_along c.args.type_ c.deref.result.now a ≡ leaf_column c.args.type_ a = ap (λ (xs : List Nested). column_along c.args.type_ xs a) c.deref.ensures.value ∙ c.in_ok-nested.ensures.ok in
    subst (λ (x : PathColumn). IfOk c.plain_page.result (IsPageAlong c.args.options plain x)) same c.plain_page.ensures.ok

pub returns-clause-too_large : goal.returns-clause-too_large
returns-clause-too_large c =
    let a = boxed c.args.array.now in
    let same : column_along c.args.type_ c.deref.result.now a ≡ leaf_column c.args.type_ a = ap (λ (xs : List Nested). column_along c.args.type_ xs a) c.deref.ensures.value ∙ c.in_ok-nested.ensures.ok in
    subst (λ (x : PathColumn). ComesWhere (Overflow V3) (IsTooLarge x) c.plain_page.result) same c.plain_page.ensures.too_large
