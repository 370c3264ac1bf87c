use Rattle.std.proofs.Common.{◌≡◌, ◌∙◌, List, ap, false, refl, subst, sym, true}
use Rattle.std.specs.Prelude.{IfOk}
use Rattle.columns_array.specs.Boxed.{boxed}
use Rattle.columns_base.specs.declared.error.A.TheVariants.{A7}
use Rattle.columns_base.specs.declared.error.Error.TheVariants.{InvalidArgumentError, NotYetImplemented, Overflow}
use Rattle.columns_base.specs.declared.error.N.TheVariants.{N4, N5}
use Rattle.columns_base.specs.declared.error.V.TheVariants.{V3}
use Rattle.levels.specs.declared.nested.Nested.{Nested}
use Rattle.pq_tree.specs.Reads.{ComesWhere}
use Rattle.leaf_pages.proofs.Opened.{fits, is_large, is_page, is_wide, large, wide}
use Rattle.leaf_pages.proofs.FlatForms.{form, no_form, same_pages, unwritten, written}
use Rattle.leaf_pages.specs.Columns.{FitsArray, IsTooLarge, IsTooWide, PathColumn, column_along, is_in_pages, leaf_column}
use Rattle.leaf_pages.specs.Forms.{IsFlatPage, is_flat_form}
use Rattle.write_pages.proofs.PageRows.{comes_as, each_ok}
use Rattle.write_pages.specs.Fits.{is_flat_path}
use Rattle.leaf_pages.proofs.simple.array_to_page_simple.Goals as goal

pub array_to_page-requires-clause-fits : goal.array_to_page-requires-clause-fits
array_to_page-requires-clause-fits c =
    let a = boxed c.args.array.now in
    let col = column_along c.args.type_ c.deref.result.now a in
    let same : col ≡ leaf_column c.args.type_ a = ap (λ (xs : List Nested). column_along c.args.type_ xs a) c.deref.ensures.value ∙ c.in_ok-nested.ensures.ok in
    fits col (subst FitsArray (sym same) c.requires.fits)

pub returns-clause-ok : goal.returns-clause-ok
returns-clause-ok c =
    let a = boxed c.args.array.now in
    let col = column_along c.args.type_ c.deref.result.now a in
    let same : col ≡ leaf_column c.args.type_ a = ap (λ (xs : List Nested). column_along c.args.type_ xs a) c.deref.ensures.value ∙ c.in_ok-nested.ensures.ok in
    subst (λ (x : PathColumn). IfOk c.array_to_page.result (IsFlatPage c.args.options c.args.encoding x)) same
    (each_ok c.array_to_page.result _ (IsFlatPage c.args.options c.args.encoding col) (λ p h. (h.0, h.1, h.2, h.3, is_page c.args.options h.2 col h.0 h.4)) c.array_to_page.ensures.ok)

pub returns-clause-form : goal.returns-clause-form
returns-clause-form c =
    let a = boxed c.args.array.now in
    let e = c.args.encoding in
    let col = column_along c.args.type_ c.deref.result.now a in
    let same : col ≡ leaf_column c.args.type_ a = ap (λ (xs : List Nested). column_along c.args.type_ xs a) c.deref.ensures.value ∙ c.in_ok-nested.ensures.ok in
    let flat : is_flat_path col.parts ≡ true = subst (λ (x : PathColumn). is_flat_path x.parts ≡ true) (sym same) refl in
    subst (λ (x : PathColumn). ComesWhere (NotYetImplemented N4) (is_flat_form e x ≡ false) c.array_to_page.result) same
    (comes_as (NotYetImplemented N4) _ (is_flat_form e col ≡ false) (no_form col flat e) (unwritten col flat e) c.array_to_page.result c.array_to_page.ensures.form)

pub returns-clause-unserved : goal.returns-clause-unserved
returns-clause-unserved c =
    let a = boxed c.args.array.now in
    let e = c.args.encoding in
    let col = column_along c.args.type_ c.deref.result.now a in
    let same : col ≡ leaf_column c.args.type_ a = ap (λ (xs : List Nested). column_along c.args.type_ xs a) c.deref.ensures.value ∙ c.in_ok-nested.ensures.ok in
    let flat : is_flat_path col.parts ≡ true = subst (λ (x : PathColumn). is_flat_path x.parts ≡ true) (sym same) refl in
    let pages = same_pages col flat e in
    subst (λ (x : PathColumn). ComesWhere (NotYetImplemented N5) ((is_flat_form e x ≡ true) × (is_in_pages a ≡ false)) c.array_to_page.result) same
    (comes_as (NotYetImplemented N5) _ ((is_flat_form e col ≡ true) × (is_in_pages a ≡ false)) (λ h. (form col flat e h.0, sym pages ∙ h.1)) (λ h. (written col flat e h.0, pages ∙ h.1)) c.array_to_page.result c.array_to_page.ensures.unserved)

pub returns-clause-too_wide : goal.returns-clause-too_wide
returns-clause-too_wide c =
    let a = boxed c.args.array.now in
    let e = c.args.encoding in
    let col = column_along c.args.type_ c.deref.result.now a in
    let same : col ≡ leaf_column c.args.type_ a = ap (λ (xs : List Nested). column_along c.args.type_ xs a) c.deref.ensures.value ∙ c.in_ok-nested.ensures.ok in
    let flat : is_flat_path col.parts ≡ true = subst (λ (x : PathColumn). is_flat_path x.parts ≡ true) (sym same) refl in
    let pages = same_pages col flat e in
    subst (λ (x : PathColumn). ComesWhere (InvalidArgumentError A7) ((is_flat_form e x ≡ true) × (is_in_pages a ≡ true) × IsTooWide x) c.array_to_page.result) same
    (comes_as (InvalidArgumentError A7) _ ((is_flat_form e col ≡ true) × (is_in_pages a ≡ true) × IsTooWide col) (λ h. (form col flat e h.0, sym pages ∙ h.1, is_wide col h.2)) (λ h. (written col flat e h.0, pages ∙ h.1, wide col h.2)) c.array_to_page.result c.array_to_page.ensures.too_wide)

pub returns-clause-too_large : goal.returns-clause-too_large
returns-clause-too_large c =
    let a = boxed c.args.array.now in
    let e = c.args.encoding in
    let col = column_along c.args.type_ c.deref.result.now a in
    let same : col ≡ leaf_column c.args.type_ a = ap (λ (xs : List Nested). column_along c.args.type_ xs a) c.deref.ensures.value ∙ c.in_ok-nested.ensures.ok in
    let flat : is_flat_path col.parts ≡ true = subst (λ (x : PathColumn). is_flat_path x.parts ≡ true) (sym same) refl in
    let pages = same_pages col flat e in
    subst (λ (x : PathColumn). ComesWhere (Overflow V3) ((is_flat_form e x ≡ true) × (is_in_pages a ≡ true) × (¬ IsTooWide x) × IsTooLarge x) c.array_to_page.result) same
    (comes_as (Overflow V3) _ ((is_flat_form e col ≡ true) × (is_in_pages a ≡ true) × (¬ IsTooWide col) × IsTooLarge col) (λ h. (form col flat e h.0, sym pages ∙ h.1, λ w. h.2 (wide col w), is_large col h.3)) (λ h. (written col flat e h.0, pages ∙ h.1, λ w. h.2 (is_wide col w), large col h.3)) c.array_to_page.result c.array_to_page.ensures.too_large)
