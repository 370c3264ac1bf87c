use Rattle.std.proofs.Common.{◌≡◌, Bool, Some, subst, sym, true, true≢false, ◌∙◌}
use Rattle.columns_array.specs.Boxed.{boxed}
use Rattle.columns_base.specs.declared.error.Error.TheVariants.{NotYetImplemented, Overflow}
use Rattle.columns_base.specs.declared.error.N.TheVariants.{N4}
use Rattle.columns_base.specs.declared.error.V.TheVariants.{V3}
use Rattle.columns_core.specs.Shapes.{base, leaf_type}
use Rattle.columns_slots.specs.Slots.{type_of}
use Rattle.pq_tree.specs.Views.{physical_view}
use Rattle.leaf_pages.proofs.Causes.{never}
use Rattle.leaf_pages.proofs.Opened.{fits}
use Rattle.leaf_pages.proofs.Spelled.{encoding_is}
use Rattle.leaf_pages.proofs.Values.{values_some}
use Rattle.leaf_pages.specs.Columns.{column_along}
use Rattle.leaf_pages.specs.Forms.{has_form}
use Rattle.write_pages.proofs.PageRows.{comes_as, each_ok}
use Rattle.write_pages.proofs.PageTable.{fits_served}
use Rattle.write_pages.specs.Holds.{encoding_view}
use Rattle.write_values.specs.Deltas.{page_encoding}
use Rattle.leaf_pages.proofs.page.page_in.Goals as goal

pub spelled_page-requires-clause-served : goal.spelled_page-requires-clause-served
spelled_page-requires-clause-served c =
    let a = boxed c.args.array.now in
    let f = fits (column_along c.args.type_ c.args.nested.now a) c.requires.fits in
    fits_served true (base (type_of a)) (physical_view c.args.type_.physical_type) c.requires.written f.physical

pub returns-clause-ok : goal.returns-clause-ok
returns-clause-ok c =
    let a = boxed c.args.array.now in
    let p = physical_view c.args.type_.physical_type in
    let t = leaf_type (type_of a) in
    let e = page_encoding c.is_delta-with_deltas.result t p in
    let form : has_form c.args.encoding p ≡ true = sym c.has_form.ensures ∙ c.if-not-has_form.false in
    let is : encoding_view c.args.encoding ≡ Some e = subst (λ (b : Bool). encoding_view c.args.encoding ≡ Some (page_encoding b t p)) (sym c.is_delta-with_deltas.ensures) (encoding_is t p c.args.encoding (values_some a c.requires.values c.know.ensures) form) in
    each_ok c.spelled_page.result _ _ (λ page h. (e, is, h)) c.spelled_page.ensures.ok

pub returns-clause-form : goal.returns-clause-form
returns-clause-form c =
    let form : has_form c.args.encoding (physical_view c.args.type_.physical_type) ≡ true = sym c.has_form.ensures ∙ c.if-not-has_form.false in
    never (NotYetImplemented N4) _ (λ n. true≢false (sym form ∙ n)) (λ e. cc) c.spelled_page.result c.spelled_page.ensures.err

pub returns-clause-too_large : goal.returns-clause-too_large
returns-clause-too_large c =
    let form : has_form c.args.encoding (physical_view c.args.type_.physical_type) ≡ true = sym c.has_form.ensures ∙ c.if-not-has_form.false in
    comes_as (Overflow V3) _ _ (λ h. (form, h)) (λ h. h.1) c.spelled_page.result c.spelled_page.ensures.too_large
