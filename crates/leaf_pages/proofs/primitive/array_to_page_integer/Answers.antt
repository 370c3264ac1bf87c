use Rattle.std.proofs.Common.{◌≡◌, ◌∙◌, ap, false, subst, true}
use Rattle.columns_base.specs.declared.error.Error.TheVariants.{NotYetImplemented}
use Rattle.columns_base.specs.declared.error.N.TheVariants.{N4}
use Rattle.columns_slots.specs.Tree.{ArrayTree}
use Rattle.pq_tree.specs.Reads.{ComesWhere}
use Rattle.pq_tree.specs.Views.{physical_view}
use Rattle.leaf_pages.specs.Columns.{is_in_pages}
use Rattle.leaf_pages.specs.Forms.{has_form}
use Rattle.leaf_pages.proofs.primitive.array_to_page_integer.Goals as goal

pub returns-clause-form : goal.returns-clause-form
returns-clause-form g c =
    subst (λ (a : ArrayTree). ComesWhere (NotYetImplemented N4) ((is_in_pages a ≡ true) × (has_form c.args.encoding (physical_view c.args.type_.physical_type) ≡ false)) c.checked_page_in.result)
    (c.into_box-array.ensures ∙ ap g.T.IntoBox.tree c.in_ok-clone.ensures.ok)
    c.checked_page_in.ensures.form
