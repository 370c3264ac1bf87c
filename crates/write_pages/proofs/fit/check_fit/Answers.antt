use Rattle.std.proofs.Common.{◌∙◌, inl, inr, refl, rules, sym}
use Rattle.columns_array.specs.Boxed.{boxed}
use Rattle.columns_core.specs.Shapes.{base}
use Rattle.columns_slots.specs.Slots.{type_of}
use Rattle.levels.specs.Nested.{parts_of}
use Rattle.nested_paths.specs.PathLeaf.{is_leaf_optional}
use Rattle.nested_paths.specs.Seen.{leaf_slot}
use Rattle.pq_tree.specs.Views.{physical_view}
use Rattle.write_pages.specs.Fits.{is_flat_path}
use Rattle.write_pages.proofs.AlongPath.{rows_along}
use Rattle.write_pages.proofs.PageTable.{is_allowed, is_refused, values_here}
use Rattle.write_pages.proofs.fit.check_fit.Goals as goal

pub returns-then-not-is_served-clause-err : goal.returns-then-not-is_served-clause-err
returns-then-not-is_served-clause-err c =
    inr (refl, λ h. is_refused (is_flat_path (parts_of c.args.nested.now)) (base (type_of (boxed c.args.array.now))) (physical_view c.args.type_.now.physical_type) c.requires (search rules) h.1.physical)

pub returns-then-not-is_null-clause-fits : goal.returns-then-not-is_null-clause-fits
returns-then-not-is_null-clause-fits c =
    let a = boxed c.args.array.now in
    let p = physical_view c.args.type_.now.physical_type in
    let parts = parts_of c.args.nested.now in
    record {
      array = search rules;
      physical = is_allowed (is_flat_path parts) (base (type_of a)) p c.requires (search rules);
      optional = search rules;
      reached = rows_along (leaf_slot a) parts (search rules) (values_here a p (is_leaf_optional parts) c.know.ensures (search rules) (sym c.is_null.ensures ∙ c.if-not-is_null.true));
    }

pub returns-in-Ok-clause-fits : goal.returns-in-Ok-clause-fits
returns-in-Ok-clause-fits c =
    let a = boxed c.args.array.now in
    let p = physical_view c.args.type_.now.physical_type in
    let parts = parts_of c.args.nested.now in
    record {
      array = search rules;
      physical = is_allowed (is_flat_path parts) (base (type_of a)) p c.requires (search rules);
      optional = search rules;
      reached = c.in-Ok.ensures.ok;
    }

pub returns-in-Err-clause-err : goal.returns-in-Err-clause-err
returns-in-Err-clause-err c = elim c.in-Err.ensures.err [ inl m ↦ inl m | inr n ↦ inr (n.0, λ h. n.1 h.1.reached) ]
