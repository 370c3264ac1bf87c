-- When a column is one of values.
use Rattle.std.proofs.Common.{◌≡◌, ◌&&◌, Bool, List, false, not, refl, sym, true, true≢false}
use Rattle.columns_core.specs.Shapes.{base}
use Rattle.columns_slots.specs.Slots.{IsSound, type_of}
use Rattle.columns_slots.specs.Tree.{ArrayTree}
use Rattle.columns_slots.specs.Types.{is_null_type}
use Rattle.leaf_pages.proofs.Opened.{fits, fits_array}
use Rattle.leaf_pages.proofs.Values.{values_along}
use Rattle.leaf_pages.specs.Columns.{IsOfValues, column_along, is_in_pages}
use Rattle.leaf_pages.specs.PathLeaf.{FitsPath, are_values}
use Rattle.levels.specs.Nested.{parts_of}
use Rattle.levels.specs.declared.nested.Nested.{Nested}
use Rattle.pq_tree.specs.Physical.{Physical}
use Rattle.pq_tree.specs.TreeViews.{leaf_view}
use Rattle.pq_tree.specs.Views.{physical_view}
use Rattle.pq_tree.specs.declared.types.PrimitiveType.{PrimitiveType}
use Rattle.shredding.specs.Parts.{IsPath}
use Rattle.write_pages.proofs.PageTable.{fits_served, is_allowed}
use Rattle.write_values.specs.Served.{is_served}

parts : (n w s : Bool) → (not n && (w && s)) ≡ true → (n ≡ false) × (w ≡ true) × (s ≡ true)
parts false true true e = (refl, refl, refl)
parts false true false e = absurd (true≢false (sym e))
parts false false s e = absurd (true≢false (sym e))
parts true w s e = absurd (true≢false (sym e))

whole : (n w s : Bool) → n ≡ false → w ≡ true → s ≡ true → (not n && (w && s)) ≡ true
whole n w s a b c = rw (a, b, c) refl

-- pages have its values, under the physical type
pub are_told : (a : ArrayTree) (p : Physical) → are_values a p ≡ true → (is_null_type (base (type_of a)) ≡ false) × (is_in_pages a ≡ true) × (is_served (base (type_of a)) p ≡ true)
are_told a p e = parts (is_null_type (base (type_of a))) (is_in_pages a) (is_served (base (type_of a)) p) e

module _ (type_ : PrimitiveType) (nested : List Nested) (a : ArrayTree) where
  abbrev physical : Physical
  physical = physical_view type_.physical_type

  pub of_values : IsSound a → IsPath (parts_of nested) → FitsPath a (leaf_view type_) (parts_of nested) → are_values a physical ≡ true → IsOfValues (column_along type_ nested a)
  of_values s well f e =
      let told = are_told a physical e in
      record {
        well = well;
        fits = fits_array (column_along type_ nested a) (record {
          array = f.1;
          physical = is_allowed true (base (type_of a)) physical told.1 told.2;
          optional = f.0;
          reached = values_along a physical (parts_of nested) s told.2 told.0 well;
        });
        written = told.1;
        some = told.0;
      }

  pub path_fits : IsOfValues (column_along type_ nested a) → FitsPath a (leaf_view type_) (parts_of nested)
  path_fits v =
      let f = fits (column_along type_ nested a) v.fits in
      (f.optional, f.array)

  pub values_are : IsOfValues (column_along type_ nested a) → are_values a physical ≡ true
  values_are v =
      let f = fits (column_along type_ nested a) v.fits in
      whole (is_null_type (base (type_of a))) (is_in_pages a) (is_served (base (type_of a)) physical) v.some v.written (fits_served true (base (type_of a)) physical v.written f.physical)
