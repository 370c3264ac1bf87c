-- When a page of a column that is no more than its leaf is refused.
use Rattle.std.proofs.Common.{◌≡◌, ◌∙◌, Bool, ap, false, refl, sym, true, true≢false}
use Rattle.columns_core.specs.Shapes.{base}
use Rattle.columns_slots.specs.Slots.{type_of}
use Rattle.leaf_pages.specs.Columns.{PathColumn, column_physical, is_in_pages}
use Rattle.leaf_pages.specs.Forms.{is_flat_form}
use Rattle.pq_tree.specs.declared.types.Encoding.{Encoding as RustEncoding}
use Rattle.write_pages.specs.Fits.{is_flat_path, is_written_along, is_written_in}
use Rattle.write_pages.specs.Refused.{IsUnwritten}

module _ (c : PathColumn) (flat : is_flat_path c.parts ≡ true) (name : RustEncoding) where
  abbrev Unwritten : Type 0
  Unwritten = IsUnwritten c.parts (type_of c.array) (column_physical c) name

  pub no_form : Unwritten → is_flat_form name c ≡ false
  no_form h = h.1

  pub unwritten : is_flat_form name c ≡ false → Unwritten
  unwritten h = (flat, h)

  pub form : ¬ Unwritten → is_flat_form name c ≡ true
  form n = by (is_flat_form name c) refl
    where
      by : (b : Bool) → is_flat_form name c ≡ b → b ≡ true
      by true e = refl
      by false e = absurd (n (flat, e))

  pub written : is_flat_form name c ≡ true → ¬ Unwritten
  written e = λ h. true≢false (sym e ∙ h.1)

  pub same_pages : is_written_along c.parts c.array ≡ is_in_pages c.array
  same_pages = ap (λ (b : Bool). is_written_in b (base (type_of c.array))) flat
