-- Present items as they are counted.
use Rattle.std.specs.Prelude.{◌≡◌, ℤ, List, length}
use Rattle.sample_rows.specs.Present.{Items, total}
use Rattle.sample_rows.specs.declared.totals.Totals.{Totals}

abbrev pub totals_view : Totals → Items
totals_view t = record { count = t.count; sum = t.sum }

-- they are those of these numbers
pub record AreOf (t : Totals) (zs : List ℤ) : Type 0 where
  pub counted : t.count ≡ length zs
  pub added : t.sum ≡ total zs
