-- The bytes of the plain spelling of values side by side (Parquet format, Encodings, "Plain").
use Rattle.std.specs.Prelude.{◌≡◌, ◌≢◌, ◌≤◌, ℕ, ◌+◌, List, ◌++◌, map, sum_by, refl}
use Rattle.std.proofs.Common.{arith, ap, ◌∙◌}
use Rattle.std.proofs.lemmas.List.{map-append}
use Rattle.std.proofs.lemmas.List.Sums.{sum_by-append}
use Rattle.shredding.specs.Slot.{Value}
use Rattle.pq_tree.specs.Physical.{Physical, boolean, int32, int64, int96, float, double, byte_array, fixed}
use Rattle.pq_files.specs.Layout.{plain_length, plain_size}
use Rattle.pq_files.specs.Room.{max_size}

pub plain_sum : (p : Physical) (vs : List Value) → p ≢ boolean → plain_length p vs ≡ sum_by (plain_size p) vs
plain_sum boolean vs n = absurd (n refl)
plain_sum int32 vs n = refl
plain_sum int64 vs n = refl
plain_sum int96 vs n = refl
plain_sum float vs n = refl
plain_sum double vs n = refl
plain_sum byte_array vs n = refl
plain_sum (fixed k) vs n = refl

pub plain-append : (p : Physical) (us vs : List Value) → p ≢ boolean → plain_length p (us ++ vs) ≡ plain_length p us + plain_length p vs
plain-append p us vs n = rw (plain_sum p (us ++ vs) n, plain_sum p us n, plain_sum p vs n) (sum_by-append (plain_size p) us vs)

pub plain-places : (p : Physical) (stored : ℕ → Value) (xs ys : List ℕ) → p ≢ boolean → plain_length p (map stored (xs ++ ys)) ≡ plain_length p (map stored xs) + plain_length p (map stored ys)
plain-places p stored xs ys n = ap (plain_length p) (map-append stored xs ys) ∙ plain-append p (map stored xs) (map stored ys) n

-- where all fit into a page, those in front do, and those behind
pub front_fits : (p : Physical) (stored : ℕ → Value) (xs ys : List ℕ) → p ≢ boolean → plain_length p (map stored (xs ++ ys)) ≤ max_size → plain_length p (map stored xs) ≤ max_size
front_fits p stored xs ys n h = omega (arith, h, plain-places p stored xs ys n)

pub back_fits : (p : Physical) (stored : ℕ → Value) (xs ys : List ℕ) → p ≢ boolean → plain_length p (map stored (xs ++ ys)) ≤ max_size → plain_length p (map stored ys) ≤ max_size
back_fits p stored xs ys n h = omega (arith, h, plain-places p stored xs ys n)
