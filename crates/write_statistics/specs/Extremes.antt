-- The least and the greatest of the present values of an array (Parquet format, parquet.thrift: Statistics; Arrow columnar format, "Validity bitmaps").
use Rattle.std.specs.Prelude.{◌≡◌, refl, ℕ, ℤ, ◌≤ℤ◌, List, [], ◌∷◌, All, Contains, Bool, true, false, Option, Some, None}
use Rattle.columns_slots.specs.Tree.{Mask}
use Rattle.pq_files.specs.Statistics.{Bounds}

-- the values where the bits are true
abbrev pub kept : {A : Type 0} → List Bool → List A → List A
kept (true ∷ bs) (x ∷ xs) = x ∷ kept bs xs
kept (false ∷ bs) (x ∷ xs) = kept bs xs
kept _ _ = []

-- the values of positions that are not null
abbrev pub present : {A : Type 0} → Mask → List A → List A
present None xs = xs
present (Some bits) xs = kept bits xs

worked : present {A = ℕ} (Some (true ∷ false ∷ true ∷ [])) (4 ∷ 5 ∷ 6 ∷ []) ≡ 4 ∷ 6 ∷ []
worked = refl

-- one of the values, which none is below
pub record IsLeast {A : Type 0} (ordinal : A → ℤ) (xs : List A) (low : A) : Type 0 where
  pub among : Contains xs low
  pub least : All (λ x. ordinal low ≤ℤ ordinal x) xs

-- one of the values, which none is above
pub record IsGreatest {A : Type 0} (ordinal : A → ℤ) (xs : List A) (high : A) : Type 0 where
  pub among : Contains xs high
  pub greatest : All (λ x. ordinal x ≤ℤ ordinal high) xs

-- the least and the greatest, exactly where there is a value
abbrev pub AreExtremes : {A : Type 0} → (A → ℤ) → List A → Option A → Option A → Type 0
AreExtremes ordinal [] None None = Unit {0}
AreExtremes ordinal (x ∷ xs) (Some low) (Some high) = IsLeast ordinal (x ∷ xs) low × IsGreatest ordinal (x ∷ xs) high
AreExtremes ordinal _ _ _ = ⊥

-- the plain texts of a minimum and a maximum, where both are there
abbrev pub bounds_of : {P : Type 0} → (P → List ℕ) → Option P → Option P → Option Bounds
bounds_of text (Some low) (Some high) = Some (record { least = text low; greatest = text high })
bounds_of text _ _ = None
