-- Keys, masked and read.
use Rattle.std.proofs.Common.{◌≡◌, ◌↔◌, ℕ, zero, suc, ℤ, pos, ◌+◌, ◌<◌, Bool, IsTrue, true, false, true≢false, List, [], ◌∷◌, length, map, get_or, Option, Some, None, ◌⊎◌, inl, inr, slice_index_or, refl, ap, sym, subst, ◌∙◌, arith}
use Rattle.std.proofs.lemmas.List.{get_or_default, map-id}
use Rattle.std.proofs.Math.Nat.{eq-or-lt_of_le}
use Rattle.shredding.specs.Parts.{keeps, MaskFits}
use Rattle.columns_core.specs.Rising.{whole, IsWhole}
use Rattle.columns_array.specs.Keys.{IsKey}
use Rattle.columns_slots.specs.Tree.{Mask}
use Rattle.columns_slots.specs.Slots.{AreKeys, entry_at}

pub mask_long : (bits : List Bool) (n i : ℕ) → MaskFits (Some bits) n → i < n → i < length bits
mask_long bits n i f h = omega (arith, f, h)

pub kept_bit : (bits : List Bool) (i : ℕ) → i < length bits → get_or bits i false ≡ keeps (Some bits) i
kept_bit (b ∷ bits) zero h = refl
kept_bit (b ∷ bits) (suc i) h = kept_bit bits i (omega (arith, h))
kept_bit [] i h = absurd (omega (arith, h))

pub at_mapped : {A : Type 0} (f : A → ℤ) (xs : List A) (i : ℕ) (d : A) → i < length xs → get_or (map f xs) i (pos 0) ≡ f (get_or xs i d)
at_mapped f [] i d h = absurd (omega (arith, h))
at_mapped f (x ∷ xs) zero d h = refl
at_mapped f (x ∷ xs) (suc i) d h = at_mapped f xs i d (omega (arith, h))

pub entry_mapped : {A : Type 0} (f : A → ℤ) (xs : List A) (i : ℕ) (d : A) → i < length xs → entry_at (map f xs) i ≡ whole (f (get_or xs i d))
entry_mapped f xs i d h = ap whole (at_mapped f xs i d h)

pub signed_keys : (m : Mask) (ks : List ℤ) (n : ℕ) → AreKeys m (map (λ (k : ℤ). k) ks) n ↔ AreKeys m ks n
signed_keys m ks n = rw (map-id ks) (λ h. h, λ h. h)

-- the keys before position i number entries
abbrev pub AreKeysTo : ℕ → Mask → List ℤ → ℕ → Type 0
AreKeysTo i m ks n = (j : ℕ) → j < i → keeps m j ≡ true → IsWhole (slice_index_or ks j (pos 0)) × (entry_at ks j < n)

pub keys_none : (m : Mask) (ks : List ℤ) (n : ℕ) → AreKeysTo 0 m ks n
keys_none m ks n j h e = absurd (omega (arith, h))

last_or : (j i : ℕ) → j < i + 1 → (j ≡ i) ⊎ (j < i)
last_or j i h = eq-or-lt_of_le (omega (arith, h))

pub keys_more : (m : Mask) (ks : List ℤ) (n i : ℕ) → AreKeysTo i m ks n → IsKey m ks n i → AreKeysTo (i + 1) m ks n
keys_more m ks n i h s j l e = by (last_or j i l)
  where
    by : (j ≡ i) ⊎ (j < i) → IsWhole (slice_index_or ks j (pos 0)) × (entry_at ks j < n)
    by (inl p) = subst (λ k. IsWhole (slice_index_or ks k (pos 0)) × (entry_at ks k < n)) (sym p) (s (subst (λ k. keeps m k ≡ true) p e))
    by (inr q) = h j q e

pub fits_mapped : {A : Type 0} (f : A → ℤ) (xs : List A) (i : ℕ) (x : A) (m : Mask) (n : ℕ) (r : Bool) → i < length xs → x ≡ get_or xs i x → keeps m i ≡ true
    → (IsTrue r ↔ (IsWhole (f x) × (whole (f x) < n))) → IsTrue r ↔ IsKey m (map f xs) n i
fits_mapped f xs i x m n r h e k both =
    let at : slice_index_or (map f xs) i (pos 0) ≡ f x = at_mapped f xs i x h ∙ sym (ap f e) in
    rw at (λ t u. both.0 t, λ g. both.1 (g k))

pub fits_null : (m : Mask) (ks : List ℤ) (n i : ℕ) → keeps m i ≡ false → IsKey m ks n i
fits_null m ks n i e u = absurd (true≢false (sym u ∙ e))

pub signed_map : (ks : List ℤ) → ks ≡ map (λ (k : ℤ). k) ks
signed_map ks = sym (map-id ks)
