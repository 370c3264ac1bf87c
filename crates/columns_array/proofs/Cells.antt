-- What one position of an array holds.
use Rattle.std.proofs.Common.{◌≡◌, ℕ, zero, suc, ◌+◌, ◌-◌, ◌*◌, ◌/◌, ◌≤◌, ◌<◌, List, [], ◌∷◌, length, map, take, drop, get_or, zero-mul, refl, sym, arith}
use Rattle.std.proofs.Math.Nat.{add-mul}
use Rattle.std.proofs.lemmas.Nat.{mul-le}
use Rattle.std.proofs.lemmas.List.{drop-drop}
use Rattle.shredding.specs.Slot.{Value, bytes}
use Rattle.columns_slots.specs.Slots.{leaf_at, IsPlaces}
use Rattle.columns_slots.specs.Bytes.{pieces, pieces_values, chunks, chunks_values}
use Rattle.columns_slots.proofs.Strings.{pieces_len, chunks_len}
use Rattle.columns_array.proofs.Know.{whole_fits, strings_len, widths_len}

pub leaf_mapped : {A : Type 0} (f : A → Value) (xs : List A) (i : ℕ) (d : A) → i < length xs → leaf_at (map f xs) i ≡ f (get_or xs i d)
leaf_mapped f [] i d h = absurd (omega (arith, h))
leaf_mapped f (x ∷ xs) zero d h = refl
leaf_mapped f (x ∷ xs) (suc i) d h = leaf_mapped f xs i d (omega (arith, h))

pub piece_mapped : (os bs : List ℕ) (i : ℕ) (d : List ℕ) → i < length os - 1 → leaf_at (pieces_values os bs) i ≡ bytes (get_or (pieces os bs) i d)
piece_mapped os bs i d h = leaf_mapped bytes (pieces os bs) i d (omega (arith, h, pieces_len os bs))

pub chunks_at : (w n i : ℕ) (bs d : List ℕ) → i < n → get_or (chunks w n bs) i d ≡ take w (drop (i * w) bs)
chunks_at w zero i bs d h = absurd (omega (arith, h))
chunks_at w (suc n) zero bs d h = rw (zero-mul w) refl
chunks_at w (suc n) (suc i) bs d h =
    let far : suc i * w ≡ w + i * w = omega (arith, add-mul 1 i w) in
    rw (far, sym (drop-drop (i * w) w bs)) (chunks_at w n i (drop w bs) d (omega (arith, h)))

pub chunk_mapped : (w n i : ℕ) (bs d : List ℕ) → i < n → leaf_at (chunks_values w n bs) i ≡ bytes (get_or (chunks w n bs) i d)
chunk_mapped w n i bs d h = leaf_mapped bytes (chunks w n bs) i d (omega (arith, h, chunks_len w n bs))

pub strings_under : (os bs : List ℕ) (i : ℕ) → i < length (pieces_values os bs) → i < length os - 1
strings_under os bs i h = omega (arith, h, strings_len os bs)

pub widths_under : (w n : ℕ) (bs : List ℕ) (i : ℕ) → i < length (chunks_values w n bs) → i < n
widths_under w n bs i h = omega (arith, h, widths_len w n bs)

-- the string at a position lies within the bytes
pub chunk_within : (w k i : ℕ) → i < k / w → i * w + w ≤ k
chunk_within w k i h = omega (arith, add-mul i 1 w, mul-le (i + 1) w (k / w) w (omega (arith, h)) (omega arith), whole_fits w k)

-- ---- places of items
pub some_places : (os : List ℕ) (u i : ℕ) → IsPlaces os u → i < length os - 1 → i + 1 < length os
some_places os u i p h = omega (arith, h)

pub list_within : (n w i k : ℕ) → k ≡ n * w → i < n → i * w + w ≤ k
list_within n w i k e h = omega (arith, e, add-mul i 1 w, mul-le (i + 1) w n w (omega (arith, h)) (omega arith))
