-- Words of equal bits.
use Rattle.std.proofs.Common.{◌≡◌, ℕ, zero, suc, ◌-◌, ◌/◌, ◌%◌, ◌^◌, ◌≤◌, ◌<◌, Bool, true, false, List, ◌∷◌, replicate, refl, arith, ap}
use Rattle.columns_core.specs.Bits.{word_bits}

some : (m : ℕ) → 0 < 2 ^ m
some zero = omega arith
some (suc m) = omega (arith, some m)

pub ones : (n m : ℕ) → n ≤ m → word_bits (2 ^ m - 1) n ≡ replicate n true
ones zero m h = refl
ones (suc n) zero h = absurd (omega (arith, h))
ones (suc n) (suc m) h =
    let odd : (2 ^ suc m - 1) % 2 ≡ 1 = omega (arith, some m) in
    let half : (2 ^ suc m - 1) / 2 ≡ 2 ^ m - 1 = omega (arith, some m) in
    rw (odd, half) (ap (λ (t : List Bool). true ∷ t) (ones n m (omega (arith, h))))

pub zeros : (n : ℕ) → word_bits 0 n ≡ replicate n false
zeros zero = refl
zeros (suc n) = ap (λ (t : List Bool). false ∷ t) (zeros n)
