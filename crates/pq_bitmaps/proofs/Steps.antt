-- What is said of bits, step by step.
use Rattle.std.proofs.Common.{◌≡◌, ℕ, zero, suc, ◌+◌, ◌-◌, ◌≤◌, Bool, true, false, List, [], ◌∷◌, ◌++◌, length, replicate, refl, sym, ap, ◌∙◌, arith}
use Rattle.std.proofs.lemmas.List.{replicate-append-replicate}
use Rattle.columns_core.specs.Bits.{bits_from}
use Rattle.columns_core.proofs.Packed.{bits_split}
use Rattle.pq_bitmaps.specs.Selected.{set_bits}

pub bits_cut : (bs : List ℕ) (at n k : ℕ) → k ≤ n → bits_from bs at n ≡ bits_from bs at k ++ bits_from bs (at + k) (n - k)
bits_cut bs at n k le = let e : n ≡ k + (n - k) = omega (arith, le) in ap (bits_from bs at) e ∙ bits_split bs at k (n - k)

pub copies_cut : (n k : ℕ) (b : Bool) → k ≤ n → replicate n b ≡ replicate k b ++ replicate (n - k) b
copies_cut n k b le = let e : k + (n - k) ≡ n = omega (arith, le) in sym (replicate-append-replicate k (n - k) b ∙ ap (λ (j : ℕ). replicate j b) e)

-- ---- set bits

pub set_fits : (bs : List Bool) → set_bits bs ≤ length bs
set_fits [] = omega arith
set_fits (true ∷ bs) = omega (arith, set_fits bs)
set_fits (false ∷ bs) = omega (arith, set_fits bs)

pub set_copies : (n : ℕ) → set_bits (replicate n true) ≡ n
set_copies zero = refl
set_copies (suc n) = omega (arith, set_copies n)

pub unset_copies : (n : ℕ) → set_bits (replicate n false) ≡ 0
unset_copies zero = refl
unset_copies (suc n) = omega (arith, unset_copies n)

pub set_room : (set : ℕ) (now rest whole : List Bool) (b : Bool) → b ≡ true → now ≡ b ∷ rest → set + set_bits now ≡ set_bits whole → set + 1 ≤ length whole
set_room set now rest whole b is e h =
    let one : set_bits now ≡ 1 + set_bits rest = ap set_bits e ∙ ap (λ (x : Bool). set_bits (x ∷ rest)) is in
    omega (arith, one, h, set_fits whole)
