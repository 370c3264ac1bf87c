-- Pairs that repeat in no list.
use Rattle.std.proofs.Common.{◌≡◌, ℕ, zero, suc, ◌-◌, ◌^◌, ◌<◌, ◌≤◌, true, true≢false, inl, inr, Bool, nat_le, min, bit_or, List, [], ◌∷◌, map, length, replicate, get_or, refl, arith, ap, sym, ◌∙◌}
use Rattle.std.proofs.lemmas.Bool.Decides.{leb_tells}
use Rattle.std.proofs.lemmas.Nat.{le_or_l, le_or_r}
use lib.Lanes.{fold_l}
use Rattle.columns_core.specs.Bits.{word_bits}
use Rattle.columns_core.proofs.Words.{ones_word}
use Rattle.read_state.proofs.Compared.{heads, tails}

or-grows : (b : ℕ) (xs : List ℕ) → b ≤ fold_l (λ s x. bit_or s x) b xs
or-grows b [] = omega arith
or-grows b (x ∷ xs) = omega (arith, le_or_l b x, or-grows (bit_or b x) xs)

pub or-covers : (b : ℕ) (xs : List ℕ) (k : ℕ) → k < length xs → get_or xs k 0 ≤ fold_l (λ s x. bit_or s x) b xs
or-covers b [] k h = absurd (omega (arith, h))
or-covers b (x ∷ xs) zero h = omega (arith, le_or_r b x, or-grows (bit_or b x) xs)
or-covers b (x ∷ xs) (suc k) h = or-covers (bit_or b x) xs k (omega (arith, h))

all-outer : (n : ℕ) (rs : List ℕ) → length rs ≡ n → ((k : ℕ) → k < length rs → get_or rs k 0 ≤ 0) → replicate n true ≡ map (λ r. nat_le r 0) rs
all-outer zero [] l h = refl
all-outer (suc n) [] l h = absurd (omega (arith, l))
all-outer zero (r ∷ rs) l h = absurd (omega (arith, l))
all-outer (suc n) (r ∷ rs) l h =
    let none : r ≡ 0 = omega (arith, h 0 (omega arith)) in
    rw none (ap (λ (bs : List Bool). true ∷ bs) (all-outer n rs (omega (arith, l)) (λ k m. h (suc k) (omega (arith, m)))))

-- a word of 64 set bits beside levels that are all 0
pub outer-all : (rs : List ℕ) → length rs ≡ 64 → ((k : ℕ) → k < length rs → get_or rs k 0 ≤ 0) → word_bits (2 ^ 64 - 1) 64 ≡ map (λ r. nat_le r 0) rs
outer-all rs l h = ones_word 64 (omega arith) ∙ all-outer 64 rs l h

zeros : (n : ℕ) (rs : List ℕ) → length rs ≡ n → map (λ r. nat_le r 0) rs ≡ replicate n true → replicate n 0 ≡ map (λ d. min d 255) rs
zeros zero [] l e = refl
zeros (suc n) [] l e = absurd (omega (arith, l))
zeros zero (r ∷ rs) l e = absurd (omega (arith, l))
zeros (suc n) (r ∷ rs) l e =
    let none : r ≡ 0 = elim (leb_tells r 0) [ inl y ↦ omega (arith, y.1) | inr y ↦ absurd (true≢false (sym (heads _ _ _ _ e) ∙ y.0)) ] in
    rw none (ap (λ (ds : List ℕ). 0 ∷ ds) (zeros n rs (omega (arith, l)) (tails _ _ _ _ e)))

pub outer-zeros : (word : ℕ) (rs : List ℕ) → length rs ≡ 64 → word ≡ 2 ^ 64 - 1 → word_bits word 64 ≡ map (λ r. nat_le r 0) rs → replicate 64 0 ≡ map (λ d. min d 255) rs
outer-zeros word rs l e bits = zeros 64 rs l (sym bits ∙ (ap (λ (k : ℕ). word_bits k 64) e ∙ ones_word 64 (omega arith)))
