-- The set bits of a word, as a count of levels.
use Rattle.std.proofs.Common.{◌≡◌, ℕ, zero, suc, ◌+◌, ◌/◌, ◌%◌, ◌^◌, ◌<◌, ◌==◌, Bool, cond, count_by, List, [], ◌∷◌, map, length, arith, ap, sym, ◌∙◌}
use Rattle.std.proofs.Common.{count_ones}
use Rattle.std.proofs.lemmas.Nat.{ones_le_self}
use Rattle.std.proofs.lemmas.List.Sums.{sum_by-cons}
use lib.Count.{ones_step}
use Rattle.columns_core.specs.Bits.{word_bits}
use Rattle.read_state.proofs.Compared.{heads, tails, bit-of}

pub ones-count : (n w : ℕ) (f : ℕ → Bool) (xs : List ℕ) → w < 2 ^ n → length xs ≡ n → word_bits w n ≡ map f xs → count_ones w ≡ count_by f xs
ones-count zero w f [] h l e = omega (arith, ones_le_self w, h)
ones-count zero w f (x ∷ xs) h l e = absurd (omega (arith, l))
ones-count (suc n) w f [] h l e = absurd (omega (arith, l))
ones-count (suc n) w f (x ∷ xs) h l e =
    let here : (w % 2 == 1) ≡ f x = heads _ _ _ _ e in
    let rest : count_ones (w / 2) ≡ count_by f xs = ones-count n (w / 2) f xs (omega (arith, h)) (omega (arith, l)) (tails _ _ _ _ e) in
    let low : ◌≡◌ {A = ℕ} (cond (f x) 1 0) (w % 2) = ap (λ (b : Bool). cond b 1 0) (sym here) ∙ bit-of (w % 2) (omega arith) in
    ones_step w ∙ (ap (λ (k : ℕ). w % 2 + k) rest ∙ (ap (λ (k : ℕ). k + count_by f xs) (sym low) ∙ sym (sum_by-cons (λ y. cond (f y) 1 0) x xs)))
