-- What no level is above.
use Rattle.std.proofs.Common.{◌≡◌, ◌==◌, ℕ, zero, suc, ◌-◌, ◌^◌, ◌<◌, ◌≤◌, true, true≢false, inl, inr, nat_eq, nat_le, bit_or, List, [], ◌∷◌, map, length, get_or, arith, ap, sym, ◌∙◌}
use Rattle.std.specs.Int.{bit_at}
use Rattle.std.proofs.lemmas.Bool.Decides.{leb_tells, eqb_tells}
use Rattle.std.proofs.lemmas.Nat.{le_or_l, le_or_r}
use Rattle.std.proofs.lemmas.Nat.Bits.{bit_at_ones}
use lib.Lanes.{fold_l}
use Rattle.columns_core.specs.Bits.{word_bits}
use Rattle.read_state.proofs.Compared.{word-tells}

or-grows : (b : ℕ) (xs : List ℕ) → b ≤ fold_l (λ s x. bit_or s x) b xs
or-grows b [] = omega arith
or-grows b (x ∷ xs) = omega (arith, le_or_l b x, or-grows (bit_or b x) xs)

pub or-covers : (b : ℕ) (xs : List ℕ) (k : ℕ) → k < length xs → get_or xs k 0 ≤ fold_l (λ s x. bit_or s x) b xs
or-covers b [] k h = absurd (omega (arith, h))
or-covers b (x ∷ xs) zero h = omega (arith, le_or_r b x, or-grows (bit_or b x) xs)
or-covers b (x ∷ xs) (suc k) h = or-covers (bit_or b x) xs k (omega (arith, h))

-- where all bits of a word are set
pub ones-set : (word k : ℕ) → nat_eq word (2 ^ 64 - 1) ≡ true → k < 64 → (bit_at word k == 1) ≡ true
ones-set word k e h =
    let all : word ≡ 2 ^ 64 - 1 = elim (eqb_tells word (2 ^ 64 - 1)) [ inl x ↦ x.1 | inr x ↦ absurd (true≢false (sym e ∙ x.0)) ] in
    ap (λ (v : ℕ). bit_at v k == 1) all ∙ ap (λ (b : ℕ). b == 1) (bit_at_ones 64 k h)

pub all-to : (levels : List ℕ) (max word k : ℕ) → length levels ≡ 64 → word_bits word 64 ≡ map (λ d. nat_le d max) levels → nat_eq word (2 ^ 64 - 1) ≡ true → k < 64 → get_or levels k 0 ≤ max
all-to levels max word k l w e h =
    elim (leb_tells (get_or levels k 0) max) [ inl y ↦ y.1 | inr y ↦ absurd (true≢false (sym (sym (word-tells (λ d. nat_le d max) levels 64 word k l h w) ∙ ones-set word k e h) ∙ y.0)) ]
