-- Masks that are the same, word by word.
use Rattle.std.proofs.Common.{◌≡◌, ℕ, suc, ◌+◌, ◌-◌, ◌<◌, ◌≤◌, ◌==◌, Bool, false, inl, inr, List, [], ◌∷◌, length, ap, refl, sym, subst, ◌∙◌, arith}
use Rattle.std.specs.Prelude.{slice_index_or}
use Rattle.std.specs.Int.{bit_at}
use Rattle.std.proofs.lemmas.Bool.{cases_lt}

-- the same up to a place
abbrev pub AreSame : List Bool → List Bool → ℕ → Type 0
AreSame xs ys place = (i : ℕ) → i < place → slice_index_or xs i false ≡ slice_index_or ys i false

pub same-lists : (xs ys : List Bool) → length xs ≡ length ys → AreSame xs ys (length xs) → xs ≡ ys
same-lists [] [] e h = refl
same-lists [] (y ∷ ys) e h = absurd (omega (arith, e))
same-lists (x ∷ xs) [] e h = absurd (omega (arith, e))
same-lists (x ∷ xs) (y ∷ ys) e h =
    let first : x ≡ y = h 0 (omega arith) in
    let rest = same-lists xs ys (omega (arith, e)) (λ i k. h (suc i) (omega (arith, k))) in
    cc

-- a word more that is the same
pub words-more : (xs ys : List Bool) (place count word other : ℕ) → ((i : ℕ) → i < count → (bit_at word i == 1) ≡ slice_index_or xs (place + i) false) → ((i : ℕ) → i < count → (bit_at other i == 1) ≡ slice_index_or ys (place + i) false) → word ≡ other → AreSame xs ys place → AreSame xs ys (place + count)
words-more xs ys place count word other these those same before i h = elim (cases_lt i place) [
  | inl k ↦ before i k
  | inr k ↦
      let j : ℕ = i - place in
      let at : place + j ≡ i = omega (arith, k) in
      let few : j < count = omega (arith, h, k) in
      let both : slice_index_or xs (place + j) false ≡ slice_index_or ys (place + j) false = sym (these j few) ∙ (ap (λ (n : ℕ). bit_at n j == 1) same ∙ those j few) in
      subst (λ (n : ℕ). slice_index_or xs n false ≡ slice_index_or ys n false) at both
]
