-- The order of byte strings.
use Rattle.std.proofs.Common.{Ordering, Less, Equal, Greater, ◌≡◌, ◌≢◌, ℕ, ◌<◌, List, [], ◌∷◌, drop, slice_index_or, refl, sym, ap, inl, inr, arith}
use Rattle.std.specs.Ordering.{MatchOrdering, nat_cmp, ordering_then}
use Rattle.std.specs.Cmp.Lexicographic.{slice_cmp}
use Rattle.std.specs.Cmp.{ranks}
use Rattle.pq_files.specs.Statistics.{IsBefore}

-- what each answer says of two byte strings
abbrev Tells : Ordering → List ℕ → List ℕ → Type 0
Tells r a b = MatchOrdering r (IsBefore a b × (a ≢ b)) (a ≡ b) (IsBefore b a × (a ≢ b))

first_same : (x y : ℕ) (xs ys : List ℕ) → (x ∷ xs) ≡ (y ∷ ys) → x ≡ y
first_same x y xs ys e = ap (λ l. slice_index_or l 0 0) e

rest_same : (x y : ℕ) (xs ys : List ℕ) → (x ∷ xs) ≡ (y ∷ ys) → xs ≡ ys
rest_same x y xs ys e = ap (drop 1) e

step : (o r : Ordering) (x y : ℕ) (xs ys : List ℕ) → MatchOrdering o (x < y) (x ≡ y) (y < x) → Tells r xs ys → Tells (ordering_then o r) (x ∷ xs) (y ∷ ys)
step Less r x y xs ys h k = (inl h, λ e. absurd (omega (arith, h, first_same x y xs ys e)))
step Greater r x y xs ys h k = (inl h, λ e. absurd (omega (arith, h, first_same x y xs ys e)))
step Equal Less x y xs ys h k = (inr (h, k.0), λ e. k.1 (rest_same x y xs ys e))
step Equal Equal x y xs ys h k = rw (h, k) refl
step Equal Greater x y xs ys h k = (inr (sym h, k.0), λ e. k.1 (rest_same x y xs ys e))

pub bytes_told : (a b : List ℕ) → MatchOrdering (slice_cmp nat_cmp a b) (IsBefore a b × (a ≢ b)) (a ≡ b) (IsBefore b a × (a ≢ b))
bytes_told [] [] = refl
bytes_told [] (y ∷ ys) = (tt, λ e. cc)
bytes_told (x ∷ xs) [] = (tt, λ e. cc)
bytes_told (x ∷ xs) (y ∷ ys) = step (nat_cmp x y) (slice_cmp nat_cmp xs ys) x y xs ys (ranks x y) (bytes_told xs ys)
