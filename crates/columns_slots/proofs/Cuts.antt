-- Cuts of lists.
use Rattle.std.proofs.Common.{◌≡◌, ℕ, zero, suc, ◌+◌, ◌≤◌, List, [], ◌∷◌, map, take, drop, zero-add, refl, ap, sym, ◌∙◌, arith}
use Rattle.std.proofs.lemmas.List.{take-map, drop-map}
use Rattle.std.proofs.Math.Seq.{drop-nil}

pub take_take : {A : Type 0} (xs : List A) (m n : ℕ) → m ≤ n → take m (take n xs) ≡ take m xs
take_take xs zero n h = refl
take_take xs (suc m) zero h = absurd (omega arith)
take_take [] (suc m) (suc n) h = refl
take_take (x ∷ xs) (suc m) (suc n) h = ap (λ r. x ∷ r) (take_take xs m n (omega arith))

front_cut : {A : Type 0} (xs : List A) (m o n : ℕ) → o + n ≤ m → take n (drop o (take m xs)) ≡ take n (drop o xs)
front_cut xs m zero n h = take_take xs n m (omega arith)
front_cut xs zero (suc o) n h = absurd (omega arith)
front_cut [] (suc m) (suc o) n h = refl
front_cut (x ∷ xs) (suc m) (suc o) n h = front_cut xs m o n (omega arith)

one_on : {A : Type 0} (x : A) (xs : List A) (j k n : ℕ) → k ≡ suc j → take n (drop j xs) ≡ take n (drop k (x ∷ xs))
one_on x xs j k n e = rw e refl

-- a cut of a cut
pub cut_cut : {A : Type 0} (xs : List A) (a m o n : ℕ) → o + n ≤ m → take n (drop o (take m (drop a xs))) ≡ take n (drop (a + o) xs)
cut_cut xs zero m o n h = front_cut xs m o n h ∙ rw (zero-add o) refl
cut_cut [] (suc a) m o n h = front_cut [] m o n h ∙ rw (drop-nil o, drop-nil (suc a + o)) refl
cut_cut (x ∷ xs) (suc a) m o n h = cut_cut xs a m o n h ∙ one_on x xs (a + o) (suc a + o) n (omega arith)

pub map_cut : {A B : Type 0} (f : A → B) (xs : List A) (o n : ℕ) → map f (take n (drop o xs)) ≡ take n (drop o (map f xs))
map_cut f xs o n = sym (take-map f n (drop o xs)) ∙ ap (λ r. take n r) (sym (drop-map f o xs))
