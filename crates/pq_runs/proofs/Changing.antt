-- Numbers that differ from the one before them.
use Rattle.std.proofs.Common.{◌≡◌, ℕ, zero, suc, ◌+◌, ◌<◌, ◌≤◌, ◌==◌, cond, List, [], ◌∷◌, ◌++◌, length, take, drop, get_or, refl, ap, ◌∙◌, arith}
use Rattle.std.proofs.lemmas.List.{length-take, take_more, take-append-drop}
use Rattle.pq_runs.specs.Stretches.{stretches}
use Rattle.pq_runs.proofs.Short.{stretches-push}
use Rattle.pq_runs.proofs.Mixed.{stretches-append}

pub first_alone : (xs : List ℕ) → 1 ≤ length xs → 0 + 1 ≡ stretches (take (0 + 1) xs)
first_alone [] some = absurd (omega (arith, some))
first_alone (x ∷ xs) some = refl

pub one_more : (xs : List ℕ) (i changes one : ℕ) → i + 1 < length xs → one ≡ cond (get_or xs i 0 == get_or xs (i + 1) 0) 0 1 → changes + 1 ≡ stretches (take (i + 1) xs) → changes + one + 1 ≡ stretches (take (i + 1 + 1) xs)
one_more xs i changes one lt is e =
    let front : take (i + 1) xs ≡ take i xs ++ get_or xs i 0 ∷ [] = take_more xs i 0 (omega (arith, lt)) in
    let all : take (i + 1 + 1) xs ≡ (take i xs ++ get_or xs i 0 ∷ []) ++ get_or xs (i + 1) 0 ∷ [] = take_more xs (i + 1) 0 lt ∙ ap (λ (t : List ℕ). t ++ get_or xs (i + 1) 0 ∷ []) front in
    let grown : stretches (take (i + 1 + 1) xs) ≡ stretches (take i xs ++ get_or xs i 0 ∷ []) + cond (get_or xs i 0 == get_or xs (i + 1) 0) 0 1 = ap stretches all ∙ stretches-push (take i xs) (get_or xs i 0) (get_or xs (i + 1) 0) in
    omega (arith, e, is, grown, ap stretches front)

some-stretches : (xs : List ℕ) → 1 ≤ length xs → 1 ≤ stretches xs
some-stretches [] some = absurd (omega (arith, some))
some-stretches (x ∷ []) some = omega arith
some-stretches (x ∷ y ∷ ys) some = omega (arith, some-stretches (y ∷ ys) (omega arith))

parts-most : (xs ys : List ℕ) → 1 ≤ length xs → 1 ≤ length ys → stretches xs ≤ stretches (xs ++ ys)
parts-most xs ys some any = omega (arith, stretches-append xs ys, some-stretches ys any)

parts-last : (xs ys : List ℕ) → 1 ≤ length xs → stretches ys ≤ stretches (xs ++ ys)
parts-last xs ys some = omega (arith, stretches-append xs ys, some-stretches xs some)

take-whole : (n : ℕ) (xs : List ℕ) → length (drop n xs) ≡ 0 → take n xs ≡ xs
take-whole zero [] e = refl
take-whole zero (x ∷ xs) e = absurd (omega (arith, e))
take-whole (suc n) [] e = refl
take-whole (suc n) (x ∷ xs) e = ap (λ (t : List ℕ). x ∷ t) (take-whole n xs e)

-- the first numbers are in no more stretches than all
pub front-most : (n : ℕ) (xs : List ℕ) → 1 ≤ n → n ≤ length xs → stretches (take n xs) ≤ stretches xs
front-most n xs some le =
    most (length (drop n xs)) refl
  where
    most : (k : ℕ) → length (drop n xs) ≡ k → stretches (take n xs) ≤ stretches xs
    most zero e = omega (arith, ap stretches (take-whole n xs e))
    most (suc k) e =
        omega (arith, parts-most (take n xs) (drop n xs) (omega (arith, length-take n xs, some, le)) (omega (arith, e)), ap stretches (take-append-drop n xs))

-- nor are the last ones
pub back-most : (n : ℕ) (xs : List ℕ) → n ≤ length xs → stretches (drop n xs) ≤ stretches xs
back-most zero xs le = omega arith
back-most (suc n) xs le =
    omega (arith, parts-last (take (suc n) xs) (drop (suc n) xs) (omega (arith, length-take (suc n) xs, le)), ap stretches (take-append-drop (suc n) xs))
