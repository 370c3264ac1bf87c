-- Levels in a byte each.
use Rattle.std.proofs.Common.{◌≡◌, ℕ, suc, ◌-◌, ◌^◌, ◌<◌, Bool, true, false, inl, inr, cond, ltb, min, w32, List, [], ◌∷◌, map, length, replicate, refl, arith, ap, sym, ◌∙◌}
use Rattle.std.proofs.lemmas.Bool.Decides.{leb_tells}
use lib.Lanes.{zip2, top, sel_l, Each1}
use mir.Val.{bits, hbits}
use Rattle.std.proofs.lemmas.Simd.{tops_compared}

low : (x : ℕ) → cond (ltb x 255) x 255 ≡ min x 255
low x = elim (leb_tells (suc x) 255) [
  | inl h ↦ let less : ltb x 255 ≡ true = h.0 in rw less (omega (arith, h.1))
  | inr h ↦ let not : ltb x 255 ≡ false = h.0 in rw not (omega (arith, h.1))
]

select-low : (xs : List ℕ) → sel_l (zip2 ltb xs (replicate (length xs) 255)) xs (replicate (length xs) 255) ≡ map (λ x. min x 255) xs
select-low [] = refl
select-low (x ∷ xs) = ap (λ (y : ℕ). y ∷ sel_l (zip2 ltb xs (replicate (length xs) 255)) xs (replicate (length xs) 255)) (low x) ∙ ap (λ (ys : List ℕ). min x 255 ∷ ys) (select-low xs)

pub selected : (n : ℕ) (xs : List ℕ) → length xs ≡ n → sel_l (map (top (hbits w32)) (zip2 (λ a b. cond (ltb a b) (2 ^ bits w32 - 1) 0) xs (replicate n 255))) xs (replicate n 255) ≡ map (λ x. min x 255) xs
selected n xs e = ap (λ (bs : List Bool). sel_l bs xs (replicate n 255)) (tops_compared w32 ltb xs (replicate n 255)) ∙ (ap (λ (k : ℕ). sel_l (zip2 ltb xs (replicate k 255)) xs (replicate k 255)) (sym e) ∙ select-low xs)

pub low-each : (xs : List ℕ) → Each1 (λ x. x < 2 ^ 8) (map (λ x. min x 255) xs)
low-each [] = tt
low-each (x ∷ xs) = (omega arith, low-each xs)

pub same-each : (xs : List ℕ) → map (λ x. x) xs ≡ xs
same-each [] = refl
same-each (x ∷ xs) = ap (λ (ys : List ℕ). x ∷ ys) (same-each xs)
