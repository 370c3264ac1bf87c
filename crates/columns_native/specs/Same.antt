-- Numbers that are taken as they are.
use Rattle.std.specs.Prelude.{◌≡◌, ℤ, List, [], ◌∷◌, map, refl}
use Rattle.std.proofs.Common.{ap}

pub as_they_are : (xs : List ℤ) → xs ≡ map (λ x. x) xs
as_they_are [] = refl
as_they_are (x ∷ xs) = ap (λ (ys : List ℤ). x ∷ ys) (as_they_are xs)
