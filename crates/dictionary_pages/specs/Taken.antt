-- What holds of each of the places that are taken.
use Rattle.std.specs.Prelude.{◌↔◌, Bool, IsTrue, List, [], ◌∷◌, ◌++◌, All}
use Rattle.std.specs.List.{AllByRecursion as Each}
use Rattle.std.proofs.lemmas.List.Elements.{All-from_recursion, recursion_from_All}

front-each : {A : Type 0} (P : A → Type 0) (xs ys : List A) → Each P (xs ++ ys) → Each P xs
front-each P [] ys h = tt
front-each P (x ∷ xs) ys h = (h.0, front-each P xs ys h.1)

back-each : {A : Type 0} (P : A → Type 0) (xs ys : List A) → Each P (xs ++ ys) → Each P ys
back-each P [] ys h = h
back-each P (x ∷ xs) ys h = back-each P xs ys h.1

pub front-all : {A : Type 0} (P : A → Type 0) (xs ys : List A) → All P (xs ++ ys) → All P xs
front-all P xs ys h = All-from_recursion P xs (front-each P xs ys (recursion_from_All P (xs ++ ys) h))

pub back-all : {A : Type 0} (P : A → Type 0) (xs ys : List A) → All P (xs ++ ys) → All P ys
back-all P xs ys h = All-from_recursion P ys (back-each P xs ys (recursion_from_All P (xs ++ ys) h))

pub all-none : {A : Type 0} (P : A → Type 0) → All P []
all-none P = All-from_recursion P [] tt

-- whether each of them has a property, once it is known that others have
abbrev pub Checks : {A : Type 0} → (A → Type 0) → List A → Bool → Bool → Type 0
Checks P places old new = IsTrue new ↔ (IsTrue old × All P places)

pub checks-none : {A : Type 0} (P : A → Type 0) (b : Bool) → Checks P [] b b
checks-none P b = (λ h. (h, all-none P), λ h. h.0)
