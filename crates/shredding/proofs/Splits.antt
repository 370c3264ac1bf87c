-- A column in two parts at the beginning of a row.
use Rattle.std.proofs.Common.{◌≡◌, ℕ, suc, List, [], ◌∷◌, ◌++◌, refl, subst, sym, ap, ◌∙◌, arith}
use Rattle.shredding.specs.Shred.{Triple, column, shred}
use Rattle.shredding.specs.Laws.{BeginsRow, ColumnsSplit}
use Rattle.shredding.proofs.Starts.{Above, BeginsAt, shred_begins}

peel_tail : (xs R a b : List Triple) → Above 0 xs → BeginsRow b → xs ++ R ≡ a ++ b → (c : List Triple) × (a ≡ xs ++ c) × (R ≡ c ++ b)
peel_tail [] R a b h g e = (a, refl, e)
peel_tail (x ∷ xs) R [] b h g e = let k : BeginsRow (x ∷ xs ++ R) = subst BeginsRow (sym e) g in absurd (omega (arith, k, h.0))
peel_tail (x ∷ xs) R (y ∷ a) b h g e =
    let first : x ≡ y = cc in
    let same : xs ++ R ≡ a ++ b = cc in
    let rest = peel_tail xs R a b h.1 g same in
    (rest.0, cc (first, rest.1), rest.2)

peel : (xs R a b : List Triple) (y : Triple) (d : ℕ) → BeginsAt 0 d 0 xs → BeginsRow b → xs ++ R ≡ (y ∷ a) ++ b → (c : List Triple) × (y ∷ a ≡ xs ++ c) × (R ≡ c ++ b)
peel [] R a b y d h g e = absurd h
peel (x ∷ xs) R a b y d h g e =
    let first : x ≡ y = cc in
    let same : xs ++ R ≡ a ++ b = cc in
    let rest = peel_tail xs R a b h.2 g same in
    (rest.0, cc (first, rest.1), rest.2)

nothing_left : (a b : List Triple) → [] ≡ a ++ b → ([] ≡ a) × ([] ≡ b)
nothing_left [] b e = (refl, e)
nothing_left (x ∷ a) b e = absurd (cc)

pub splits : ColumnsSplit
splits w [] a b e g = let none = nothing_left a b e in (0, omega arith, sym none.0, sym none.1)
splits w (s ∷ rows) [] b e g = (0, omega arith, refl, sym e)
splits w (s ∷ rows) (y ∷ a) b e g =
    let part = peel (shred w s 0 0 0) (column w rows) a b y 0 (shred_begins w s 0 0 0) g e in
    let rest = splits w rows part.0 b part.2 g in
    (suc rest.0, omega (arith, rest.1), part.1 ∙ ap (λ c. shred w s 0 0 0 ++ c) rest.2, rest.3)
