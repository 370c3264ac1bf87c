-- Lengths as places.
use Rattle.std.proofs.Common.{◌≡◌, ℕ, ℤ, zero, suc, ◌+◌, ◌-◌, ◌<◌, ◌^◌, List, [], ◌∷◌, ◌++◌, None, length, take, replicate, refl, arith, ap, ◌∙◌}
use Rattle.std.proofs.lemmas.List.{map-append, take_all}
use Rattle.std.proofs.Common.{get_or, pos}
use Rattle.std.specs.Int.{w64, cast_unsigned, cast_signed}
use Rattle.std.proofs.lemmas.Int.{of_z-to_z}
use Rattle.read_laws.specs.State.{kept_list}
use Rattle.read_laws.specs.Step.{rising}
use Rattle.read_state.specs.Kinds.{start_of, starts_of, unless_negative, item_count}
use Rattle.read_state.proofs.Rising.{rising_next}

rising-copies : (m first : ℕ) (z : ℤ) → start_of z ≡ first → starts_of (replicate m z) ≡ rising first 0 m
unfolding rising
rising-copies zero first z e = refl
rising-copies (suc m) first z e =
    let stays : first + 0 ≡ first = omega arith in
    rw (stays, e) (ap (λ (ss : List ℕ). first ∷ ss) (rising-copies m first z e))

pub copies : (xs new : List ℤ) (size count first : ℕ) (z : ℤ) → start_of z ≡ first → size ≡ length xs + count → new ≡ take size xs ++ replicate (size - length xs) z → starts_of new ≡ starts_of xs ++ rising first 0 count
copies xs new size count first z e s n =
    let more : size - length xs ≡ count = omega (arith, s) in
    let all : take size xs ≡ xs = take_all size xs (omega (arith, s)) in
    rw (n, all, more, map-append start_of xs (replicate count z)) (ap (λ (ss : List ℕ). starts_of xs ++ ss) (rising-copies count first z e))

pub one-more : (xs new : List ℤ) (front : List ℕ) (first next left rest : ℕ) (z : ℤ) → start_of z ≡ first → new ≡ xs ++ z ∷ [] → left ≡ rest + 1 → next ≡ first + 1 → starts_of xs ++ rising first 1 left ≡ front → starts_of new ++ rising next 1 rest ≡ front
one-more xs new front first next left rest z e n l k so =
    rw (n, map-append start_of xs (z ∷ []), e) (rising_next (starts_of xs) front first next 1 left rest l k so)

last-start : (x : ℤ) (xs : List ℤ) → get_or (starts_of (x ∷ xs)) (length (starts_of xs)) 0 ≡ start_of (get_or (x ∷ xs) (length xs) (pos 0))
last-start x [] = refl
last-start x (y ∷ ys) = last-start y ys

pub last-length : (xs : List ℤ) (i : ℕ) → 0 < length xs → i ≡ length xs - 1 → item_count (kept_list None (starts_of xs)) ≡ unless_negative (start_of (get_or xs i (pos 0)))
last-length [] i h e = absurd (omega (arith, h))
last-length (x ∷ xs) i h e =
    let last : i ≡ length xs = omega (arith, e) in
    rw last (ap unless_negative (last-start x xs))

-- a length that was read once more is the same start
pub start-again : (place : ℕ) (z : ℤ) → place < 2 ^ 64 → start_of z ≡ place → start_of (cast_signed w64 (cast_unsigned w64 z)) ≡ place
start-again place z h e = ap (λ (n : ℕ). cast_unsigned w64 (cast_signed w64 n)) e ∙ of_z-to_z w64 place h

pub start-is : (place : ℕ) (z : ℤ) → place < 2 ^ 64 → z ≡ cast_signed w64 place → start_of z ≡ place
start-is place z h e =
    let back = of_z-to_z w64 place h in
    rw (e, back) back
