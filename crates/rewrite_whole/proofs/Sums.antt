-- Claims one after another.
use Rattle.std.proofs.Common.{◌≡◌, ◌+◌, ◌<◌, ◌≤◌, ℕ, List, length, map, take, sum_by, get_or, sym, ap, subst, ◌∙◌}
use Rattle.std.proofs.lemmas.List.{get_or-map, length-map}
use Rattle.std.proofs.lemmas.List.Sums.{sum_by_more, sum_by_more_le}

pub one_more : {X Y : Type 0} (f : Y → ℕ) (v : X → Y) (xs : List X) (i : ℕ) (x : X) → i < length xs → x ≡ get_or xs i x → sum_by f (take (i + 1) (map v xs)) ≡ sum_by f (take i (map v xs)) + f (v x)
one_more f v xs i x lt e =
    let inside : i < length (map v xs) = subst (λ k. i < k) (sym (length-map xs v)) lt in
    let is : get_or (map v xs) i (v x) ≡ v x = get_or-map v xs i x (v x) lt ∙ ap v (sym e) in
    sum_by_more f (map v xs) i (v x) inside ∙ ap (λ y. sum_by f (take i (map v xs)) + f y) is

pub one_within : {X Y : Type 0} (f : Y → ℕ) (v : X → Y) (xs : List X) (i : ℕ) (x : X) → i < length xs → x ≡ get_or xs i x → sum_by f (take i (map v xs)) + f (v x) ≤ sum_by f (map v xs)
one_within f v xs i x lt e =
    let inside : i < length (map v xs) = subst (λ k. i < k) (sym (length-map xs v)) lt in
    let is : get_or (map v xs) i (v x) ≡ v x = get_or-map v xs i x (v x) lt ∙ ap v (sym e) in
    subst (λ y. sum_by f (take i (map v xs)) + f y ≤ sum_by f (map v xs)) is (sum_by_more_le f (map v xs) i (v x) inside)
