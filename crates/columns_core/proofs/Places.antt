-- Places that never fall.
use Rattle.std.proofs.Common.{◌≡◌, Option, Some, ℕ, zero, suc, ℤ, pos, ◌+◌, ◌-◌, ◌≤◌, ◌<◌, List, [], ◌∷◌, ◌++◌, length, map, take, drop, get_or, replicate, sum, append_assoc, add-one, length-take, refl, ap, sym, subst, ◌∙◌, arith}
use Rattle.std.proofs.lemmas.List.{length-map, map-append, take-map}
use Rattle.std.proofs.lemmas.List.Sums.{sum_by-cons, sum_by_push}
use Rattle.std.specs.Iterator.{Yields}
use Rattle.columns_core.specs.Rising.{whole, IsWhole, AreFrom, RisesFrom, IsRising, last_place, places_from}

from_drop : {A : Type 0} (f : A → ℤ) (xs : List A) (b o : ℕ) → AreFrom b (map f xs) → AreFrom 0 (map f (drop o xs))
from_drop f [] b zero h = tt
from_drop f [] b (suc o) h = tt
from_drop f (x ∷ xs) b zero h = (h.0, omega arith, h.2)
from_drop f (x ∷ xs) b (suc o) h = from_drop f xs (whole (f x)) o h.2

rises_front : {A : Type 0} (f : A → ℤ) (xs : List A) (b n : ℕ) → AreFrom b (map f xs) → RisesFrom b (map (λ x. whole (f x)) (take n xs))
rises_front f xs b zero h = tt
rises_front f [] b (suc n) h = tt
rises_front f (x ∷ xs) b (suc n) h = (h.1, rises_front f xs (whole (f x)) n h.2)

rising_front : {A : Type 0} (f : A → ℤ) (xs : List A) (n : ℕ) → AreFrom 0 (map f xs) → n < length xs → IsRising (map (λ x. whole (f x)) (take (suc n) xs))
rising_front f [] n h k = absurd (omega (arith, k))
rising_front f (x ∷ xs) n h k = rises_front f xs (whole (f x)) n h.2

within_drop : {A : Type 0} (xs : List A) (o n : ℕ) → o + n < length xs → n < length (drop o xs)
within_drop xs zero n h = omega (arith, h)
within_drop [] (suc o) n h = absurd (omega (arith, h))
within_drop (x ∷ xs) (suc o) n h = within_drop xs o n (omega (arith, h))

pub rising_cut : {A : Type 0} (f : A → ℤ) (xs : List A) (o n : ℕ) → AreFrom 0 (map f xs) → o + n < length xs → IsRising (map (λ x. whole (f x)) (take (n + 1) (drop o xs)))
rising_cut f xs o n h k = rw (add-one n) (rising_front f (drop o xs) n (from_drop f xs 0 o h) (within_drop xs o n k))

pub whole_at : {A : Type 0} (f : A → ℤ) (xs : List A) (b i : ℕ) (d : A) → AreFrom b (map f xs) → i < length xs → IsWhole (f (get_or xs i d))
whole_at f [] b i d h k = absurd (omega (arith, k))
whole_at f (x ∷ xs) b zero d h k = h.0
whole_at f (x ∷ xs) b (suc i) d h k = whole_at f xs (whole (f x)) i d h.2 (omega (arith, k))

pub place_within : {A B : Type 0} (f : A → B) (xs : List A) (a m : ℕ) (seen : List B) (i : ℕ) → map f (take (m + 1) (drop a xs)) ≡ seen → i < length seen → i ≤ m
place_within {A = A} {B = B} f xs a m seen i e h =
    let short : length seen ≤ m + 1 = subst (λ r. length r ≤ m + 1) e (omega (arith, length-map {A = A} {B = B} (take (m + 1) (drop a xs)) f, length-take (m + 1) (drop a xs))) in
    omega (arith, short, h)

-- ---- a place more
pub from_push : {A : Type 0} (f : A → ℤ) (xs : List A) (x : A) (b : ℕ) → AreFrom b (map f xs) → IsWhole (f x) → last_place (b ∷ map (λ y. whole (f y)) xs) ≤ whole (f x) → AreFrom b (map f (xs ++ x ∷ []))
from_push f [] x b h w l = (w, l, tt)
from_push f (y ∷ ys) x b h w l = (h.0, h.1, from_push f ys x (whole (f y)) h.2 w l)

pub last_zero : (os : List ℕ) → last_place (0 ∷ os) ≡ last_place os
last_zero [] = refl
last_zero (o ∷ os) = refl

pub last_push : (os : List ℕ) (o : ℕ) → last_place (os ++ o ∷ []) ≡ o
last_push [] o = refl
last_push (p ∷ []) o = refl
last_push (p ∷ q ∷ os) o = last_push (q ∷ os) o

pub last_at : (os : List ℕ) (n : ℕ) → length os ≡ suc n → last_place os ≡ get_or os n 0
last_at [] n h = absurd (omega (arith, h))
last_at (o ∷ []) zero h = refl
last_at (o ∷ []) (suc n) h = absurd (omega (arith, h))
last_at (o ∷ p ∷ os) zero h = absurd (omega (arith, h))
last_at (o ∷ p ∷ os) (suc n) h = last_at (p ∷ os) n (omega (arith, h))

pub map_last : {A : Type 0} (f : A → ℕ) (xs : List A) (n : ℕ) (d : A) → length xs ≡ n + 1 → last_place (map f xs) ≡ f (get_or xs n d)
map_last f [] n d h = absurd (omega (arith, h))
map_last f (x ∷ []) zero d h = refl
map_last f (x ∷ []) (suc n) d h = absurd (omega (arith, h))
map_last f (x ∷ y ∷ xs) zero d h = absurd (omega (arith, h))
map_last f (x ∷ y ∷ xs) (suc n) d h = map_last f (y ∷ xs) n d (omega (arith, h))

pub pushed : {A : Type 0} (f : A → ℤ) (xs : List A) (x : A) → AreFrom 0 (map f xs) → IsWhole (f x) → last_place (map (λ y. whole (f y)) xs) ≤ whole (f x)
    → AreFrom 0 (map f (xs ++ x ∷ [])) × (whole (f x) ≡ last_place (map (λ y. whole (f y)) (xs ++ x ∷ [])))
pushed f xs x h w l = (
  from_push f xs x 0 h w (rw (last_zero (map (λ y. whole (f y)) xs)) l),
  rw (map-append (λ y. whole (f y)) xs (x ∷ [])) (sym (last_push (map (λ y. whole (f y)) xs) (whole (f x)))),
)

pub pushed_at : {A : Type 0} (f : A → ℤ) (xs : List A) (x : A) (ys : List A) (e k : ℕ) → ys ≡ xs ++ x ∷ [] → f x ≡ pos (e + k) → AreFrom 0 (map f xs) → e ≡ last_place (map (λ y. whole (f y)) xs)
    → AreFrom 0 (map f ys) × (e + k ≡ last_place (map (λ y. whole (f y)) ys))
pushed_at f xs x ys e k is at h l =
    let v : whole (f x) ≡ e + k = ap whole at in
    let p = pushed f xs x h (subst IsWhole (sym at) tt) (omega (arith, v, l)) in
    rw is (p.0, sym v ∙ p.1)

pub seen_push : {A : Type 0} (f : A → ℤ) (xs : List A) (x : A) (ys : List A) (p : ℕ) → ys ≡ xs ++ x ∷ [] → f x ≡ pos p
    → map (λ y. whole (f y)) ys ≡ map (λ y. whole (f y)) xs ++ p ∷ []
seen_push f xs x ys p is at = rw (is, map-append (λ y. whole (f y)) xs (x ∷ [])) (ap (λ q. map (λ y. whole (f y)) xs ++ whole q ∷ []) at)

-- ---- copies of the last place
from_copies : {A : Type 0} (f : A → ℤ) (xs : List A) (x : A) (n b : ℕ) → AreFrom b (map f xs) → IsWhole (f x) → last_place (b ∷ map (λ y. whole (f y)) xs) ≡ whole (f x) → AreFrom b (map f (xs ++ replicate n x))
from_copies f [] x zero b h w l = tt
from_copies f [] x (suc n) b h w l = (w, omega (arith, l), from_copies f [] x n (whole (f x)) tt w refl)
from_copies f (y ∷ ys) x n b h w l = (h.0, h.1, from_copies f ys x n (whole (f y)) h.2 w l)

map_same : {A : Type 0} (f : A → ℕ) (n : ℕ) (x : A) → map f (replicate n x) ≡ replicate n (f x)
map_same f zero x = refl
map_same f (suc n) x = ap (λ r. f x ∷ r) (map_same f n x)

last_same : (n o : ℕ) → last_place (o ∷ replicate n o) ≡ o
last_same zero o = refl
last_same (suc n) o = last_same n o

last_copies : (os : List ℕ) (n o : ℕ) → 0 < length os → last_place os ≡ o → last_place (os ++ replicate n o) ≡ o
last_copies [] n o h e = absurd (omega (arith, h))
last_copies (p ∷ []) n o h e = rw e (last_same n o)
last_copies (p ∷ q ∷ os) n o h e = last_copies (q ∷ os) n o (omega arith) e

pub map_copies : {A : Type 0} (f : A → ℕ) (xs : List A) (x : A) (n : ℕ) → map f (xs ++ replicate n x) ≡ map f xs ++ replicate n (f x)
map_copies f xs x n = map-append f xs (replicate n x) ∙ ap (λ r. map f xs ++ r) (map_same f n x)

pub copied : {A : Type 0} (f : A → ℤ) (xs : List A) (x : A) (n : ℕ) → 0 < length xs → AreFrom 0 (map f xs) → IsWhole (f x) → last_place (map (λ y. whole (f y)) xs) ≡ whole (f x)
    → AreFrom 0 (map f (xs ++ replicate n x)) × (whole (f x) ≡ last_place (map (λ y. whole (f y)) (xs ++ replicate n x)))
copied f xs x n k h w l = (
  from_copies f xs x n 0 h w (last_zero (map (λ y. whole (f y)) xs) ∙ l),
  rw (map_copies (λ y. whole (f y)) xs x n) (sym (last_copies (map (λ y. whole (f y)) xs) n (whole (f x)) (omega (arith, length-map xs (λ y. whole (f y)), k)) l)),
)

take_all : {A : Type 0} (xs : List A) (n : ℕ) → length xs ≤ n → take n xs ≡ xs
take_all [] zero h = refl
take_all [] (suc n) h = refl
take_all (x ∷ xs) zero h = absurd (omega (arith, h))
take_all (x ∷ xs) (suc n) h = ap (λ r. x ∷ r) (take_all xs n (omega (arith, h)))

-- the places filled up with copies of the last
pub filled : {A : Type 0} (xs : List A) (x : A) (ys : List A) (k n c : ℕ) → ys ≡ take c xs ++ replicate (c - n) x → length xs ≡ n → c ≡ n + k → ys ≡ xs ++ replicate k x
filled xs x ys k n c is l e =
    let less : c - n ≡ k = omega (arith, e) in
    is ∙ rw (take_all xs c (omega (arith, l, e)), less) refl

rise_from : (o : ℕ) (os : List ℕ) (i : ℕ) → RisesFrom o os → i < length (o ∷ os) → o ≤ get_or (o ∷ os) i 0
rise_from o os zero h k = omega arith
rise_from o [] (suc i) h k = absurd (omega (arith, k))
rise_from o (p ∷ os) (suc i) h k = omega (arith, h.0, rise_from p os i h.1 (omega (arith, k)))

pub rises : (os : List ℕ) → IsRising os → get_or os 0 0 ≤ get_or os (length os - 1) 0
rises [] h = absurd h
rises (o ∷ os) h = rise_from o os (length (o ∷ os) - 1) h (omega arith)

-- ---- ranges of many lengths
pub places_more : (o n : ℕ) (ns : List ℕ) → places_from o (ns ++ n ∷ []) ≡ places_from o ns ++ (o + sum ns + n) ∷ []
places_more o n [] = let e : o + n ≡ o + 0 + n = omega arith in ap (λ p. p ∷ []) e
places_more o n (m ∷ ms) =
    let e : o + m + sum ms + n ≡ o + sum (m ∷ ms) + n = omega (arith, sum_by-cons (λ (x : ℕ). x) m ms) in
    ap (λ r. (o + m) ∷ r) (places_more (o + m) n ms ∙ ap (λ p. places_from (o + m) ms ++ p ∷ []) e)

pub length_more : (xs ys zs : List ℕ) (o n e : ℕ) (ns : List ℕ) → ys ≡ xs ++ places_from o ns → e ≡ o + sum ns → zs ≡ ys ++ (e + n) ∷ [] → zs ≡ xs ++ places_from o (ns ++ n ∷ [])
length_more xs ys zs o n e ns f g h = rw (places_more o n ns, h, g, f) (append_assoc xs (places_from o ns) ((o + sum ns + n) ∷ []))

pub end_more : (ys zs : List ℕ) (o n e : ℕ) (ns : List ℕ) → e ≡ o + sum ns → zs ≡ ys ++ (e + n) ∷ [] → last_place zs ≡ o + sum (ns ++ n ∷ [])
end_more ys zs o n e ns g h = rw h (last_push ys (e + n) ∙ omega (arith, g, sum_by_push (λ (x : ℕ). x) ns n))

pub sum_more : (n : ℕ) (ns : List ℕ) → sum (ns ++ n ∷ []) ≡ sum ns + n
sum_more n ns = sum_by_push (λ (x : ℕ). x) ns n

pub take_front : {A : Type 0} (xs ys : List A) → take (length xs) (xs ++ ys) ≡ xs
take_front [] ys = refl
take_front (x ∷ xs) ys = ap (λ r. x ∷ r) (take_front xs ys)

-- ---- the first places
from_front : {A : Type 0} (f : A → ℤ) (xs : List A) (b n : ℕ) → AreFrom b (map f xs) → AreFrom b (map f (take n xs))
from_front f xs b zero h = tt
from_front f [] b (suc n) h = tt
from_front f (x ∷ xs) b (suc n) h = (h.0, h.1, from_front f xs (whole (f x)) n h.2)

pub record IsShort {A : Type 0} (f : A → ℤ) (ys : List A) (r : ℕ) (d : A) (kept : List ℕ) : Type 0 where
  pub from : AreFrom 0 (map f ys)
  pub size : length ys ≡ r + 1
  pub end : whole (f (get_or ys r d)) ≡ last_place (map (λ o. whole (f o)) ys)
  pub whole_end : IsWhole (f (get_or ys r d))
  pub seen : map (λ o. whole (f o)) ys ≡ kept

pub shortened : {A : Type 0} (f : A → ℤ) (xs ys : List A) (r : ℕ) (d : A) (seen : List ℕ) → ys ≡ take (r + 1) xs → AreFrom 0 (map f xs) → map (λ o. whole (f o)) xs ≡ seen → r < length seen → IsShort f ys r d (take (r + 1) seen)
shortened {A = A} f xs ys r d seen e h s k =
    let l : length xs ≡ length seen = sym (length-map {A = A} {B = ℕ} xs (λ o. whole (f o))) ∙ ap length s in
    let n : length ys ≡ r + 1 = ap length e ∙ length-take (r + 1) xs ∙ omega (arith, l, k) in
    let a : AreFrom 0 (map f ys) = rw e (from_front f xs 0 (r + 1) h) in
    record {
      from = a;
      size = n;
      end = sym (map_last (λ o. whole (f o)) ys r d n);
      whole_end = whole_at f ys 0 r d a (omega (arith, n));
      seen = rw (e, ← s) (sym (take-map (λ o. whole (f o)) (r + 1) xs));
    }

-- an item more of an iterator
pub yields_more : {S A : Type 0} (steps : S → Option A → S → Type 0) (s : S) (xs : List A) (t : S) (x : A) (u : S) → Yields steps s xs t → steps t (Some x) u → Yields steps s (xs ++ x ∷ []) u
yields_more steps s [] t x u y h = (u, subst (λ v. steps v (Some x) u) (sym y) h, refl)
yields_more steps s (z ∷ xs) t x u y h = (y.0, y.1, yields_more steps y.0 xs t x u y.2 h)
