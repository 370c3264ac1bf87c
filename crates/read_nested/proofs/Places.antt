-- Starts as offsets.
use Rattle.std.proofs.Common.{◌≡◌, ℕ, ℤ, zero, suc, pos, ◌+◌, ◌*◌, ◌/◌, ◌<◌, ◌≤◌, Option, Some, List, [], ◌∷◌, ◌++◌, map, take, drop, set, length, get_or, ◌-◌, append_assoc, Bool, refl, arith, ap, sym, ◌∙◌, subst, add-one, length-append, ◌⊎◌, inl, inr, Result, Ok, Err, IfErr}
use Rattle.std.proofs.lemmas.List.{map-append, take_all, take_more_set, length-map}
use Rattle.std.proofs.Math.Nat.{mul-div_cancel}
use Rattle.std.proofs.Math.Seq.{take-suc, take-add}
use Rattle.std.proofs.Math.ListN.{get_or-append}
use Rattle.columns_base.specs.declared.error.Error.{Error}
use Rattle.columns_base.specs.declared.error.Error.TheVariants.{Memory, InvalidArgumentError}
use Rattle.columns_base.specs.declared.error.A.TheVariants.{A8}
use Rattle.columns_core.specs.Rising.{whole, AreFrom, ArePlaces}
use Rattle.columns_core.specs.Tree.{TypeTree}
use Rattle.columns_slots.specs.Slots.{tree_len, IsPlaces, AreUpTo}
use Rattle.columns_slots.specs.Tree.{ArrayTree}
use Rattle.columns_slots.specs.Types.{fixed_size}
use Rattle.read_laws.specs.State.{Kept, kept_list}
use Rattle.read_state.specs.Kinds.{start_of, starts_of}
use Rattle.read_nested.specs.Made.{FitsFixedPart}

start-at : (starts : List ℤ) (i : ℕ) → i < length starts → get_or (starts_of starts) i 0 ≡ start_of (get_or starts i (pos 0))
start-at [] i h = absurd (omega (arith, h))
start-at (z ∷ starts) zero h = refl
start-at (z ∷ starts) (suc i) h = start-at starts i (omega (arith, h))

pub offsets-more : {O : Type 0} (number : O → ℤ) (now old : List O) (o : O) (starts : List ℤ) (i n : ℕ) → i < length starts → n ≡ start_of (get_or starts i (pos 0)) → number o ≡ pos n → now ≡ old ++ o ∷ [] → map number old ≡ map pos (starts_of (take i starts)) → map number now ≡ map pos (starts_of (take (i + 1) starts))
offsets-more number now old o starts i n h start is so before =
    let more : take (i + 1) starts ≡ take i starts ++ get_or starts i (pos 0) ∷ [] = rw add-one (take-suc starts i (pos 0) h) in
    rw (so, map-append number old (o ∷ []), before, is, start, more, map-append start_of (take i starts) (get_or starts i (pos 0) ∷ [])) (sym (map-append pos (starts_of (take i starts)) (start_of (get_or starts i (pos 0)) ∷ [])))

-- a place more that is written
pub filled-more : {O : Type 0} (number : O → ℤ) (places : List O) (o : O) (starts : List ℤ) (i n : ℕ) → i < length places → i < length starts → n ≡ start_of (get_or starts i (pos 0)) → number o ≡ pos n → map number (take i places) ≡ map pos (starts_of (take i starts)) → map number (take (i + 1) (set places i o)) ≡ map pos (starts_of (take (i + 1) starts))
filled-more number places o starts i n there h start is before = offsets-more number (take (i + 1) (set places i o)) (take i places) o starts i n h start is (take_more_set places i o there) before

-- offsets behind those that are there
pub filled-behind : {O : Type 0} (number : O → ℤ) (old now written : List O) (starts : List ℤ) → now ≡ old ++ written → map number written ≡ map pos (starts_of starts) → map number now ≡ map number old ++ map pos (starts_of starts)
filled-behind number old now written starts so is = rw (so, map-append number old written, is) refl

-- a block of starts more
pub blocks-more : (old now next : List ℤ) (starts : List ℤ) (at end : ℕ) → at ≤ end → now ≡ old ++ map pos (starts_of (take at starts)) → next ≡ now ++ map pos (starts_of (take (end - at) (drop at starts))) → next ≡ old ++ map pos (starts_of (take end starts))
blocks-more old now next starts at end o so more =
    let place : at + (end - at) ≡ end = omega (arith, o) in
    let split : take end starts ≡ take at starts ++ take (end - at) (drop at starts) = rw place at (take-add at (end - at) starts) in
    let all : map pos (starts_of (take end starts)) ≡ map pos (starts_of (take at starts)) ++ map pos (starts_of (take (end - at) (drop at starts))) = rw (split, map-append start_of (take at starts) (take (end - at) (drop at starts)), map-append pos (starts_of (take at starts)) (starts_of (take (end - at) (drop at starts)))) refl in
    rw (more, so, all) (append_assoc old (map pos (starts_of (take at starts))) (map pos (starts_of (take (end - at) (drop at starts)))))

-- the offsets with the end of the last
pub offsets-numbers : {O : Type 0} (number : O → ℤ) (now old : List O) (last : O) (starts : List ℤ) (i end : ℕ) → length starts ≤ i → number last ≡ pos end → now ≡ old ++ last ∷ [] → map number old ≡ map pos (starts_of (take i starts)) → map number now ≡ map pos (starts_of starts ++ end ∷ [])
offsets-numbers number now old last starts i end h is so before =
    rw (so, map-append number old (last ∷ []), before, is, take_all i starts h) (sym (map-append pos (starts_of starts) (end ∷ [])))

pub offsets-done : {O : Type 0} (number : O → ℤ) (now old : List O) (last : O) (starts : List ℤ) (end : ℕ) → number last ≡ pos end → now ≡ old ++ last ∷ [] → map number old ≡ map pos (starts_of starts) → map number now ≡ map pos (starts_of starts ++ end ∷ [])
offsets-done number now old last starts end is so before =
    rw (so, map-append number old (last ∷ []), before, is) (sym (map-append pos (starts_of starts) (end ∷ [])))

whole-pos : (xs : List ℕ) → map whole (map pos xs) ≡ xs
whole-pos [] = refl
whole-pos (x ∷ xs) = ap (λ t. x ∷ t) (whole-pos xs)

map-whole : {O : Type 0} (number : O → ℤ) (xs : List O) → map (λ o. whole (number o)) xs ≡ map whole (map number xs)
map-whole number [] = refl
map-whole number (x ∷ xs) = ap (λ t. whole (number x) ∷ t) (map-whole number xs)

pub offsets-whole : {O : Type 0} (number : O → ℤ) (now : List O) (os : List ℕ) → map number now ≡ map pos os → map (λ o. whole (number o)) now ≡ os
offsets-whole number now os e = map-whole number now ∙ ap (map whole) e ∙ whole-pos os

up-from : (o : ℕ) (os : List ℕ) (n : ℕ) → AreUpTo o os n → AreFrom o (map pos os)
up-from o [] n h = tt
up-from o (p ∷ os) n h = (tt, h.0, up-from p os n h.1)

places-from : (os : List ℕ) (n : ℕ) → IsPlaces os n → ArePlaces (map pos os)
places-from [] n h = absurd h
places-from (o ∷ os) n h = (tt, omega arith, up-from o os n h)

pub places-refused : {O : Type 0} (number : O → ℤ) (now : List O) (os : List ℕ) (n : ℕ) → map number now ≡ map pos os → (ArePlaces (map number now) → ⊥) → IsPlaces os n → ⊥
places-refused number now os n e f h = let P : List ℤ → Type 0 = λ zs. ArePlaces zs in f (subst P (sym e) (places-from os n h))

up-bound : (o : ℕ) (os : List ℕ) (n i : ℕ) → AreUpTo o os n → i < length os → get_or os i 0 ≤ n
up-bound o [] n i h l = absurd (omega (arith, l))
up-bound o (p ∷ []) n zero h l = h.1
up-bound o (p ∷ (q ∷ os)) n zero h l = let k = up-bound p (q ∷ os) n zero h.1 (omega arith) in let g = h.1.0 in omega arith
up-bound o (p ∷ os) n (suc i) h l = up-bound p os n i h.1 (omega (arith, l))

places-bound : (os : List ℕ) (n i : ℕ) → IsPlaces os n → i < length os → get_or os i 0 ≤ n
places-bound [] n i h l = absurd h
places-bound (o ∷ []) n zero h l = h
places-bound (o ∷ (p ∷ os)) n zero h l = let k = up-bound o (p ∷ os) n zero h (omega arith) in let g = h.0 in omega arith
places-bound (o ∷ os) n (suc i) h l = up-bound o os n i h (omega (arith, l))

-- a start past the end
pub start-refused : (starts : List ℤ) (end i n limit : ℕ) → i < length starts → n ≡ start_of (get_or starts i (pos 0)) → limit ≤ n → end < limit → IsPlaces (starts_of starts ++ end ∷ []) end → ⊥
start-refused starts end i n limit h start past fits places =
    let len : length (starts_of starts) ≡ length starts = length-map starts start_of in
    let in-front : i < length (starts_of starts) = omega (arith, len) in
    let total : length (starts_of starts ++ end ∷ []) ≡ length (starts_of starts) + 1 = length-append (starts_of starts) (end ∷ []) in
    let k = places-bound (starts_of starts ++ end ∷ []) end i places (omega (arith, total)) in
    let here : get_or (starts_of starts ++ end ∷ []) i 0 ≡ n = get_or-append (starts_of starts) (end ∷ []) 0 i in-front ∙ start-at starts i h ∙ sym start in
    omega (arith, k, here)

quotient : (n s w : ℕ) → 0 < w → n ≡ s * w → n / w ≡ s
quotient n s w h e = rw e (mul-div_cancel s h)

-- lists of a fixed size, another number of times
pub fixed-refused : (t : TypeTree) (part : Option Kept) (m : Option (List Bool)) (starts : List ℕ) (a : ArrayTree) (len count : ℕ) → part ≡ Some (kept_list m starts) → len ≡ tree_len a / fixed_size t → count ≡ length starts → (len ≡ count → ⊥) → FitsFixedPart t part a → ⊥
fixed-refused t part m starts a len count e is n apart h =
    let P : Option Kept → Type 0 = λ k. FitsFixedPart t k a in
    let fit : P (Some (kept_list m starts)) = subst P e h in
    apart (is ∙ quotient (tree_len a) (length starts) (fixed_size t) fit.0.1 fit.1 ∙ sym n)

-- a call that is refused as A8 only so
pub refused-err : {X : Type 0} (N : Type 0) (r : Result X Error) → IfErr r (λ e. (e ≡ Memory) ⊎ (e ≡ InvalidArgumentError A8)) → (r ≡ Err (InvalidArgumentError A8) → N) → IfErr r (λ e. (e ≡ Memory) ⊎ ((e ≡ InvalidArgumentError A8) × N))
refused-err N (Ok x) h f = h
refused-err N (Err e) h f = elim h [ inl m ↦ inl m | inr a ↦ inr (a, f (ap Err a)) ]
