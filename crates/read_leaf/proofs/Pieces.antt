-- Strings between offsets.
use Rattle.std.proofs.Common.{◌≡◌, inl, inr, ℕ, zero, suc, ◌+◌, ◌-◌, ◌<◌, ◌≤◌, List, [], ◌∷◌, ◌++◌, length, take, drop, get_or, replicate, refl, arith, ap, sym, ◌∙◌, append_assoc, append-nil, length-append}
use Rattle.std.proofs.lemmas.Bool.{cases_lt}
use Rattle.std.proofs.lemmas.List.{take_all}
use Rattle.columns_core.specs.Rising.{last_place}
use Rattle.columns_slots.specs.Bytes.{pieces}
use Rattle.read_leaf.specs.Strings.{total_bytes, IsLaid}

front-kept : (n o : ℕ) (xs ys : List ℕ) → o + n ≤ length xs → take n (drop o (xs ++ ys)) ≡ take n (drop o xs)
front-kept zero o xs ys h = refl
front-kept (suc n) zero [] ys h = absurd (omega (arith, h))
front-kept (suc n) zero (x ∷ xs) ys h = ap (λ (zs : List ℕ). x ∷ zs) (front-kept n zero xs ys (omega (arith, h)))
front-kept (suc n) (suc o) [] ys h = absurd (omega (arith, h))
front-kept (suc n) (suc o) (x ∷ xs) ys h = front-kept (suc n) o xs ys (omega (arith, h))

behind-all : (xs ys : List ℕ) → drop (length xs) (xs ++ ys) ≡ ys
behind-all [] ys = refl
behind-all (x ∷ xs) ys = behind-all xs ys

piece-kept : (o p : ℕ) (xs ys : List ℕ) → p ≤ length xs → take (p - o) (drop o (xs ++ ys)) ≡ take (p - o) (drop o xs)
piece-kept o p xs ys h = elim (cases_lt o p) [
  | inl less ↦ front-kept (p - o) o xs ys (omega (arith, h, less))
  | inr more ↦ let none : p - o ≡ 0 = omega (arith, more) in rw none refl
]

last-piece : (o e : ℕ) (content s : List ℕ) → o ≡ length content → e ≡ length content + length s → take (e - o) (drop o (content ++ s)) ≡ s
last-piece o e content s a b =
    let n : length content + length s - length content ≡ length s = omega arith in
    rw (a, b, n, behind-all content s) (take_all (length s) s (omega arith))

pub pieces-more : (os content s : List ℕ) (e : ℕ) → 0 < length os → last_place os ≡ length content → ((i : ℕ) → get_or os i 0 ≤ length content) → e ≡ length content + length s → pieces (os ++ e ∷ []) (content ++ s) ≡ pieces os content ++ s ∷ []
pieces-more [] content s e some last below is = absurd (omega (arith, some))
pieces-more (o ∷ []) content s e some last below is = ap (λ (t : List ℕ). t ∷ []) (last-piece o e content s last is)
pieces-more (o ∷ p ∷ os) content s e some last below is = rw (piece-kept o p content s (below 1)) (ap (λ (t : List (List ℕ)). take (p - o) (drop o content) ∷ t) (pieces-more (p ∷ os) content s e (omega arith) last (λ i. below (suc i)) is))

last-more : (os : List ℕ) (e : ℕ) → last_place (os ++ e ∷ []) ≡ e
last-more [] e = refl
last-more (o ∷ []) e = refl
last-more (o ∷ p ∷ os) e = last-more (p ∷ os) e

below-more : (os : List ℕ) (e n m : ℕ) → ((i : ℕ) → get_or os i 0 ≤ n) → n ≤ m → e ≤ m → (i : ℕ) → get_or (os ++ e ∷ []) i 0 ≤ m
below-more [] e n m b h k zero = k
below-more [] e n m b h k (suc i) = omega arith
below-more (o ∷ os) e n m b h k zero = omega (arith, b 0, h)
below-more (o ∷ os) e n m b h k (suc i) = below-more os e n m (λ j. b (suc j)) h k i

pub total-append : (xs ys : List (List ℕ)) → total_bytes (xs ++ ys) ≡ total_bytes xs + total_bytes ys
total-append [] ys = omega arith
total-append (x ∷ xs) ys = omega (arith, total-append xs ys)

pub laid-more : (os content s : List ℕ) (e : ℕ) → IsLaid os content → e ≡ length content + length s → IsLaid (os ++ e ∷ []) (content ++ s)
laid-more os content s e l is =
    let size = length-append content s in
    record {
      some = omega (arith, length-append os (e ∷ []), l.some);
      last = last-more os e ∙ (is ∙ sym size);
      below = below-more os e (length content) (length (content ++ s)) l.below (omega (arith, size)) (omega (arith, size, is));
      all = ap total_bytes (pieces-more os content s e l.some l.last l.below is) ∙ omega (arith, total-append (pieces os content) (s ∷ []), l.all, size);
    }

-- ---- empty strings
replicate-more : {A : Type 0} (n : ℕ) (x : A) → replicate n x ++ x ∷ [] ≡ x ∷ replicate n x
replicate-more zero x = refl
replicate-more (suc n) x = ap (λ t. x ∷ t) (replicate-more n x)

pub record IsPadded (os content : List ℕ) (n : ℕ) : Type 0 where
  pub laid : IsLaid (os ++ replicate n (last_place os)) content
  pub pieces : pieces (os ++ replicate n (last_place os)) content ≡ pieces os content ++ replicate n []

pub padded : (n : ℕ) (os content : List ℕ) → IsLaid os content → IsPadded os content n
padded zero os content l = record { laid = rw (append-nil os) l; pieces = rw (append-nil os) (sym (append-nil (pieces os content))) }
padded (suc n) os content l =
    let e : ℕ = last_place os in
    let more : IsLaid (os ++ e ∷ []) content = rw (append-nil content) at (laid-more os content [] e l (omega (arith, l.last))) in
    let one : pieces (os ++ e ∷ []) content ≡ pieces os content ++ [] ∷ [] = rw (append-nil content) at (pieces-more os content [] e l.some l.last l.below (omega (arith, l.last))) in
    let rest = padded n (os ++ e ∷ []) content more in
    let same : last_place (os ++ e ∷ []) ≡ e = last-more os e in
    let join : (os ++ e ∷ []) ++ replicate n e ≡ os ++ e ∷ replicate n e = append_assoc os (e ∷ []) (replicate n e) in
    record {
      laid = rw (same, join) at rest.laid;
      pieces = (rw (same, join) at rest.pieces) ∙ (ap (λ (t : List (List ℕ)). t ++ replicate n []) one ∙ append_assoc (pieces os content) ([] ∷ []) (replicate n []));
    }
