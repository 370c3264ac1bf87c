-- Places picked by the bits of a word.
use Rattle.std.proofs.Common.{◌≡◌, ◌≢◌, ℕ, zero, suc, cond, ◌-◌, ◌+◌, ◌*◌, ◌/◌, ◌%◌, ◌^◌, ◌≤◌, ◌<◌, Bool, true, false, ◌⊎◌, inl, inr, List, [], ◌∷◌, ◌++◌, length, refl, ap, sym, subst, ◌∙◌, arith}
use Rattle.std.specs.Prelude.{◌==◌, bit_xor, count_ones}
use Rattle.std.specs.List.{AllByRecursion as Each}
use Rattle.std.specs.Int.{bit_at, w64, trailing_zeros}
use Rattle.std.proofs.lemmas.Bool.{cases_lt}
use Rattle.std.proofs.lemmas.Nat.{ones_cat, one_shl, pow_below, xor_lt, shr_below, shr_split}
use Rattle.std.proofs.lemmas.Nat.Bits.{bit_at_lowest, bit_at-suc, bit_at_xor, bit_at-pow_same, bit_at-pow_other, bit_at-lt, bit_at-trailing_zeros}
use lib.Count.{ones}
use Rattle.write_places.specs.Places.{gather, picked}
use Rattle.write_places.proofs.Bits.{inside}
use Rattle.write_places.proofs.Gather.{gather-alike, gather-nothing, gather-split, gather-more}

-- whether a place is picked
abbrev chosen : ℕ → ℕ → ℕ → List ℕ
chosen word from i = cond (bit_at word (i - from) == 1) (i ∷ []) []

-- ---- by the lowest bit

pub picked-step : (word from count : ℕ) → picked word from (suc count) ≡ cond (word % 2 == 1) (from ∷ []) [] ++ picked (word / 2) (from + 1) count
unfolding gather
picked-step word from count =
    let n : from - from ≡ 0 = omega arith in
    let low : bit_at word (from - from) ≡ word % 2 = ap (bit_at word) n ∙ bit_at_lowest word in
    ap (λ (b : ℕ). cond (b == 1) (from ∷ []) [] ++ gather (chosen word from) (from + 1) count) low
    ∙ ap (λ (xs : List ℕ). cond (word % 2 == 1) (from ∷ []) [] ++ xs) (gather-alike (chosen word from) (chosen (word / 2) (from + 1)) (from + 1) count (λ i l h.
    let k : i - from ≡ suc (i - (from + 1)) = omega (arith, l) in
    ap (λ (b : ℕ). cond (b == 1) (i ∷ []) []) (ap (bit_at word) k ∙ bit_at-suc word (i - (from + 1)))))

each_cons : (limit i : ℕ) (b : Bool) (xs : List ℕ) → i < limit → Each (λ j. j < limit) xs → Each (λ j. j < limit) (cond b (i ∷ []) [] ++ xs)
each_cons limit i true xs h g = (h, g)
each_cons limit i false xs h g = g

pub each_picked : (limit word from count : ℕ) → from + count ≤ limit → Each (λ i. i < limit) (picked word from count)
unfolding gather
each_picked limit word from zero h = tt
each_picked limit word from (suc count) h =
    subst (λ (xs : List ℕ). Each (λ i. i < limit) xs) (sym (picked-step word from count))
    (each_cons limit from (word % 2 == 1) (picked (word / 2) (from + 1) count) (omega (arith, h)) (each_picked limit (word / 2) (from + 1) count (omega (arith, h))))

no_ones : count_ones 0 ≡ 0
unfolding ones
no_ones = refl

single_one : count_ones 1 ≡ 1
unfolding ones
single_one = refl

one_bit : (b i : ℕ) (xs : List ℕ) → b < 2 → length (cond (b == 1) (i ∷ []) [] ++ xs) ≡ count_ones b + length xs
one_bit zero i xs h = let e : length xs ≡ count_ones 0 + length xs = omega (arith, no_ones) in e
one_bit (suc zero) i xs h = let e : suc (length xs) ≡ count_ones 1 + length xs = omega (arith, single_one) in e
one_bit (suc (suc b)) i xs h = absurd (omega (arith, h))

pub length_picked : (word from count : ℕ) → word < 2 ^ count → length (picked word from count) ≡ count_ones word
unfolding gather
length_picked zero from zero h = sym no_ones
length_picked (suc word) from zero h = absurd (omega (arith, h))
length_picked word from (suc count) h =
    let n : suc count ≡ count + 1 = omega arith in
    let half : word / 2 < 2 ^ count = shr_below word count 1 (subst (λ (k : ℕ). word < 2 ^ k) n h) in
    let cut : word / 2 * 2 + word % 2 ≡ word = shr_split word 1 in
    let low : word % 2 < 2 = omega arith in
    ap length (picked-step word from count)
    ∙ (one_bit (word % 2) from (picked (word / 2) (from + 1) count) low
    ∙ omega (arith, length_picked (word / 2) (from + 1) count half, ones_cat 1 (word / 2) (word % 2) low, ap count_ones cut))

-- ---- by the lowest bit that is set

small : (b : ℕ) → b < 2 → (b + 0) % 2 ≡ b
small zero h = refl
small (suc zero) h = refl
small (suc (suc b)) h = absurd (omega (arith, h))

pub cleared_bit : (word t i : ℕ) → t < 64 → i ≢ t → bit_at (bit_xor word (1 * 2 ^ t % 2 ^ 64)) i ≡ bit_at word i
cleared_bit word t i h n =
    rw (one_shl t 64 h) (bit_at_xor word (2 ^ t) i ∙ (ap (λ (k : ℕ). (bit_at word i + k) % 2) (bit_at-pow_other t i n) ∙ small (bit_at word i) (bit_at-lt word i)))

same_bit : (word t : ℕ) → t < 64 → bit_at word t ≡ 1 → bit_at (bit_xor word (1 * 2 ^ t % 2 ^ 64)) t ≡ 0
same_bit word t h e =
    rw (one_shl t 64 h) (bit_at_xor word (2 ^ t) t ∙ (ap (λ (k : ℕ). (bit_at word t + k) % 2) (bit_at-pow_same t) ∙ ap (λ (k : ℕ). (k + 1) % 2) e))

-- the first of the places picked, and the others without its bit
pub record IsNext (word left from count t : ℕ) : Type 0 where
  pub within : t < count
  pub low : left < 2 ^ count
  pub places : picked word from count ≡ (from + t) ∷ picked left from count

below64 : (word count : ℕ) → count ≤ 64 → word < 2 ^ count → word < 2 ^ 64
below64 word count few low = by_order (cases_lt count 64)
  where
    by_order : (count < 64) ⊎ (64 ≤ count) → word < 2 ^ 64
    by_order (inl h) = omega (arith, low, pow_below count 64 h)
    by_order (inr h) = let n : count ≡ 64 = omega (arith, few, h) in subst (λ (k : ℕ). word < 2 ^ k) n low

-- where no bit below t is set, the places begin with that of t
from_bit : (v from count t : ℕ) → t < count → ((i : ℕ) → i < t → bit_at v i ≡ 0) → picked v from count ≡ cond (bit_at v t == 1) ((from + t) ∷ []) [] ++ gather (chosen v from) (from + t + 1) (count - t - 1)
from_bit v from count t first zeros =
    let all : from + count - from ≡ count = omega arith in
    let after : from + count - (from + t) ≡ count - t - 1 + 1 = omega (arith, first) in
    let here : from + t - from ≡ t = omega arith in
    let front = gather-nothing (chosen v from) from (from + t - from) (λ i l h. ap (λ (b : ℕ). cond (b == 1) (i ∷ []) []) (zeros (i - from) (omega (arith, l, h)))) in
    ap (λ (k : ℕ). gather (chosen v from) from k) (sym all)
    ∙ (gather-split (chosen v from) from (from + t) (from + count) (omega arith) (omega (arith, first))
    ∙ (ap (λ (xs : List ℕ). xs ++ gather (chosen v from) (from + t) (from + count - (from + t))) front
    ∙ (gather-more (chosen v from) (from + t) (from + count - (from + t)) (count - t - 1) after
    ∙ ap (λ (k : ℕ). cond (bit_at v k == 1) ((from + t) ∷ []) [] ++ gather (chosen v from) (from + t + 1) (count - t - 1)) here)))

pub next_picked : (word from count : ℕ) → 0 < word → count ≤ 64 → word < 2 ^ count → IsNext word (bit_xor word (1 * 2 ^ trailing_zeros w64 word % 2 ^ 64)) from count (trailing_zeros w64 word)
next_picked word from count some few low =
    let t : ℕ = trailing_zeros w64 word in
    let left : ℕ = bit_xor word (1 * 2 ^ t % 2 ^ 64) in
    let z = bit_at-trailing_zeros w64 word some (below64 word count few low) in
    let first : t < count = inside word count t low z.1 in
    let same : (i : ℕ) → i ≢ t → bit_at left i ≡ bit_at word i = λ i n. cleared_bit word t i z.0 n in
    let behind : gather (chosen left from) (from + t + 1) (count - t - 1) ≡ gather (chosen word from) (from + t + 1) (count - t - 1) =
    gather-alike (chosen left from) (chosen word from) (from + t + 1) (count - t - 1) (λ i l h. ap (λ (b : ℕ). cond (b == 1) (i ∷ []) []) (same (i - from) (λ e. omega (arith, l, e)))) in
    let rest : picked left from count ≡ gather (chosen word from) (from + t + 1) (count - t - 1) =
    from_bit left from count t first (λ i h. same i (λ e. omega (arith, h, e)) ∙ z.2 i h)
    ∙ (ap (λ (b : ℕ). cond (b == 1) ((from + t) ∷ []) [] ++ gather (chosen left from) (from + t + 1) (count - t - 1)) (same_bit word t z.0 z.1) ∙ behind) in
    record {
      within = first;
      low = rw (one_shl t 64 z.0) (xor_lt count word (2 ^ t) low (pow_below t count first));
      places = from_bit word from count t first z.2
          ∙ (ap (λ (b : ℕ). cond (b == 1) ((from + t) ∷ []) [] ++ gather (chosen word from) (from + t + 1) (count - t - 1)) z.1 ∙ ap (λ (xs : List ℕ). (from + t) ∷ xs) (sym rest));
    }

pub one_less : (word left from count t : ℕ) → IsNext word left from count t → length (picked word from count) ≡ suc (length (picked left from count))
one_less word left from count t n = ap length n.places
