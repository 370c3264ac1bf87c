-- Bits of words as slots that are there.
use Rattle.std.proofs.Common.{◌≡◌, ℕ, zero, suc, cond, ◌-◌, ◌+◌, ◌/◌, ◌%◌, ◌^◌, ◌≤◌, ◌<◌, Bool, true, false, min, ◌⊎◌, inl, inr, refl, ap, sym, ◌∙◌, arith}
use Rattle.std.specs.Prelude.{◌==◌, bit_and}
use Rattle.std.specs.Int.{bit_at, w64, trailing_zeros, trailing_ones}
use Rattle.std.proofs.lemmas.Bool.{cases_lt}
use Rattle.std.proofs.lemmas.Nat.{shr-shr, shr_le, and_le_l}
use Rattle.std.proofs.lemmas.Nat.Bits.{ones_shr, bit_at_ones, bit_at_above, bit_at_and, bit_at-lt, bit_at-zero, bit_at-trailing_zeros, bit_at-trailing_ones}
use Rattle.write_places.specs.Reach.{IsRun}

pub low_ones : (count : ℕ) → count ≤ 64 → 18446744073709551615 / 2 ^ (64 - count) ≡ 2 ^ count - 1
low_ones count h =
    let e : 64 - (64 - count) ≡ count = omega (arith, h) in
    ones_shr 64 (64 - count) (omega (arith, h)) ∙ ap (λ (k : ℕ). 2 ^ k - 1) e

pub full_bits : (word count i : ℕ) → word ≡ 2 ^ count - 1 → i < count → (bit_at word i == 1) ≡ true
full_bits word count i e h = rw (e, bit_at_ones count i h) refl

pub zero_bits : (word i : ℕ) → word ≡ 0 → (bit_at word i == 1) ≡ false
zero_bits word i e = rw (e, bit_at-zero i) refl

both : (a b : ℕ) → a < 2 → b < 2 → (min a b == 1) ≡ cond (a == 1) (b == 1) false
both zero zero h k = refl
both zero (suc zero) h k = refl
both (suc zero) zero h k = refl
both (suc zero) (suc zero) h k = refl
both (suc (suc a)) b h k = absurd (omega (arith, h))
both a (suc (suc b)) h k = absurd (omega (arith, k))

-- a bit of two words at once
pub and_bits : (v w i : ℕ) (b c : Bool) → (bit_at v i == 1) ≡ b → (bit_at w i == 1) ≡ c → (bit_at (bit_and v w) i == 1) ≡ cond b c false
and_bits v w i b c e f = ap (λ (k : ℕ). k == 1) (bit_at_and v w i) ∙ (both (bit_at v i) (bit_at w i) (bit_at-lt v i) (bit_at-lt w i) ∙ rw (e, f) refl)

cond_cond : (a b c : Bool) → cond (cond a b false) c false ≡ cond a (cond b c false) false
cond_cond true b c = refl
cond_cond false b c = refl

-- a bit of three words at once
pub three_bits : (u v w i : ℕ) (a b c : Bool) → (bit_at u i == 1) ≡ a → (bit_at v i == 1) ≡ b → (bit_at w i == 1) ≡ c → (bit_at (bit_and (bit_and u v) w) i == 1) ≡ cond a (cond b c false) false
three_bits u v w i a b c e f g = and_bits (bit_and u v) w i (cond a b false) c (and_bits u v i a b e f) g ∙ cond_cond a b c

pub and_low : (v w n : ℕ) → v < n → bit_and v w < n
and_low v w n h = omega (arith, h, and_le_l v w)

-- a slot by its bit
pub from_word : (at : ℕ → Bool) (place count word i v : ℕ) (b : Bool) → ((j : ℕ) → j < count → (bit_at word j == 1) ≡ at (place + j)) → place ≤ i → i < place + count → bit_at word (i - place) ≡ v → (v == 1) ≡ b → at i ≡ b
from_word at place count word i v b bits low high e f =
    let n : place + (i - place) ≡ i = omega (arith, low) in
    ap at (sym n) ∙ (sym (bits (i - place) (omega (arith, low, high))) ∙ (ap (λ (k : ℕ). k == 1) e ∙ f))

shifted : (word gap i : ℕ) → bit_at (word / 2 ^ gap) i ≡ bit_at word (gap + i)
shifted word gap i = ap (λ (k : ℕ). k % 2) (shr-shr word gap i)

one_or_none : (a : ℕ) → a ≡ 1 → a ≡ 0 → ⊥
one_or_none a e f = omega (arith, e, f)

pub inside : (word count i : ℕ) → word < 2 ^ count → bit_at word i ≡ 1 → i < count
inside word count i low e = by_order (cases_lt i count)
  where
    by_order : (i < count) ⊎ (count ≤ i) → i < count
    by_order (inl h) = h
    by_order (inr h) = absurd (one_or_none (bit_at word i) e (bit_at_above word count i low h))

some_ones : (word gap run : ℕ) → bit_at word gap ≡ 1 → bit_at (word / 2 ^ gap) run ≡ 0 → 0 < run
some_ones word gap zero e f =
    let n : gap + 0 ≡ gap = omega arith in
    absurd (one_or_none (bit_at word gap) e (ap (bit_at word) (sym n) ∙ (sym (shifted word gap 0) ∙ f)))
some_ones word gap (suc run) e f = omega arith

few_ones : (word count gap run : ℕ) → word < 2 ^ count → gap < count → ((i : ℕ) → i < run → bit_at (word / 2 ^ gap) i ≡ 1) → gap + run ≤ count
few_ones word count gap run low first ones = by_order (cases_lt count (gap + run))
  where
    by_order : (count < gap + run) ⊎ (gap + run ≤ count) → gap + run ≤ count
    by_order (inl h) =
        let n : gap + (count - gap) ≡ count = omega (arith, first) in
        absurd (one_or_none (bit_at word count) (ap (bit_at word) (sym n) ∙ (sym (shifted word gap (count - gap)) ∙ ones (count - gap) (omega (arith, h, first)))) (bit_at_above word count count low (omega arith)))
    by_order (inr h) = h

pub run_is : (at : ℕ → Bool) (place to count word : ℕ) → count ≤ 64 → place + count ≤ to → word < 2 ^ count → ((j : ℕ) → j < count → (bit_at word j == 1) ≡ at (place + j)) → 0 < word → word < 18446744073709551615
    → IsRun at place to (place + trailing_zeros w64 word) (place + trailing_zeros w64 word + trailing_ones w64 (word / 2 ^ trailing_zeros w64 word))
run_is at place to count word few within low bits some most =
    let gap : ℕ = trailing_zeros w64 word in
    let rest : ℕ = word / 2 ^ gap in
    let run : ℕ = trailing_ones w64 rest in
    let z = bit_at-trailing_zeros w64 word some (omega (arith, most)) in
    let o = bit_at-trailing_ones w64 rest (omega (arith, most, shr_le word gap)) in
    let first : gap < count = inside word count gap low z.1 in
    let more : 0 < run = some_ones word gap run z.1 o.1 in
    let last : gap + run ≤ count = few_ones word count gap run low first o.2 in
    record {
      before = omega arith;
      ordered = omega arith;
      after = omega (arith, more);
      within = omega (arith, last, within);
      gap = λ i l h. from_word at place count word i 0 false bits l (omega (arith, h, first)) (z.2 (i - place) (omega (arith, l, h))) refl;
      run = λ i l h.
          let n : gap + (i - (place + gap)) ≡ i - place = omega (arith, l) in
          from_word at place count word i 1 true bits (omega (arith, l)) (omega (arith, h, last)) (ap (bit_at word) (sym n) ∙ (sym (shifted word gap (i - (place + gap))) ∙ o.2 (i - (place + gap)) (omega (arith, l, h)))) refl;
    }

-- where a word has no bit, none of its slots is there
pub no_run : (at : ℕ → Bool) (place to count word : ℕ) → 0 < count → place + count ≤ to → ((j : ℕ) → j < count → (bit_at word j == 1) ≡ at (place + j)) → word ≡ 0 → IsRun at place to (place + count) (place + count)
no_run at place to count word some within bits e = record {
  before = omega arith;
  ordered = omega arith;
  after = omega (arith, some);
  within = within;
  gap = λ i l h. from_word at place count word i _ false bits l h refl (zero_bits word (i - place) e);
  run = λ i l h. absurd (omega (arith, l, h));
}

-- where it has all, they are
pub whole_run : (at : ℕ → Bool) (place to count word : ℕ) → 0 < count → count ≤ 64 → place + count ≤ to → ((j : ℕ) → j < count → (bit_at word j == 1) ≡ at (place + j)) → word ≡ 18446744073709551615 → IsRun at place to place (place + count)
whole_run at place to count word some few within bits e = record {
  before = omega arith;
  ordered = omega (arith, some);
  after = omega (arith, some);
  within = within;
  gap = λ i l h. absurd (omega (arith, l, h));
  run = λ i l h. from_word at place count word i _ true bits l h refl (full_bits word 64 (i - place) e (omega (arith, l, h, few)));
}

-- where a word has all, its slots are there, and those behind it as before
pub full_more : (at : ℕ → Bool) (place count end word : ℕ) → word ≡ 2 ^ count - 1 → ((j : ℕ) → j < count → (bit_at word j == 1) ≡ at (place + j)) → ((i : ℕ) → place + count ≤ i → i < end → at i ≡ true) → (i : ℕ) → place ≤ i → i < end → at i ≡ true
full_more at place count end word e bits there i low high = by_order (cases_lt i (place + count))
  where
    by_order : (i < place + count) ⊎ (place + count ≤ i) → at i ≡ true
    by_order (inl h) = from_word at place count word i _ true bits low h refl (full_bits word count (i - place) e (omega (arith, low, h)))
    by_order (inr h) = there i h high

-- slots that are there, and those of a word that has all
pub full_further : (at : ℕ → Bool) (from place count word : ℕ) → word ≡ 2 ^ count - 1 → ((j : ℕ) → j < count → (bit_at word j == 1) ≡ at (place + j)) → ((i : ℕ) → from ≤ i → i < place → at i ≡ true) → (i : ℕ) → from ≤ i → i < place + count → at i ≡ true
full_further at from place count word e bits there i low high = by_order (cases_lt i place)
  where
    by_order : (i < place) ⊎ (place ≤ i) → at i ≡ true
    by_order (inl h) = there i low h
    by_order (inr h) = from_word at place count word i _ true bits h high refl (full_bits word count (i - place) e (omega (arith, h, high)))
