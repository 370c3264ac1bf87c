-- Packed numbers that are filled up with zeros.
use Rattle.std.proofs.Common.{◌≡◌, ℕ, zero, suc, ◌+◌, ◌*◌, ◌/◌, ◌%◌, ◌^◌, ◌<◌, List, [], ◌∷◌, ◌++◌, length, replicate, All, refl, ap, ◌∙◌, arith}
use Rattle.std.proofs.Math.Nat.{div-eq_of_lt}
use Rattle.std.proofs.lemmas.Nat.{pow_pos}
use Rattle.pq_numbers.specs.Bits.{digits_of}
use Rattle.pq_numbers.specs.Texts.{number_of}
use Rattle.pq_numbers.proofs.Digits.{number_of-append}
use Rattle.pq_runs.specs.Words.{word_of}
use Rattle.pq_runs.proofs.Fields.{digits-parts}
use Rattle.pq_runs.proofs.Groups.{below_word}
use Rattle.pq_runs.proofs.Packs.{digits-word_of}

zero_number : (n : ℕ) → number_of (replicate n 0) ≡ 0
zero_number zero = refl
zero_number (suc n) = omega (arith, zero_number n)

pub number_of-zeros : (text : List ℕ) (n : ℕ) → number_of (text ++ replicate n 0) ≡ number_of text
number_of-zeros text n = number_of-append text (replicate n 0) ∙ ap (λ (x : ℕ). number_of text + 2 ^ (8 * length text) * x) (zero_number n) ∙ omega arith

pub word-below : (w : ℕ) (xs : List ℕ) → All (λ v. v < 2 ^ w) xs → word_of w xs < 2 ^ (w * length xs)
word-below w [] h = let e : w * length {A = ℕ} [] ≡ 0 = omega arith in rw e (omega arith)
word-below w (x ∷ xs) h =
    let e : w * length xs + w ≡ w * suc (length xs) = omega arith in
    rw (← e) (below_word w (w * length xs) (word_of w xs) x (word-below w xs (λ k d lt. h (suc k) d (omega (arith, lt)))) (h 0 0 (omega arith)))

zero_digits : (b n : ℕ) → 0 < b → digits_of b n 0 ≡ replicate n 0
zero_digits b zero h = refl
zero_digits b (suc n) h =
    let low : 0 % b ≡ 0 = omega (arith, h) in
    let high : 0 / b ≡ 0 = omega (arith, h) in
    rw (low, high) (ap (λ (t : List ℕ). 0 ∷ t) (zero_digits b n h))

pub digits-filled : (w : ℕ) (xs : List ℕ) (k : ℕ) → All (λ v. v < 2 ^ w) xs → digits_of (2 ^ w) (length xs + k) (word_of w xs) ≡ xs ++ replicate k 0
digits-filled w xs k h =
    let none : word_of w xs / 2 ^ (w * length xs) ≡ 0 = div-eq_of_lt (word-below w xs h) in
    digits-parts w (length xs) k (word_of w xs)
    ∙ ap (λ (t : List ℕ). t ++ digits_of (2 ^ w) k (word_of w xs / 2 ^ (w * length xs))) (digits-word_of w xs h)
    ∙ ap (λ (x : ℕ). xs ++ digits_of (2 ^ w) k x) none
    ∙ ap (λ (t : List ℕ). xs ++ t) (zero_digits (2 ^ w) k (pow_pos w))
