-- Runs of single bits as truth values.
use Rattle.std.proofs.Common.{◌≡◌, ◌⊎◌, inl, inr, ℕ, zero, suc, ◌+◌, ◌-◌, ◌*◌, ◌/◌, ◌%◌, ◌^◌, ◌<◌, ◌≤◌, ◌==◌, min, Bool, List, [], ◌∷◌, ◌++◌, length, replicate, Ok, Err, refl, sym, ap, ◌∙◌, arith}
use Rattle.std.specs.Prelude.{slice_index_or, Result, Some, IfOk, IfErr}
use Rattle.columns_base.specs.declared.error.Error.{Error}
use Rattle.pq_bitmaps.specs.declared.part.HybridEncoded.{HybridEncoded}
use Rattle.std.specs.Int.{bit_at}
use Rattle.std.proofs.lemmas.Bool.{cases_lt, lt-ltb, le-ltb}
use Rattle.std.proofs.lemmas.Nat.Bits.{bit_at-zero, bit_at_cat_low, bit_at_cat_high}
use Rattle.columns_core.specs.Bits.{bit_of, bits_from, word_bits}
use Rattle.columns_core.proofs.Words.{word_seen}
use Rattle.pq_numbers.specs.Bits.{digits_of, unpacked}
use Rattle.pq_numbers.specs.Texts.{number_of}
use Rattle.pq_numbers.proofs.Numbers.{varint-none}
use Rattle.pq_runs.specs.Hybrid.{Item, fault, given, hybrid, runs_items}
use Rattle.pq_runs.specs.Taking.{IsPackedRun, IsRepeatedRun, NoRun}
use Rattle.pq_runs.proofs.Complete.{none_left}
use Rattle.pq_runs.proofs.Fuel.{found_copies, found_nothing, found_packed}
use Rattle.pq_bitmaps.specs.Called.{Bit, Called, GivesRun, IsPart, bits_called, bits_in, given_bits, truths}

-- ---- the bits of a number

no_byte : (k : ℕ) → ◌≡◌ {A = ℕ} (slice_index_or [] k 0) 0
no_byte zero = refl
no_byte (suc k) = refl

-- a bit of bytes is that of the number that they spell
number_bit : (bs : List ℕ) → ((i : ℕ) → slice_index_or bs i 0 < 2 ^ 8) → (i : ℕ) → bit_of bs i ≡ (bit_at (number_of bs) i == 1)
number_bit [] low i = ap (λ (b : ℕ). bit_at b (i % 8) == 1) (no_byte (i / 8)) ∙ ap (λ (b : ℕ). b == 1) (bit_at-zero (i % 8) ∙ sym (bit_at-zero i))
number_bit (b ∷ bs) low i = by (cases_lt i 8) (number_bit bs (λ j. low (suc j)) (i - 8))
  where
    whole : b + 256 * number_of bs ≡ number_of bs * 2 ^ 8 + b
    whole = omega arith

    by : (i < 8) ⊎ (8 ≤ i) → bit_of bs (i - 8) ≡ (bit_at (number_of bs) (i - 8) == 1) → bit_of (b ∷ bs) i ≡ (bit_at (b + 256 * number_of bs) i == 1)
    by (inl h) g =
        let q : i / 8 ≡ 0 = omega (arith, h) in
        let r : i % 8 ≡ i = omega (arith, h) in
        rw (q, r, whole) (ap (λ (n : ℕ). n == 1) (sym (bit_at_cat_low (number_of bs) 8 b i h)))
    by (inr h) g =
        let q : i / 8 ≡ suc ((i - 8) / 8) = omega (arith, h) in
        let r : i % 8 ≡ (i - 8) % 8 = omega (arith, h) in
        rw (q, r, whole) (g ∙ ap (λ (n : ℕ). n == 1) (sym (bit_at_cat_high (number_of bs) 8 b i (low 0) h)))

bits_of_number : (bs : List ℕ) (n : ℕ) → ((i : ℕ) → slice_index_or bs i 0 < 2 ^ 8) → bits_from bs 0 n ≡ word_bits (number_of bs) n
bits_of_number bs n low = word_seen bs 0 n (number_of bs) (λ i h. let z : 0 + i ≡ i = omega arith in ap (bit_of bs) z ∙ number_bit bs low i)

-- ---- the truth values of numbers

truths_digits : (n m : ℕ) (more : List Item) → truths (given (digits_of (2 ^ 1) n m) ++ more) ≡ given_bits (word_bits m n) ++ truths more
truths_digits zero m more = refl
truths_digits (suc n) m more =
    let low : m % 2 < 2 = omega arith in
    rw (lt-ltb (m % 2) 2 low) (ap (λ (t : List Bit). Ok (m % 2 == 1) ∷ t) (truths_digits n (m / 2) more))

truths_copies : (k v : ℕ) (more : List Item) → v < 2 → truths (given (replicate k v) ++ more) ≡ given_bits (replicate k (v == 1)) ++ truths more
truths_copies zero v more low = refl
truths_copies (suc k) v more low = rw (lt-ltb v 2 low) (ap (λ (t : List Bit). Ok (v == 1) ∷ t) (truths_copies k v more low))

truths_stop : (k v : ℕ) (more : List Item) → 0 < k → 2 ≤ v → truths (given (replicate k v) ++ more) ≡ Err fault ∷ []
truths_stop zero v more some high = absurd (omega (arith, some))
truths_stop (suc k) v more some high = rw (le-ltb v 2 high) refl

-- ---- the run at the front

at_one : (n : ℕ) (bytes : List ℕ) → bits_called n bytes ≡ truths (runs_items (length bytes) 1 n bytes)
unfolding hybrid
at_one n bytes = refl

pub none_called : (bytes : List ℕ) → bits_called 0 bytes ≡ []
none_called bytes = at_one 0 bytes ∙ ap truths (none_left (length bytes) 1 bytes)

copies_found : (n m k : ℕ) (bytes value rest : List ℕ) → 0 < n → IsRepeatedRun 1 bytes value m rest → k ≡ min m n → bits_called n bytes ≡ truths (given (replicate k (number_of value)) ++ runs_items (length rest) 1 (n - k) rest)
copies_found n m k bytes value rest some r is = at_one n bytes ∙ rw is (ap truths (found_copies 1 n m bytes value rest some r))

pub copies_called : (n m k : ℕ) (bytes value rest : List ℕ) → 0 < n → IsRepeatedRun 1 bytes value m rest → k ≡ min m n → number_of value < 2 → bits_called n bytes ≡ given_bits (replicate k (number_of value == 1)) ++ bits_called (n - k) rest
copies_called n m k bytes value rest some r is low =
    copies_found n m k bytes value rest some r is
    ∙ truths_copies k (number_of value) (runs_items (length rest) 1 (n - k) rest) low
    ∙ ap (λ (t : List Bit). given_bits (replicate k (number_of value == 1)) ++ t) (sym (at_one (n - k) rest))

pub no_copies_called : (n m k : ℕ) (bytes value rest : List ℕ) → 0 < n → IsRepeatedRun 1 bytes value m rest → k ≡ min m n → k ≡ 0 → bits_called n bytes ≡ bits_called n rest
no_copies_called n m k bytes value rest some r is none =
    let z : n - 0 ≡ n = omega arith in
    copies_found n m k bytes value rest some r is ∙ rw (none, z) (sym (at_one n rest))

pub copies_fail : (n m k : ℕ) (bytes value rest : List ℕ) → 0 < n → IsRepeatedRun 1 bytes value m rest → k ≡ min m n → 0 < k → 2 ≤ number_of value → bits_called n bytes ≡ Err fault ∷ []
copies_fail n m k bytes value rest some r is any high = copies_found n m k bytes value rest some r is ∙ truths_stop k (number_of value) (runs_items (length rest) 1 (n - k) rest) any high

pub packed_called : (n k : ℕ) (bytes body rest : List ℕ) → 0 < n → IsPackedRun 1 bytes body rest → k ≡ min n (8 * length body) → ((i : ℕ) → slice_index_or body i 0 < 2 ^ 8) → bits_called n bytes ≡ given_bits (bits_from body 0 k) ++ bits_called (n - k) rest
packed_called n k bytes body rest some r is low =
    let one : 8 * length body / 1 ≡ 8 * length body = omega arith in
    let found : runs_items (length bytes) 1 n bytes ≡ given (unpacked 1 k body) ++ runs_items (length rest) 1 (n - k) rest = rw is (rw one at (found_packed 1 n bytes body rest (omega arith) some r)) in
    at_one n bytes
    ∙ ap truths found
    ∙ truths_digits k (number_of body) (runs_items (length rest) 1 (n - k) rest)
    ∙ ap (λ (t : List Bool). given_bits t ++ truths (runs_items (length rest) 1 (n - k) rest)) (sym (bits_of_number body k low))
    ∙ ap (λ (t : List Bit). given_bits (bits_from body 0 k) ++ t) (sym (at_one (n - k) rest))

pub nothing_called : (n : ℕ) (bytes : List ℕ) → 0 < n → NoRun 1 bytes → bits_called n bytes ≡ Err fault ∷ []
nothing_called n bytes some h = at_one n bytes ∙ ap truths (found_nothing 1 n bytes some h)

pub no_run : (bytes : List ℕ) → bytes ≡ [] → NoRun 1 bytes
no_run bytes e = rw e (inl varint-none)

-- ---- the steps of the iterator

pub ends : (left : ℕ) (bytes : List ℕ) {x : Called} → left ≡ 0 → (left ≡ 0) × (bits_called left bytes ≡ []) × (x ≡ x)
ends left bytes e = (e, ap (λ (n : ℕ). bits_called n bytes) e ∙ none_called bytes, refl)

pub gives_run : (left left' : ℕ) (bytes bytes' : List ℕ) (r : Result HybridEncoded Error)
    → IfOk r (λ part. IsPart part × (0 < length (bits_in part)) × (left' + length (bits_in part) ≡ left))
    → IfOk r (λ part. bits_called left bytes ≡ given_bits (bits_in part) ++ bits_called left' bytes')
    → IfErr r (λ e. (e ≡ fault) × (bits_called left bytes ≡ Err fault ∷ []) × (left' ≡ 0))
    → GivesRun (record { left = left; bits = bits_called left bytes }) (Some r) (record { left = left'; bits = bits_called left' bytes' })
gives_run left left' bytes bytes' (Ok part) is ok err = (is.0, is.1, sym is.2, ok)
gives_run left left' bytes bytes' (Err e) is ok err = (err.0, err.1, err.2, ap (λ (n : ℕ). bits_called n bytes') err.2 ∙ none_called bytes')
