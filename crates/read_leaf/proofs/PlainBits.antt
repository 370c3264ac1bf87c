-- Plain truth values as the bits of their bytes (Parquet format, Encodings, "Plain").
use Rattle.std.proofs.Common.{◌≡◌, ◌⊎◌, inl, inr, ℕ, zero, suc, ◌+◌, ◌-◌, ◌*◌, ◌/◌, ◌%◌, ◌^◌, ◌<◌, ◌≤◌, ◌==◌, Bool, List, [], ◌∷◌, ◌++◌, map, length, drop, refl, ap, sym, ◌∙◌, arith, append_assoc}
use Rattle.std.specs.Prelude.{slice_index_or}
use Rattle.std.specs.Int.{bit_at}
use Rattle.std.proofs.lemmas.Bool.{cases_lt}
use Rattle.std.proofs.lemmas.List.{drop-map, get_or-drop, length-drop}
use Rattle.std.proofs.lemmas.Nat.Bits.{bit_at-zero, bit_at_cat_low, bit_at_cat_high}
use Rattle.columns_core.specs.Bits.{bit_of, bits_from, word_bits}
use Rattle.columns_core.proofs.Packed.{bits_split, same_runs}
use Rattle.columns_core.proofs.Words.{word_seen}
use Rattle.pq_numbers.specs.Bits.{digits_of, unpacked}
use Rattle.pq_numbers.specs.Texts.{number_of}
use Rattle.read_leaf.specs.Truths.{plain_truths, TookTruths}
use Rattle.columns_core.proofs.Bits.{length_bits}

no_byte : (k : ℕ) → ◌≡◌ {A = ℕ} (slice_index_or [] k 0) 0
no_byte zero = refl
no_byte (suc k) = refl

-- a bit of bytes is that of the number that they spell
number_bit : (bs : List ℕ) → ((i : ℕ) → slice_index_or bs i 0 < 2 ^ 8) → (i : ℕ) → bit_of bs i ≡ (bit_at (number_of bs) i == 1)
number_bit [] low i = ap (λ (b : ℕ). bit_at b (i % 8) == 1) (no_byte (i / 8)) ∙ ap (λ (b : ℕ). b == 1) (bit_at-zero (i % 8) ∙ sym (bit_at-zero i))
number_bit (b ∷ bs) low i = by (cases_lt i 8) (number_bit bs (λ j. low (suc j)) (i - 8))
  where
    whole : b + 256 * number_of bs ≡ number_of bs * 2 ^ 8 + b
    whole = omega arith

    by : (i < 8) ⊎ (8 ≤ i) → bit_of bs (i - 8) ≡ (bit_at (number_of bs) (i - 8) == 1) → bit_of (b ∷ bs) i ≡ (bit_at (b + 256 * number_of bs) i == 1)
    by (inl h) g =
        let q : i / 8 ≡ 0 = omega (arith, h) in
        let r : i % 8 ≡ i = omega (arith, h) in
        rw (q, r, whole) (ap (λ (n : ℕ). n == 1) (sym (bit_at_cat_low (number_of bs) 8 b i h)))
    by (inr h) g =
        let q : i / 8 ≡ suc ((i - 8) / 8) = omega (arith, h) in
        let r : i % 8 ≡ (i - 8) % 8 = omega (arith, h) in
        rw (q, r, whole) (g ∙ ap (λ (n : ℕ). n == 1) (sym (bit_at_cat_high (number_of bs) 8 b i (low 0) h)))

bits_of_number : (bs : List ℕ) (n : ℕ) → ((i : ℕ) → slice_index_or bs i 0 < 2 ^ 8) → bits_from bs 0 n ≡ word_bits (number_of bs) n
bits_of_number bs n low = word_seen bs 0 n (number_of bs) (λ i h. let z : 0 + i ≡ i = omega arith in ap (bit_of bs) z ∙ number_bit bs low i)

pub digit_bits : (n m : ℕ) → map (λ (d : ℕ). d == 1) (digits_of (2 ^ 1) n m) ≡ word_bits m n
digit_bits zero m = refl
digit_bits (suc n) m = ap (λ (bs : List Bool). (m % 2 == 1) ∷ bs) (digit_bits n (m / 2))

drop_bits : (bs : List ℕ) (at n k : ℕ) → drop k (bits_from bs at n) ≡ bits_from bs (at + k) (n - k)
drop_bits bs at n zero = let p : at + 0 ≡ at = omega arith in let q : n - 0 ≡ n = omega arith in rw (p, q) refl
drop_bits bs at zero (suc k) = let q : 0 - suc k ≡ 0 = omega arith in rw q refl
drop_bits bs at (suc n) (suc k) =
    let p : at + suc k ≡ at + 1 + k = omega arith in
    let q : suc n - suc k ≡ n - k = omega arith in
    rw (p, q) (drop_bits bs (at + 1) n k)

-- those from a bit on, of bytes
pub plain_seen : (text : List ℕ) (bit : ℕ) → ((i : ℕ) → slice_index_or text i 0 < 2 ^ 8) → plain_truths text bit ≡ bits_from text bit (8 * length text - bit)
plain_seen text bit low =
    let n = 8 * length text in
    let z : 0 + bit ≡ bit = omega arith in
    sym (drop-map (λ (d : ℕ). d == 1) bit (unpacked 1 n text))
    ∙ (ap (drop bit) (digit_bits n (number_of text) ∙ sym (bits_of_number text n low)) ∙ (drop_bits text 0 n bit ∙ ap (λ (k : ℕ). bits_from text k (n - bit)) z))

-- the first of them, and those behind
pub next_truths : (text rest : List ℕ) (bit count end : ℕ) → ((i : ℕ) → slice_index_or text i 0 < 2 ^ 8) → end ≡ bit + count → end ≤ 8 * length text → rest ≡ drop (end / 8) text → TookTruths count text bit rest (end % 8) (bits_from text bit count)
next_truths text rest bit count end low is within e =
    let k = end / 8 in
    let r = end % 8 in
    let n = 8 * length text - end in
    let parts : 8 * length text - bit ≡ count + n = omega (arith, is, within) in
    let left : 8 * length (drop k text) - r ≡ n = omega (arith, length-drop k text, within) in
    let rest_low : (i : ℕ) → slice_index_or (drop k text) i 0 < 2 ^ 8 = λ i. rw (get_or-drop k text i 0) (low (k + i)) in
    let same : bits_from (drop k text) r n ≡ bits_from text (bit + count) n = same_runs (drop k text) text r (bit + count) n (λ i h.
    let q : (bit + count + i) / 8 ≡ k + (r + i) / 8 = omega (arith, is) in
    let p : (bit + count + i) % 8 ≡ (r + i) % 8 = omega (arith, is) in
    rw (q, p, get_or-drop k text ((r + i) / 8) 0) refl) in
    let behind : plain_truths (drop k text) r ≡ bits_from text (bit + count) n = plain_seen (drop k text) r rest_low ∙ (ap (bits_from (drop k text) r) left ∙ same) in
    record {
      count = length_bits text bit count;
      taken = plain_seen text bit low ∙ (ap (bits_from text bit) parts ∙ (bits_split text bit count n ∙ ap (λ (bs : List Bool). bits_from text bit count ++ bs) (sym behind ∙ ap (λ (t : List ℕ). plain_truths t r) (sym e))));
    }

-- bits behind bits
pub bits-joined : (before now new : List Bool) (bytes : List ℕ) (bit done n : ℕ) → now ≡ before ++ bits_from bytes bit done → new ≡ now ++ bits_from bytes (bit + done) n → new ≡ before ++ bits_from bytes bit (done + n)
bits-joined before now new bytes bit done n e f =
    f
    ∙ (ap (λ (bs : List Bool). bs ++ bits_from bytes (bit + done) n) e
    ∙ (append_assoc before (bits_from bytes bit done) (bits_from bytes (bit + done) n) ∙ ap (λ (bs : List Bool). before ++ bs) (sym (bits_split bytes bit done n))))
