-- Runs of equal bits in a word, and what is decoded for one run after another.
use Rattle.std.proofs.Common.{◌≡◌, ℕ, zero, suc, ◌+◌, ◌-◌, ◌/◌, ◌%◌, ◌^◌, ◌<◌, ◌≤◌, ◌==◌, Bool, true, false, true≢false, Some, List, [], ◌∷◌, ◌++◌, map, length, replicate, refl, arith, ap, sym, subst, ◌∙◌, append_assoc, length-append}
use Rattle.std.specs.Int.{bit_at, w64, trailing_ones, trailing_zeros}
use Rattle.std.proofs.lemmas.List.{map-append}
use Rattle.std.proofs.lemmas.Nat.{shr-shr}
use Rattle.std.proofs.lemmas.Nat.Bits.{bit_at_lowest, bit_at-suc}
use Rattle.columns_base.specs.declared.error.Error.{Error}
use Rattle.columns_core.proofs.Words.{ones_end, zeros_end}
use Rattle.columns_core.specs.Bits.{word_bits}
use Rattle.shredding.specs.Slot.{Slot, null, value}
use Rattle.read_walk.specs.Values.{Stored, Decodes, DecodesMixed, ones, spread, CannotDecode, bytes_in, bytes_of}
use Rattle.read_walk.proofs.Decoding.{slots-append, cannot-behind, cannot-more}
use Rattle.read_leaf.proofs.SetBits.{ones-append, spread-append, spread-all, spread-bytes}

-- ---- bits of a word

pub bits_split : (n m word : ℕ) → word_bits word (n + m) ≡ word_bits word n ++ word_bits (word / 2 ^ n) m
bits_split zero m word =
    let count : 0 + m ≡ m = omega arith in
    let same : word / 2 ^ 0 ≡ word = omega arith in
    rw (count, same) refl
bits_split (suc n) m word =
    let count : suc n + m ≡ suc (n + m) = omega arith in
    let place : suc n ≡ 1 + n = omega arith in
    let half : word / 2 ^ suc n ≡ word / 2 / 2 ^ n = ap (λ (k : ℕ). word / 2 ^ k) place ∙ sym (shr-shr word 1 n) in
    rw (count, half) (ap (λ (bs : List Bool). (word % 2 == 1) ∷ bs) (bits_split n m (word / 2)))

pub bits_alike : (n word : ℕ) (b : Bool) → ((i : ℕ) → i < n → (bit_at word i == 1) ≡ b) → word_bits word n ≡ replicate n b
bits_alike zero word b h = refl
bits_alike (suc n) word b h =
    let first : (word % 2 == 1) ≡ b = ap (λ (k : ℕ). k == 1) (sym (bit_at_lowest word)) ∙ h 0 (omega arith) in
    rw first (ap (λ (bs : List Bool). b ∷ bs) (bits_alike n (word / 2) b (λ i l. ap (λ (k : ℕ). k == 1) (sym (bit_at-suc word i)) ∙ h (suc i) (omega (arith, l)))))

pub ones_some : (word : ℕ) → word < 2 ^ 64 → (word % 2 == 1) ≡ true → 0 < trailing_ones w64 word
ones_some word l e = of (trailing_ones w64 word) refl
  where
    of : (run : ℕ) → trailing_ones w64 word ≡ run → 0 < trailing_ones w64 word
    of zero z = absurd (true≢false (sym e ∙ (ap (λ (k : ℕ). k == 1) (sym (bit_at_lowest word)) ∙ (ap (λ (k : ℕ). bit_at word k == 1) (sym z) ∙ ones_end word l (omega (arith, z))))))
    of (suc run) z = omega (arith, z)

pub zeros_some : (word : ℕ) → word < 2 ^ 64 → (word % 2 == 1) ≡ false → 0 < trailing_zeros w64 word
zeros_some word l e = of (trailing_zeros w64 word) refl
  where
    of : (run : ℕ) → trailing_zeros w64 word ≡ run → 0 < trailing_zeros w64 word
    of zero z = absurd (true≢false (sym (zeros_end word l (omega (arith, z))) ∙ (ap (λ (k : ℕ). bit_at word k == 1) z ∙ (ap (λ (k : ℕ). k == 1) (bit_at_lowest word) ∙ e))))
    of (suc run) z = omega (arith, z)

-- ---- one run after another

ones-copies : (n : ℕ) → ones (replicate n true) ≡ n
ones-copies zero = refl
ones-copies (suc n) = omega (arith, ones-copies n)

spread-nulls : (n : ℕ) → spread (replicate n false) [] ≡ replicate n null
spread-nulls zero = refl
spread-nulls (suc n) = ap (λ (t : List Slot). null ∷ t) (spread-nulls n)

no-ones : (n : ℕ) → ones (replicate n false) ≡ 0
no-ones zero = refl
no-ones (suc n) = omega (arith, no-ones n)

pub run-valid : (n : ℕ) (left left' : List Stored) (slots slots' : List Slot) → Decodes n left left' slots slots' → DecodesMixed (replicate n true) left left' slots slots'
run-valid n left left' slots slots' d =
    let same : spread (replicate n true) d.values ≡ map value d.values = ap (λ (k : ℕ). spread (replicate k true) d.values) (sym d.size) ∙ spread-all d.values in
    record { values = d.values; size = d.size ∙ sym (ones-copies n); taken = d.taken; pushed = d.pushed ∙ ap (λ (t : List Slot). slots ++ t) (sym same) }

pub run-cannot : (limit n : ℕ) (left : List Stored) (slots : List Slot) (e : Error) → CannotDecode limit n left slots e → CannotDecode limit (ones (replicate n true)) left slots e
run-cannot limit n left slots e c = subst (λ (k : ℕ). CannotDecode limit k left slots e) (sym (ones-copies n)) c

pub run-null : (n : ℕ) (left : List Stored) (slots slots' : List Slot) → slots' ≡ slots ++ replicate n null → DecodesMixed (replicate n false) left left slots slots'
run-null n left slots slots' p = record { values = []; size = sym (no-ones n); taken = refl; pushed = p ∙ ap (λ (t : List Slot). slots ++ t) (sym (spread-nulls n)) }

mixed-then : (bs cs : List Bool) (left left1 left2 : List Stored) (slots slots1 slots2 : List Slot) → DecodesMixed bs left left1 slots slots1 → DecodesMixed cs left1 left2 slots1 slots2 → DecodesMixed (bs ++ cs) left left2 slots slots2
mixed-then bs cs left left1 left2 slots slots1 slots2 a b = record {
  values = a.values ++ b.values;
  size = length-append a.values b.values ∙ omega (arith, a.size, b.size, ones-append bs cs);
  taken = a.taken ∙ (ap (λ (t : List Stored). map Some a.values ++ t) b.taken ∙ (sym (append_assoc (map Some a.values) (map Some b.values) left2) ∙ ap (λ (t : List Stored). t ++ left2) (sym (map-append Some a.values b.values))));
  pushed = b.pushed ∙ (ap (λ (t : List Slot). t ++ spread cs b.values) a.pushed ∙ (append_assoc slots (spread bs a.values) (spread cs b.values) ∙ ap (λ (t : List Slot). slots ++ t) (sym (spread-append bs cs a.values b.values a.size))));
}

cannot-then : (limit : ℕ) (bs cs : List Bool) (left left1 : List Stored) (slots slots1 : List Slot) (e : Error) → DecodesMixed bs left left1 slots slots1 → CannotDecode limit (ones cs) left1 slots1 e → CannotDecode limit (ones (bs ++ cs)) left slots e
cannot-then limit bs cs left left1 slots slots1 e a c =
    let grown : bytes_in slots1 ≡ bytes_in slots + bytes_of a.values = ap bytes_in a.pushed ∙ (slots-append slots (spread bs a.values) ∙ ap (λ (k : ℕ). bytes_in slots + k) (spread-bytes bs a.values a.size)) in
    cannot-more limit (length a.values + ones cs) (ones (bs ++ cs)) left slots e (omega (arith, a.size, ones-append bs cs)) (cannot-behind limit (ones cs) a.values left left1 slots slots1 e a.taken grown c)

-- the first of some bits were decoded; the word has the bits behind them
pub record AreDecoded (valid i word : ℕ) (left left' : List Stored) (slots slots' : List Slot) : Type 0 where
  pub behind : word ≡ valid / 2 ^ i
  pub so_far : DecodesMixed (word_bits valid i) left left' slots slots'

pub none-decoded : (valid i : ℕ) (left : List Stored) (slots : List Slot) → i ≡ 0 → AreDecoded valid i valid left left slots slots
none-decoded valid i left slots e =
    rw e record { behind = omega arith; so_far = run-null 0 left slots slots (empty-behind slots) }
  where
    empty-behind : (ss : List Slot) → ss ≡ ss ++ []
    empty-behind [] = refl
    empty-behind (s ∷ ss) = ap (λ (t : List Slot). s ∷ t) (empty-behind ss)

module _ (valid i word run : ℕ) (b : Bool) (left left1 : List Stored) (slots slots1 : List Slot) (alike : word_bits word run ≡ replicate run b) (d : AreDecoded valid i word left left1 slots slots1) where
  joined : word_bits valid (i + run) ≡ word_bits valid i ++ replicate run b
  joined = bits_split i run valid ∙ ap (λ (bs : List Bool). word_bits valid i ++ bs) (ap (λ (k : ℕ). word_bits k run) (sym d.behind) ∙ alike)

  pub more-decoded : (j word' : ℕ) (left2 : List Stored) (slots2 : List Slot) → j ≡ i + run → word' ≡ word / 2 ^ run → DecodesMixed (replicate run b) left1 left2 slots1 slots2 → AreDecoded valid j word' left left2 slots slots2
  more-decoded j word' left2 slots2 e w m = rw e record {
    behind = w ∙ (ap (λ (k : ℕ). k / 2 ^ run) d.behind ∙ shr-shr valid i run);
    so_far = subst (λ (bs : List Bool). DecodesMixed bs left left2 slots slots2) (sym joined) (mixed-then (word_bits valid i) (replicate run b) left left1 left2 slots slots1 slots2 d.so_far m);
  }

  pub run-refused : (limit n : ℕ) (e : Error) → i + run ≤ n → CannotDecode limit (ones (replicate run b)) left1 slots1 e → CannotDecode limit (ones (word_bits valid n)) left slots e
  run-refused limit n e h c =
      let rest = n - (i + run) in
      let whole : i + run + rest ≡ n = omega (arith, h) in
      let all : ones (word_bits valid n) ≡ ones (word_bits valid (i + run)) + ones (word_bits (valid / 2 ^ (i + run)) rest) = ap (λ (k : ℕ). ones (word_bits valid k)) (sym whole) ∙ (ap ones (bits_split (i + run) rest valid) ∙ ones-append (word_bits valid (i + run)) (word_bits (valid / 2 ^ (i + run)) rest)) in
      cannot-more limit (ones (word_bits valid i ++ replicate run b)) (ones (word_bits valid n)) left slots e (omega (arith, all, ap ones joined)) (cannot-then limit (word_bits valid i) (replicate run b) left left1 slots slots1 e d.so_far c)
