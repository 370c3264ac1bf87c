-- Bits of whole words.
use Rattle.std.proofs.Common.{◌≡◌, ◌≢◌, ◌⊎◌, ℕ, zero, suc, ◌+◌, ◌-◌, ◌*◌, ◌/◌, ◌%◌, ◌^◌, ◌<◌, ◌≤◌, ◌==◌, replicate, ◌∷◌, List, ◌++◌, Bool, true, false, length, take, drop, slice_index_or, length-take, add-zero, zero-add, refl, ap, ap₂, sym, ◌∙◌, inl, inr, arith}
use Rattle.columns_core.specs.Bits.{bit_of, bits_from, word_bits}
use Rattle.std.specs.Int.{bit_at, bit_not, byte_at, bytes_low_first, trailing_ones, trailing_zeros, w64}
use Rattle.std.specs.Int.Count.{count_trailing_zeros, trailing_of_zero}
use Rattle.std.proofs.lemmas.List.{get_or-drop, get_or-take, get_or_append_left, get_or-append_right}
use Rattle.std.proofs.lemmas.Nat.{div-add-mod', mod_below, pow_pos, pow-add, trailing_le}
use Rattle.std.proofs.Math.Nat.{pow-suc}
use Rattle.std.proofs.Math.Pow.{pow-lt}
use Rattle.std.proofs.lemmas.Nat.Bits.{bit_at-suc, bit_at-zero, bit_at_ones, bit_at-trailing_ones, bit_at-trailing_zeros, bit_at_cat_low, bit_at_cat_high}
use Rattle.columns_core.proofs.Bits.{same_bits}
use Rattle.columns_core.proofs.Packed.{bits_split, shifted_bit, below_or_from}

-- a number's low bits are those of the number
pub low_bit : (n w i : ℕ) → i < w → bit_at (n % 2 ^ w) i ≡ bit_at n i
low_bit n w i h = sym (ap (λ m. bit_at m i) (sym (div-add-mod' n (2 ^ w))) ∙ bit_at_cat_low (n / 2 ^ w) w (n % 2 ^ w) i h)

power_of_bytes : (k : ℕ) → 256 ^ k ≡ 2 ^ (8 * k)
power_of_bytes zero = refl
power_of_bytes (suc k) =
    let e : 8 * suc k ≡ 8 * k + 8 = omega arith in
    rw (e, pow-add 2 (8 * k) 8, pow-suc 256 k, power_of_bytes k) refl

byte_bit : (k n r : ℕ) → r < 8 → bit_at (byte_at k n) r ≡ bit_at n (8 * k + r)
byte_bit zero n r h = let e : 8 * zero + r ≡ r = omega arith in rw e (low_bit n 8 r h)
byte_bit (suc k) n r h = rw (power_of_bytes (suc k)) (low_bit (n / 2 ^ (8 * suc k)) 8 r h ∙ shifted_bit n (8 * suc k) r)

nth_byte : (i k n j : ℕ) → j < k → slice_index_or (bytes_low_first i k n) j 0 ≡ byte_at (i + j) n
nth_byte i zero n j h = absurd (omega (arith, h))
nth_byte i (suc k) n zero h = rw (add-zero i) refl
nth_byte i (suc k) n (suc j) h = let e : suc i + j ≡ i + suc j = omega arith in nth_byte (suc i) k n j (omega (arith, h)) ∙ rw e refl

-- sixteen bytes of a number are the eight of each half
pub two_words : (n : ℕ) → bytes_low_first 0 16 n ≡ bytes_low_first 0 8 (n % 2 ^ 64) ++ bytes_low_first 0 8 (n / 2 ^ 64)
two_words n =
    let a0 : n % 256 ≡ n % 2 ^ 64 % 256 = omega arith in
    let a1 : n / 256 ^ 1 % 256 ≡ n % 2 ^ 64 / 256 ^ 1 % 256 = omega arith in
    let a2 : n / 256 ^ 2 % 256 ≡ n % 2 ^ 64 / 256 ^ 2 % 256 = omega arith in
    let a3 : n / 256 ^ 3 % 256 ≡ n % 2 ^ 64 / 256 ^ 3 % 256 = omega arith in
    let a4 : n / 256 ^ 4 % 256 ≡ n % 2 ^ 64 / 256 ^ 4 % 256 = omega arith in
    let a5 : n / 256 ^ 5 % 256 ≡ n % 2 ^ 64 / 256 ^ 5 % 256 = omega arith in
    let a6 : n / 256 ^ 6 % 256 ≡ n % 2 ^ 64 / 256 ^ 6 % 256 = omega arith in
    let a7 : n / 256 ^ 7 % 256 ≡ n % 2 ^ 64 / 256 ^ 7 % 256 = omega arith in
    let b0 : n / 256 ^ 8 % 256 ≡ n / 2 ^ 64 % 256 = omega arith in
    let b1 : n / 256 ^ 9 % 256 ≡ n / 2 ^ 64 / 256 ^ 1 % 256 = omega arith in
    let b2 : n / 256 ^ 10 % 256 ≡ n / 2 ^ 64 / 256 ^ 2 % 256 = omega arith in
    let b3 : n / 256 ^ 11 % 256 ≡ n / 2 ^ 64 / 256 ^ 3 % 256 = omega arith in
    let b4 : n / 256 ^ 12 % 256 ≡ n / 2 ^ 64 / 256 ^ 4 % 256 = omega arith in
    let b5 : n / 256 ^ 13 % 256 ≡ n / 2 ^ 64 / 256 ^ 5 % 256 = omega arith in
    let b6 : n / 256 ^ 14 % 256 ≡ n / 2 ^ 64 / 256 ^ 6 % 256 = omega arith in
    let b7 : n / 256 ^ 15 % 256 ≡ n / 2 ^ 64 / 256 ^ 7 % 256 = omega arith in
    ap₂ (λ (x : ℕ) (xs : List ℕ). x ∷ xs) a0 (ap₂ (λ (x : ℕ) (xs : List ℕ). x ∷ xs) a1 (ap₂ (λ (x : ℕ) (xs : List ℕ). x ∷ xs) a2 (ap₂ (λ (x : ℕ) (xs : List ℕ). x ∷ xs) a3 (ap₂ (λ (x : ℕ) (xs : List ℕ). x ∷ xs) a4 (ap₂ (λ (x : ℕ) (xs : List ℕ). x ∷ xs) a5 (ap₂ (λ (x : ℕ) (xs : List ℕ). x ∷ xs) a6 (ap₂ (λ (x : ℕ) (xs : List ℕ). x ∷ xs) a7 (ap₂ (λ (x : ℕ) (xs : List ℕ). x ∷ xs) b0 (ap₂ (λ (x : ℕ) (xs : List ℕ). x ∷ xs) b1 (ap₂ (λ (x : ℕ) (xs : List ℕ). x ∷ xs) b2 (ap₂ (λ (x : ℕ) (xs : List ℕ). x ∷ xs) b3 (ap₂ (λ (x : ℕ) (xs : List ℕ). x ∷ xs) b4 (ap₂ (λ (x : ℕ) (xs : List ℕ). x ∷ xs) b5 (ap₂ (λ (x : ℕ) (xs : List ℕ). x ∷ xs) b6 (ap₂ (λ (x : ℕ) (xs : List ℕ). x ∷ xs) b7 refl)))))))))))))))

-- the bits of a number's bytes are the number's
pub bytes_bit : (k n i : ℕ) → i < 8 * k → bit_of (bytes_low_first 0 k n) i ≡ (bit_at n i == 1)
bytes_bit k n i h =
    let e : 8 * (i / 8) + i % 8 ≡ i = omega arith in
    let at : slice_index_or (bytes_low_first 0 k n) (i / 8) 0 ≡ byte_at (i / 8) n = nth_byte 0 k n (i / 8) (omega (arith, h)) ∙ ap (λ j. byte_at j n) (zero-add (i / 8)) in
    rw at (ap (λ b. b == 1) (byte_bit (i / 8) n (i % 8) (omega arith) ∙ ap (bit_at n) e))

-- bits of some bytes, where all stand
pub window_bit : (bs : List ℕ) (k n i : ℕ) → i < 8 * n → bit_of (take n (drop k bs)) i ≡ bit_of bs (8 * k + i)
window_bit bs k n i h =
    let q : (8 * k + i) / 8 ≡ k + i / 8 = omega arith in
    let r : (8 * k + i) % 8 ≡ i % 8 = omega arith in
    rw (q, r, get_or-take n (drop k bs) (i / 8) 0 (omega (arith, h)), get_or-drop k bs (i / 8) 0) refl

-- ---- a word at a place
pub word_at_byte : (bs ws : List ℕ) (low at i : ℕ) → bytes_low_first 0 8 low ≡ ws → ws ≡ take 8 (drop (at / 8) bs) → i < 64 → (bit_at low i == 1) ≡ bit_of bs (8 * (at / 8) + i)
word_at_byte bs ws low at i e f h = sym (bytes_bit 8 low i (omega (arith, h))) ∙ ap (λ v. bit_of v i) (e ∙ f) ∙ window_bit bs (at / 8) 8 i (omega (arith, h))

pub word_whole : (bs ws : List ℕ) (low at : ℕ) → bytes_low_first 0 8 low ≡ ws → ws ≡ take 8 (drop (at / 8) bs) → at % 8 ≡ 0 → (i : ℕ) → i < 64 → (bit_at low i == 1) ≡ bit_of bs (at + i)
word_whole bs ws low at e f z i h = let p : 8 * (at / 8) + i ≡ at + i = omega (arith, z) in word_at_byte bs ws low at i e f h ∙ ap (bit_of bs) p

word_part : (bs ws : List ℕ) (low high at i : ℕ) → bytes_low_first 0 8 low ≡ ws → ws ≡ take 8 (drop (at / 8) bs) → low < 2 ^ 64 → high ≡ slice_index_or bs (at / 8 + 8) 0 → i < 64 → (at % 8 + i < 64) ⊎ (64 ≤ at % 8 + i)
    → (bit_at (high * 2 ^ 64 + low) (at % 8 + i) == 1) ≡ bit_of bs (at + i)
word_part bs ws low high at i e f l g h (inl d) =
    let p : 8 * (at / 8) + (at % 8 + i) ≡ at + i = omega arith in
    ap (λ b. b == 1) (bit_at_cat_low high 64 low (at % 8 + i) d) ∙ word_at_byte bs ws low at (at % 8 + i) e f d ∙ ap (bit_of bs) p
word_part bs ws low high at i e f l g h (inr d) =
    let q : (at + i) / 8 ≡ at / 8 + 8 = omega (arith, h, d) in
    let r : (at + i) % 8 ≡ at % 8 + i - 64 = omega (arith, h, d) in
    ap (λ b. b == 1) (bit_at_cat_high high 64 low (at % 8 + i) l d) ∙ rw (q, r, g) refl

pub word_near : (bs ws : List ℕ) (word low high at : ℕ) → word ≡ (high * 2 ^ 64 + low) / 2 ^ (at % 8) % 2 ^ 64 → bytes_low_first 0 8 low ≡ ws → ws ≡ take 8 (drop (at / 8) bs) → low < 2 ^ 64 → high ≡ slice_index_or bs (at / 8 + 8) 0
    → (i : ℕ) → i < 64 → (bit_at word i == 1) ≡ bit_of bs (at + i)
word_near bs ws word low high at is e f l g i h =
    ap (λ b. b == 1) (ap (λ w. bit_at w i) is ∙ low_bit ((high * 2 ^ 64 + low) / 2 ^ (at % 8)) 64 i h ∙ shifted_bit (high * 2 ^ 64 + low) (at % 8) i)
    ∙ word_part bs ws low high at i e f l g h (below_or_from (at % 8 + i) 64)

-- ---- a word behind other bits
pub word_seen : (bs : List ℕ) (at n w : ℕ) → ((i : ℕ) → i < n → bit_of bs (at + i) ≡ (bit_at w i == 1)) → bits_from bs at n ≡ word_bits w n
word_seen bs at zero w e = refl
word_seen bs at (suc n) w e =
    let first : bit_of bs at ≡ (bit_at w 0 == 1) = ap (bit_of bs) (sym (add-zero at)) ∙ e 0 (omega arith) in
    let one : bit_at w 0 ≡ w % 2 = omega arith in
    let rest : bits_from bs (at + 1) n ≡ word_bits (w / 2) n =
    word_seen bs (at + 1) n (w / 2) (λ i h. let p : at + 1 + i ≡ at + suc i = omega arith in ap (bit_of bs) p ∙ e (suc i) (omega (arith, h)) ∙ ap (λ b. b == 1) (bit_at-suc w i)) in
    rw (first, one, rest) refl

-- a bit behind whole bytes
behind_bit : (xs : List ℕ) (k n m w j : ℕ) → length xs ≡ k → n ≤ m → 8 * k ≤ j → j < 8 * k + 8 * n → bit_of (xs ++ take n (bytes_low_first 0 m w)) j ≡ (bit_at w (j - 8 * k) == 1)
behind_bit xs k n m w j l h f t =
    let q : (j - 8 * k) / 8 ≡ j / 8 - k = omega (arith, f) in
    let r : (j - 8 * k) % 8 ≡ j % 8 = omega (arith, f) in
    let there : slice_index_or (xs ++ take n (bytes_low_first 0 m w)) (j / 8) 0 ≡ slice_index_or (bytes_low_first 0 m w) (j / 8 - k) 0 =
    get_or-append_right xs (take n (bytes_low_first 0 m w)) k (j / 8) 0 l (omega (arith, f)) ∙ get_or-take n (bytes_low_first 0 m w) (j / 8 - k) 0 (omega (arith, f, t)) in
    rw there (sym (rw (q, r) refl) ∙ bytes_bit m w (j - 8 * k) (omega (arith, h, t)))

front_kept : (bs : List ℕ) (size n m w low i : ℕ) → low ≡ slice_index_or bs (size / 8) 0 % 2 ^ (size % 8) → size ≤ 8 * length bs → n ≤ m → size % 8 ≤ 8 * n → i < size → (i < 8 * (size / 8)) ⊎ (8 * (size / 8) ≤ i)
    → bit_of (take (size / 8) bs ++ take n (bytes_low_first 0 m (w * 2 ^ (size % 8) + low))) i ≡ bit_of bs i
front_kept bs size n m w low i e l h k t (inl d) =
    let s : length (take (size / 8) bs) ≡ size / 8 = length-take (size / 8) bs ∙ omega (arith, l) in
    rw (get_or_append_left (take (size / 8) bs) (take n (bytes_low_first 0 m (w * 2 ^ (size % 8) + low))) 0 (i / 8) (omega (arith, s, d)), get_or-take (size / 8) bs (i / 8) 0 (omega (arith, d))) refl
front_kept bs size n m w low i e l h k t (inr d) =
    let s : length (take (size / 8) bs) ≡ size / 8 = length-take (size / 8) bs ∙ omega (arith, l) in
    let q : i / 8 ≡ size / 8 = omega (arith, d, t) in
    let r : i % 8 ≡ i - 8 * (size / 8) = omega (arith, d, t) in
    let low_part : i - 8 * (size / 8) < size % 8 = omega (arith, d, t) in
    behind_bit (take (size / 8) bs) (size / 8) n m (w * 2 ^ (size % 8) + low) i s h d (omega (arith, k, d, t))
    ∙ ap (λ b. b == 1) (bit_at_cat_low w (size % 8) low (i - 8 * (size / 8)) low_part ∙ ap (λ v. bit_at v (i - 8 * (size / 8))) e ∙ low_bit (slice_index_or bs (size / 8) 0) (size % 8) (i - 8 * (size / 8)) low_part)
    ∙ rw (q, r) refl

back_put : (bs : List ℕ) (size n m w low i : ℕ) → low < 2 ^ (size % 8) → size ≤ 8 * length bs → n ≤ m → size % 8 + i < 8 * n → bit_of (take (size / 8) bs ++ take n (bytes_low_first 0 m (w * 2 ^ (size % 8) + low))) (size + i) ≡ (bit_at w i == 1)
back_put bs size n m w low i e l h k =
    let s : length (take (size / 8) bs) ≡ size / 8 = length-take (size / 8) bs ∙ omega (arith, l) in
    let p : size + i - 8 * (size / 8) ≡ size % 8 + i = omega arith in
    let o : size % 8 + i - size % 8 ≡ i = omega arith in
    behind_bit (take (size / 8) bs) (size / 8) n m (w * 2 ^ (size % 8) + low) (size + i) s h (omega arith) (omega (arith, k))
    ∙ ap (λ b. b == 1) (ap (bit_at (w * 2 ^ (size % 8) + low)) p ∙ bit_at_cat_high w (size % 8) low (size % 8 + i) e (omega arith) ∙ ap (bit_at w) o)

pub word_put : (bs ns : List ℕ) (size length_ n w low : ℕ) → low ≡ slice_index_or bs (size / 8) 0 % 2 ^ (size % 8) → size ≤ 8 * length bs → n ≤ 16 → size % 8 + length_ ≤ 8 * n → ns ≡ take (size / 8) bs ++ take n (bytes_low_first 0 16 (w * 2 ^ (size % 8) + low))
    → bits_from ns 0 (size + length_) ≡ bits_from bs 0 size ++ word_bits w length_
word_put bs ns size m n w low e l h k is =
    let v = w * 2 ^ (size % 8) + low in
    let small : low < 2 ^ (size % 8) = rw e (mod_below (slice_index_or bs (size / 8) 0) (2 ^ (size % 8)) (pow_pos (size % 8))) in
    let made : List ℕ = take (size / 8) bs ++ take n (bytes_low_first 0 16 (w * 2 ^ (size % 8) + low)) in
    let front : bits_from made 0 size ≡ bits_from bs 0 size = same_bits made bs 0 size (λ i a b. front_kept bs size n 16 w low i e l h (omega (arith, k)) (omega (arith, b)) (below_or_from i (8 * (size / 8)))) in
    let back : bits_from made size m ≡ word_bits w m = word_seen made size m w (λ i b. back_put bs size n 16 w low i small l h (omega (arith, k, b))) in
    let z : 0 + size ≡ size = omega arith in
    rw is (bits_split made 0 size m ∙ rw (z, front, back) refl)

-- ---- the run at the front of a word
pub ones_run : (w : ℕ) → w < 2 ^ 64 → (i : ℕ) → i < trailing_ones w64 w → (bit_at w i == 1) ≡ true
ones_run w l i h = by_case (below_or_from (w + 1) (2 ^ 64))
  where
    by_case : (w + 1 < 2 ^ 64) ⊎ (2 ^ 64 ≤ w + 1) → (bit_at w i == 1) ≡ true
    by_case (inl d) = ap (λ b. b == 1) ((bit_at-trailing_ones w64 w d).2 i h)
    by_case (inr d) =
        let all : w ≡ 2 ^ 64 - 1 = omega (arith, l, d) in
        ap (λ v. bit_at v i == 1) all ∙ ap (λ b. b == 1) (bit_at_ones 64 i (omega (arith, h, trailing_le 64 (bit_not w64 w))))

pub ones_end : (w : ℕ) → w < 2 ^ 64 → trailing_ones w64 w < 64 → (bit_at w (trailing_ones w64 w) == 1) ≡ false
ones_end w l h = by_case (below_or_from (w + 1) (2 ^ 64))
  where
    by_case : (w + 1 < 2 ^ 64) ⊎ (2 ^ 64 ≤ w + 1) → (bit_at w (trailing_ones w64 w) == 1) ≡ false
    by_case (inl d) = ap (λ b. b == 1) (bit_at-trailing_ones w64 w d).1
    by_case (inr d) =
        let none : bit_not w64 w ≡ 0 = omega (arith, l, d) in
        absurd (omega (arith, h, ap (count_trailing_zeros 64) none ∙ trailing_of_zero 64))

pub zeros_run : (w : ℕ) → w < 2 ^ 64 → (i : ℕ) → i < trailing_zeros w64 w → (bit_at w i == 1) ≡ false
zeros_run zero l i h = ap (λ b. b == 1) (bit_at-zero i)
zeros_run (suc w) l i h = ap (λ b. b == 1) ((bit_at-trailing_zeros w64 (suc w) (omega arith) l).2 i h)

pub zeros_end : (w : ℕ) → w < 2 ^ 64 → trailing_zeros w64 w < 64 → (bit_at w (trailing_zeros w64 w) == 1) ≡ true
zeros_end zero l h = absurd (omega (arith, h, trailing_of_zero 64))
zeros_end (suc w) l h = ap (λ b. b == 1) (bit_at-trailing_zeros w64 (suc w) (omega arith) l).1

-- a run that goes on in the next word
pub run_more : (bs : List ℕ) (from end count word : ℕ) (v : Bool) → ((i : ℕ) → from ≤ i → i < end → bit_of bs i ≡ v) → ((i : ℕ) → i < 64 → (bit_at word i == 1) ≡ bit_of bs (end + i)) → ((i : ℕ) → i < count → (bit_at word i == 1) ≡ v) → count ≤ 64
    → (i : ℕ) → from ≤ i → i < end + count → bit_of bs i ≡ v
run_more bs from end count word v before bits run most i a b = by_case (below_or_from i end)
  where
    by_case : (i < end) ⊎ (end ≤ i) → bit_of bs i ≡ v
    by_case (inl d) = before i a d
    by_case (inr d) =
        let e : i ≡ end + (i - end) = omega (arith, d) in
        ap (bit_of bs) e ∙ sym (bits (i - end) (omega (arith, b, d, most))) ∙ run (i - end) (omega (arith, b, d))

-- ---- the low bits of a word
power_as_shift : (n : ℕ) → n < 64 → 1 * 2 ^ n % 2 ^ 64 ≡ 2 ^ n
power_as_shift n h = let l : 2 ^ n < 2 ^ 64 = pow-lt h in omega (arith, l)

pub low_bits_of : (w n i : ℕ) → n ≤ 64 → n ≢ 64 → i < n → bit_at (w % (1 * 2 ^ n % 2 ^ 64)) i ≡ bit_at w i
low_bits_of w n i h other k = rw (power_as_shift n (omega (arith, h, other))) (low_bit w n i k)

-- the bits of the last bytes
pub last_bit : (bs cs : List ℕ) (at n i : ℕ) (word : ℕ) (low : Bool) → at + n ≤ 8 * length bs → i < n → n ≤ 64 → ((j : ℕ) → 8 * (at / 8) + j < 8 * length bs → bit_of cs j ≡ bit_of bs (8 * (at / 8) + j)) → ((j : ℕ) → j < 64 → (bit_at word j == 1) ≡ bit_of cs (at % 8 + j))
    → low ≡ (bit_at word i == 1) → low ≡ bit_of bs (at + i)
last_bit bs cs at n i word low within h few front bits is =
    let p : 8 * (at / 8) + (at % 8 + i) ≡ at + i = omega arith in
    is ∙ bits i (omega (arith, h, few)) ∙ front (at % 8 + i) (omega (arith, within, h)) ∙ ap (bit_of bs) p

-- words of equal bits
pub zeros_word : (n : ℕ) → word_bits 0 n ≡ replicate n false
zeros_word zero = refl
zeros_word (suc n) = ap (λ r. false ∷ r) (zeros_word n)

ones_of : (k n : ℕ) → n ≤ k → word_bits (2 ^ k - 1) n ≡ replicate n true
ones_of k zero h = refl
ones_of zero (suc n) h = absurd (omega (arith, h))
ones_of (suc k) (suc n) h =
    let some : 0 < 2 ^ k = pow_pos k in
    let two : 2 ^ suc k ≡ 2 ^ k * 2 = pow-suc 2 k in
    let odd : (2 ^ suc k - 1) % 2 ≡ 1 = omega (arith, some, two) in
    let half : (2 ^ suc k - 1) / 2 ≡ 2 ^ k - 1 = omega (arith, some, two) in
    rw (odd, half) (ap (λ r. true ∷ r) (ones_of k n (omega (arith, h))))

pub ones_word : (n : ℕ) → n ≤ 64 → word_bits 18446744073709551615 n ≡ replicate n true
ones_word n h = ones_of 64 n h
