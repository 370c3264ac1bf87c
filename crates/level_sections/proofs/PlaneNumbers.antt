-- Numbers by the bits of words, one behind the other.
use Rattle.std.proofs.Common.{◌≡◌, ℕ, zero, suc, ◌+◌, ◌-◌, ◌*◌, ◌/◌, ◌%◌, ◌^◌, ◌<◌, ◌≤◌, ◌==◌, min, true, false, cond, List, [], ◌∷◌, ◌++◌, length, take, refl, arith, ap, sym, ◌∙◌}
use Rattle.std.specs.Prelude.{slice_index, bit_and, bit_or, bit_xor}
use Rattle.std.specs.Int.{bit_at, to_le_bytes, w32}
use Rattle.std.proofs.lemmas.Nat.{pow_pos, mod_below, one_shl, shr-shr, div-add-mod'}
use Rattle.std.proofs.lemmas.Nat.Bits.{bit_at-lt, bit_at-suc, bit_at-zero, bit_at_and, bit_at_or, bit_at_xor, bit_at_above, bit_at_cat_low, bit_at_cat_high}
use Rattle.shredding.specs.Parts.{Part}
use Rattle.pq_runs.specs.Words.{bit_numbers}
use Rattle.level_sections.specs.declared.planes.BitPlanes.{BitPlanes}
use Rattle.level_sections.specs.Planes.{plane_number, plane_numbers}
use Rattle.level_sections.specs.Blocks.{part_optional, part_present, flat_level, levels_from}
use Rattle.level_sections.proofs.Blocks.{mixed, one_bit, part-more}

-- ---- sums of bits

-- two bits added
half_sum : (a b m x : ℕ) → a < 2 → b < 2 → m ≡ min a b → x ≡ (a + b) % 2 → x + 2 * m ≡ a + b
half_sum a b m x ha hb em ex = omega (arith, ha, hb, em, ex)

pub sum_of_bits : (planes : BitPlanes) (word i : ℕ) → plane_number planes i + bit_at word i ≤ 7 → bit_at (bit_xor planes.ones word) i + 2 * bit_at (bit_xor planes.twos (bit_and planes.ones word)) i + 4 * bit_at (bit_xor planes.fours (bit_and planes.twos (bit_and planes.ones word))) i ≡ plane_number planes i + bit_at word i
sum_of_bits planes word i few =
    let a = bit_at planes.ones i in
    let b = bit_at planes.twos i in
    let c = bit_at planes.fours i in
    let m1 = bit_at (bit_and planes.ones word) i in
    let m2 = bit_at (bit_and planes.twos (bit_and planes.ones word)) i in
    let e1 = half_sum a (bit_at word i) m1 _ (bit_at-lt planes.ones i) (bit_at-lt word i) (bit_at_and planes.ones word i) (bit_at_xor planes.ones word i) in
    let e2 = half_sum b m1 m2 _ (bit_at-lt planes.twos i) (bit_at-lt (bit_and planes.ones word) i) (bit_at_and planes.twos (bit_and planes.ones word) i) (bit_at_xor planes.twos (bit_and planes.ones word) i) in
    top c m2 _ _ _ a b (bit_at word i) m1 (bit_at-lt planes.fours i) (bit_at-lt (bit_and planes.twos (bit_and planes.ones word)) i) (bit_at_xor planes.fours (bit_and planes.twos (bit_and planes.ones word)) i) e1 e2 few
  where
    top : (c m2 x1 x2 x4 a b w m1 : ℕ) → c < 2 → m2 < 2 → x4 ≡ (c + m2) % 2 → x1 + 2 * m1 ≡ a + w → x2 + 2 * m2 ≡ b + m1 → a + 2 * b + 4 * c + w ≤ 7 → x1 + 2 * x2 + 4 * x4 ≡ a + 2 * b + 4 * c + w
    top c m2 x1 x2 x4 a b w m1 hc hm e4 e1 e2 few = omega (arith, hc, hm, e4, e1, e2, few)

-- a part more, where it is optional
pub parts-optional : (part : Part) (parts : List Part) (d n n' i place alive word next : ℕ) → part_optional part ≡ true → next ≡ bit_and alive word → (bit_at word i == 1) ≡ part_present part place → n' ≡ n + bit_at next i → cond (bit_at next i == 1) (flat_level parts (d + n') place) (d + n') ≡ cond (bit_at alive i == 1) (flat_level (part ∷ parts) (d + n) place) (d + n)
parts-optional part parts d n n' i place alive word next o e there is =
    let more : d + n' ≡ d + n + cond (part_optional part) (bit_at next i) 0 = rw o (omega (arith, is)) in
    part-more part parts (d + n) (d + n') i place alive word next e there more

-- a part more that is required
pub parts-required : (part : Part) (parts : List Part) (d i place alive word next : ℕ) → part_optional part ≡ false → next ≡ bit_and alive word → (bit_at word i == 1) ≡ part_present part place → cond (bit_at next i == 1) (flat_level parts d place) d ≡ cond (bit_at alive i == 1) (flat_level (part ∷ parts) d place) d
parts-required part parts d i place alive word next o e there =
    let more : d ≡ d + cond (part_optional part) (bit_at next i) 0 = rw o (omega arith) in
    part-more part parts d d i place alive word next e there more

pub bit-most : (word i : ℕ) → bit_at word i ≤ 1
bit-most word i = omega (arith, bit_at-lt word i)

-- a slot beneath a list that is there
pub item-level : (parts : List Part) (def n up word i place : ℕ) → bit_at word i ≡ 1 → n ≡ up + 1 → cond (bit_at word i == 1) (flat_level parts (def + n) place) (def + n) ≡ flat_level parts (def + up + 1) place
item-level parts def n up word i place one e =
    let same : def + n ≡ def + up + 1 = omega (arith, e) in
    rw (one_bit word i one) (ap (λ d. flat_level parts d place) same)

-- ---- words one behind the other

low_bit : (n w i : ℕ) → i < w → bit_at (n % 2 ^ w) i ≡ bit_at n i
low_bit n w i h = sym (ap (λ m. bit_at m i) (sym (div-add-mod' n (2 ^ w))) ∙ bit_at_cat_low (n / 2 ^ w) w (n % 2 ^ w) i h)

shifted-low : (bits k i : ℕ) → k ≤ 64 → i < k → bit_at (bits * 2 ^ k % 2 ^ 64) i ≡ 0
shifted-low bits k i few h =
    let e : bits * 2 ^ k ≡ bits * 2 ^ k + 0 = omega arith in
    low_bit (bits * 2 ^ k) 64 i (omega (arith, few, h)) ∙ (ap (λ n. bit_at n i) e ∙ (bit_at_cat_low bits k 0 i h ∙ bit_at-zero i))

shifted-high : (bits k i : ℕ) → k + i < 64 → bit_at (bits * 2 ^ k % 2 ^ 64) (k + i) ≡ bit_at bits i
shifted-high bits k i h =
    let e : bits * 2 ^ k ≡ bits * 2 ^ k + 0 = omega arith in
    let back : k + i - k ≡ i = omega arith in
    low_bit (bits * 2 ^ k) 64 (k + i) h ∙ (ap (λ n. bit_at n (k + i)) e ∙ (bit_at_cat_high bits k 0 (k + i) (pow_pos k) (omega arith) ∙ ap (bit_at bits) back))

pub joined-front : (word bits k i : ℕ) → k < 64 → i < k → bit_at (bit_or (word % (1 * 2 ^ k % 2 ^ 64)) (bits * 2 ^ k % 2 ^ 64)) i ≡ bit_at word i
joined-front word bits k i few h =
    let one : bit_at (word % (1 * 2 ^ k % 2 ^ 64)) i ≡ bit_at word i = ap (λ m. bit_at (word % m) i) (one_shl k 64 few) ∙ low_bit word k i h in
    let z : bit_at (bits * 2 ^ k % 2 ^ 64) i ≡ 0 = shifted-low bits k i (omega (arith, few)) h in
    omega (arith, bit_at_or (word % (1 * 2 ^ k % 2 ^ 64)) (bits * 2 ^ k % 2 ^ 64) i, one, z)

pub joined-back : (word bits k i : ℕ) → k < 64 → k + i < 64 → bit_at (bit_or (word % (1 * 2 ^ k % 2 ^ 64)) (bits * 2 ^ k % 2 ^ 64)) (k + i) ≡ bit_at bits i
joined-back word bits k i few h =
    let z : bit_at (word % (1 * 2 ^ k % 2 ^ 64)) (k + i) ≡ 0 = ap (λ m. bit_at (word % m) (k + i)) (one_shl k 64 few) ∙ bit_at_above (word % 2 ^ k) k (k + i) (mod_below word (2 ^ k) (pow_pos k)) (omega arith) in
    let one : bit_at (bits * 2 ^ k % 2 ^ 64) (k + i) ≡ bit_at bits i = shifted-high bits k i h in
    omega (arith, bit_at_or (word % (1 * 2 ^ k % 2 ^ 64)) (bits * 2 ^ k % 2 ^ 64) (k + i), one, z)

pub bit-shift : (word p j : ℕ) → bit_at (word / 2 ^ p) j ≡ bit_at word (p + j)
bit-shift word zero j =
    let e : word / 2 ^ 0 ≡ word = omega arith in
    let here : j ≡ 0 + j = omega arith in
    ap (λ (w : ℕ). bit_at w j) e ∙ ap (bit_at word) here
bit-shift word (suc p) j =
    let e : 1 + p ≡ suc p = omega arith in
    let next : suc (p + j) ≡ suc p + j = omega arith in
    let half : word / 2 / 2 ^ p ≡ word / 2 ^ suc p = shr-shr word 1 p ∙ ap (λ (k : ℕ). word / 2 ^ k) e in
    ap (λ (w : ℕ). bit_at w j) (sym half) ∙ (bit-shift (word / 2) p j ∙ (sym (bit_at-suc word (p + j)) ∙ ap (bit_at word) next))

-- ---- lists of numbers

pub planes-none : (low : ℕ) (planes : BitPlanes) (place count : ℕ) → count ≡ 0 → plane_numbers low planes place count ≡ []
unfolding plane_numbers
planes-none low planes place zero e = refl
planes-none low planes place (suc count) e = absurd (omega (arith, e))

pub planes-one : (low : ℕ) (planes : BitPlanes) (place : ℕ) → plane_numbers low planes place 1 ≡ (low + plane_number planes place) ∷ []
unfolding plane_numbers
planes-one low planes place = refl

pub planes-add : (low : ℕ) (planes : BitPlanes) (place m n : ℕ) → plane_numbers low planes place (m + n) ≡ plane_numbers low planes place m ++ plane_numbers low planes (place + m) n
unfolding plane_numbers
planes-add low planes place zero n =
    let a : 0 + n ≡ n = omega arith in
    let b : place + 0 ≡ place = omega arith in
    rw (a, b) refl
planes-add low planes place (suc m) n =
    let a : suc m + n ≡ suc (m + n) = omega arith in
    let b : place + suc m ≡ place + 1 + m = omega arith in
    rw (a, b) (ap (λ ys. (low + plane_number planes place) ∷ ys) (planes-add low planes (place + 1) m n))

planes-alike : (low : ℕ) (a b : BitPlanes) (p q count : ℕ) → ((i : ℕ) → i < count → plane_number a (p + i) ≡ plane_number b (q + i)) → plane_numbers low a p count ≡ plane_numbers low b q count
unfolding plane_numbers
planes-alike low a b p q zero same = refl
planes-alike low a b p q (suc count) same =
    let first : plane_number a p ≡ plane_number b q = ap (plane_number a) (omega arith) ∙ (same 0 (omega arith) ∙ ap (plane_number b) (omega arith)) in
    ap (λ n. (low + n) ∷ plane_numbers low a (p + 1) count) first
    ∙ ap (λ ys. (low + plane_number b q) ∷ ys) (planes-alike low a b (p + 1) (q + 1) count (λ i h. ap (plane_number a) (omega arith) ∙ (same (suc i) (omega (arith, h)) ∙ ap (plane_number b) (omega arith))))

-- the same numbers, behind which others stand
pub planes-same : (low : ℕ) (a r : BitPlanes) (n : ℕ) → ((i : ℕ) → i < n → plane_number r i ≡ plane_number a i) → plane_numbers low r 0 n ≡ plane_numbers low a 0 n
planes-same low a r n front = planes-alike low r a 0 0 n (λ i h. ap (plane_number r) (omega arith) ∙ (front i h ∙ ap (plane_number a) (omega arith)))

-- one number more
pub planes-next : (low : ℕ) (a r : BitPlanes) (n bit : ℕ) → ((i : ℕ) → i < n → plane_number r i ≡ plane_number a i) → plane_number r n ≡ bit → plane_numbers low r 0 (n + 1) ≡ plane_numbers low a 0 n ++ (low + bit) ∷ []
planes-next low a r n bit front here =
    let place : 0 + n ≡ n = omega arith in
    planes-add low r 0 n 1
    ∙ (ap (λ ys. ys ++ plane_numbers low r (0 + n) 1) (planes-same low a r n front)
    ∙ ap (λ ys. plane_numbers low a 0 n ++ ys) (planes-one low r (0 + n) ∙ ap (λ k. (low + k) ∷ []) (ap (plane_number r) place ∙ here)))

-- the same numbers as levels
pub planes-from : (level : ℕ → ℕ) (low : ℕ) (planes : BitPlanes) (p place count : ℕ) → ((i : ℕ) → i < count → low + plane_number planes (p + i) ≡ level (place + i)) → plane_numbers low planes p count ≡ levels_from level place count
unfolding plane_numbers levels_from
planes-from level low planes p place zero each = refl
planes-from level low planes p place (suc count) each =
    let first : low + plane_number planes p ≡ level place = ap (λ k. low + plane_number planes k) (omega arith) ∙ (each 0 (omega arith) ∙ ap level (omega arith)) in
    ap (λ n. n ∷ plane_numbers low planes (p + 1) count) first
    ∙ ap (λ ys. level place ∷ ys) (planes-from level low planes (p + 1) (place + 1) count (λ i h. ap (λ k. low + plane_number planes k) (omega arith) ∙ (each (suc i) (omega (arith, h)) ∙ ap level (omega arith))))

pub planes-taken : (low : ℕ) (planes : BitPlanes) (xs : List ℕ) (p count : ℕ) → count ≤ length xs → ((i : ℕ) → i < count → slice_index xs i ≡ low + plane_number planes (p + i)) → take count xs ≡ plane_numbers low planes p count
unfolding plane_numbers
planes-taken low planes xs p zero few each = refl
planes-taken low planes [] p (suc count) few each = absurd (omega (arith, few))
planes-taken low planes (x ∷ xs) p (suc count) few each =
    let first : x ≡ low + plane_number planes p = each 0 (omega arith) ∙ ap (λ k. low + plane_number planes k) (omega arith) in
    ap (λ y. y ∷ take count xs) first ∙ ap (λ ys. (low + plane_number planes p) ∷ ys) (planes-taken low planes xs (p + 1) count (omega (arith, few)) (λ i h. each (suc i) (omega (arith, h)) ∙ ap (λ k. low + plane_number planes k) (omega arith)))

-- numbers of one bit
pub planes-bits : (low : ℕ) (planes : BitPlanes) (place count : ℕ) → planes.twos ≡ 0 → planes.fours ≡ 0 → bit_numbers low planes.ones place count ≡ plane_numbers low planes place count
unfolding plane_numbers bit_numbers
planes-bits low planes place zero t f = refl
planes-bits low planes place (suc count) t f =
    let two : bit_at planes.twos place ≡ 0 = ap (λ w. bit_at w place) t ∙ bit_at-zero place in
    let four : bit_at planes.fours place ≡ 0 = ap (λ w. bit_at w place) f ∙ bit_at-zero place in
    let first : low + bit_at planes.ones place ≡ low + plane_number planes place = omega (arith, two, four) in
    ap (λ n. n ∷ bit_numbers low planes.ones (place + 1) count) first ∙ ap (λ ys. (low + plane_number planes place) ∷ ys) (planes-bits low planes (place + 1) count t f)

pub planes-at : (low : ℕ) (planes : BitPlanes) (place count i : ℕ) → i < count → slice_index (plane_numbers low planes place count) i ≡ low + plane_number planes (place + i)
unfolding plane_numbers
planes-at low planes place zero i h = absurd (omega (arith, h))
planes-at low planes place (suc count) zero h = ap (λ k. low + plane_number planes k) (omega arith)
planes-at low planes place (suc count) (suc i) h = planes-at low planes (place + 1) count i (omega (arith, h)) ∙ ap (λ k. low + plane_number planes k) (omega arith)

-- ---- four at a time

pub spread_of : (n : ℕ) → n < 16 → bit_and (n * 2113665) 16843009 ≡ bit_at n 0 + 256 * bit_at n 1 + 65536 * bit_at n 2 + 16777216 * bit_at n 3
spread_of zero h = refl
spread_of (suc zero) h = refl
spread_of (suc (suc zero)) h = refl
spread_of (suc (suc (suc zero))) h = refl
spread_of (suc (suc (suc (suc zero)))) h = refl
spread_of (suc (suc (suc (suc (suc zero))))) h = refl
spread_of (suc (suc (suc (suc (suc (suc zero)))))) h = refl
spread_of (suc (suc (suc (suc (suc (suc (suc zero))))))) h = refl
spread_of (suc (suc (suc (suc (suc (suc (suc (suc zero)))))))) h = refl
spread_of (suc (suc (suc (suc (suc (suc (suc (suc (suc zero))))))))) h = refl
spread_of (suc (suc (suc (suc (suc (suc (suc (suc (suc (suc zero)))))))))) h = refl
spread_of (suc (suc (suc (suc (suc (suc (suc (suc (suc (suc (suc zero))))))))))) h = refl
spread_of (suc (suc (suc (suc (suc (suc (suc (suc (suc (suc (suc (suc zero)))))))))))) h = refl
spread_of (suc (suc (suc (suc (suc (suc (suc (suc (suc (suc (suc (suc (suc zero))))))))))))) h = refl
spread_of (suc (suc (suc (suc (suc (suc (suc (suc (suc (suc (suc (suc (suc (suc zero)))))))))))))) h = refl
spread_of (suc (suc (suc (suc (suc (suc (suc (suc (suc (suc (suc (suc (suc (suc (suc zero))))))))))))))) h = refl
spread_of (suc (suc (suc (suc (suc (suc (suc (suc (suc (suc (suc (suc (suc (suc (suc (suc n)))))))))))))))) h = absurd (omega (arith, h))

-- the bit of a place of the lowest ones from another place on
pub field-bit : (word at j : ℕ) → j < 4 → bit_at (word / 2 ^ at % 16) j ≡ bit_at word (at + j)
field-bit word at j h = low_bit (word / 2 ^ at) 4 j h ∙ bit-shift word at j

lists-four : (x y z w a b c d : ℕ) → x ≡ a → y ≡ b → z ≡ c → w ≡ d → x ∷ y ∷ z ∷ w ∷ [] ≡ a ∷ b ∷ c ∷ d ∷ []
lists-four x y z w a b c d ex ey ez ew = rw (ex, ey, ez, ew) refl

four-bytes : (sum a b c d : ℕ) → a ≤ 7 → b ≤ 7 → c ≤ 7 → d ≤ 7 → sum ≡ a + 256 * b + 65536 * c + 16777216 * d → to_le_bytes w32 sum ≡ a ∷ b ∷ c ∷ d ∷ []
four-bytes sum a b c d ha hb hc hd e =
    lists-four _ _ _ _ a b c d at_0 at_1 at_2 at_3
  where
    at_0 : slice_index (to_le_bytes w32 sum) 0 ≡ a
    at_0 = omega (arith, e, ha, hb, hc, hd)

    at_1 : slice_index (to_le_bytes w32 sum) 1 ≡ b
    at_1 = omega (arith, e, ha, hb, hc, hd)

    at_2 : slice_index (to_le_bytes w32 sum) 2 ≡ c
    at_2 = omega (arith, e, ha, hb, hc, hd)

    at_3 : slice_index (to_le_bytes w32 sum) 3 ≡ d
    at_3 = omega (arith, e, ha, hb, hc, hd)

pub number-most : (planes : BitPlanes) (i : ℕ) → plane_number planes i ≤ 7
number-most planes i = omega (arith, bit-most planes.ones i, bit-most planes.twos i, bit-most planes.fours i)

pub four-numbers : (planes : BitPlanes) (at sum : ℕ) → sum ≡ plane_number planes at + 256 * plane_number planes (at + 1) + 65536 * plane_number planes (at + 2) + 16777216 * plane_number planes (at + 3) → to_le_bytes w32 sum ≡ plane_numbers 0 planes at 4
unfolding plane_numbers
four-numbers planes at sum e =
    let two : at + 1 + 1 ≡ at + 2 = omega arith in
    let three : at + 1 + 1 + 1 ≡ at + 3 = omega arith in
    let a : plane_number planes at ≡ 0 + plane_number planes at = omega arith in
    let b : plane_number planes (at + 1) ≡ 0 + plane_number planes (at + 1) = omega arith in
    let c : plane_number planes (at + 2) ≡ 0 + plane_number planes (at + 1 + 1) = ap (plane_number planes) (sym two) ∙ omega arith in
    let d : plane_number planes (at + 3) ≡ 0 + plane_number planes (at + 1 + 1 + 1) = ap (plane_number planes) (sym three) ∙ omega arith in
    four-bytes sum (plane_number planes at) (plane_number planes (at + 1)) (plane_number planes (at + 2)) (plane_number planes (at + 3)) (number-most planes at) (number-most planes (at + 1)) (number-most planes (at + 2)) (number-most planes (at + 3)) e
    ∙ lists-four _ _ _ _ _ _ _ _ a b c d

pub four-more : (planes : BitPlanes) (i : ℕ) (before after bytes : List ℕ) → take (4 * i) before ≡ plane_numbers 0 planes 0 (4 * i) → take (4 * i + 4) after ≡ take (4 * i) before ++ bytes → bytes ≡ plane_numbers 0 planes (4 * i) 4 → take (4 * (i + 1)) after ≡ plane_numbers 0 planes 0 (4 * (i + 1))
four-more planes i before after bytes h e is =
    let n : 4 * (i + 1) ≡ 4 * i + 4 = omega arith in
    let z : 4 * i ≡ 0 + 4 * i = omega arith in
    rw n (e ∙ (ap (λ ys. ys ++ bytes) h ∙ (ap (λ ys. plane_numbers 0 planes 0 (4 * i) ++ ys) (is ∙ ap (λ p. plane_numbers 0 planes p 4) z) ∙ sym (planes-add 0 planes 0 (4 * i) 4))))

-- no number has a highest bit
pub no-four : (planes : BitPlanes) (i : ℕ) → planes.fours ≡ 0 → bit_at planes.fours i ≡ 0
no-four planes i e = ap (λ w. bit_at w i) e ∙ bit_at-zero i

-- the numbers of all places as bytes
pub byte-at : (planes : BitPlanes) (bytes : List ℕ) (i : ℕ) → bytes ≡ plane_numbers 0 planes 0 64 → i < 64 → slice_index bytes i ≡ plane_number planes i
byte-at planes bytes i e h =
    let here : 0 + i ≡ i = omega arith in
    ap (λ (ys : List ℕ). slice_index ys i) e ∙ (planes-at 0 planes 0 64 i h ∙ (ap (λ (k : ℕ). 0 + plane_number planes k) here ∙ omega arith))

-- ---- the levels of slots that go on beneath where their bit is set

pub planes-mixed : (level : ℕ → ℕ) (rest : List Part) (low word : ℕ) (bits planes : BitPlanes) (place count : ℕ) → ((i : ℕ) → plane_number bits i ≡ bit_at word i) → ((i : ℕ) → i < count → (def : ℕ) → def + plane_number planes i ≡ cond (bit_at word i == 1) (flat_level rest (def + plane_number bits i) (place + i)) (def + plane_number bits i)) → ((i : ℕ) → i < count → level (place + i) ≡ cond (bit_at word i == 1) (flat_level rest (low + 1) (place + i)) low) → plane_numbers low planes 0 count ≡ levels_from level place count
planes-mixed level rest low word bits planes place count one each is =
    planes-from level low planes 0 place count (λ i h. ap (λ k. low + plane_number planes k) (omega arith) ∙ (each i h low ∙ (mixed rest low (low + plane_number bits i) (place + i) (bit_at word i) (bit_at-lt word i) (ap (λ n. low + n) (one i)) ∙ sym (is i h))))
