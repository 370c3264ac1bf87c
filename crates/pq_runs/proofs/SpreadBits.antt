-- Numbers by the bits of a word, four at once.
use Rattle.std.proofs.Common.{◌≡◌, ℕ, zero, suc, ◌+◌, ◌-◌, ◌*◌, ◌/◌, ◌%◌, ◌^◌, ◌<◌, ◌≤◌, List, [], ◌∷◌, ◌++◌, take, refl, arith, ap, sym, ◌∙◌}
use Rattle.std.specs.Prelude.{slice_index, bit_and}
use Rattle.std.specs.Int.{bit_at, to_le_bytes, w32}
use Rattle.std.proofs.lemmas.Nat.{shr-shr, div-add-mod'}
use Rattle.std.proofs.lemmas.Nat.Bits.{bit_at-lt, bit_at-suc, bit_at_cat_low}
use Rattle.std.proofs.lemmas.List.{take_at}
use Rattle.pq_runs.specs.Words.{bit_numbers}
use Rattle.pq_runs.proofs.BitNumbers.{length-bit_numbers, numbers-add}

low_bit : (n w i : ℕ) → i < w → bit_at (n % 2 ^ w) i ≡ bit_at n i
low_bit n w i h = sym (ap (λ m. bit_at m i) (sym (div-add-mod' n (2 ^ w))) ∙ bit_at_cat_low (n / 2 ^ w) w (n % 2 ^ w) i h)

pub bit-shift : (word p j : ℕ) → bit_at (word / 2 ^ p) j ≡ bit_at word (p + j)
bit-shift word zero j =
    let e : word / 2 ^ 0 ≡ word = omega arith in
    let here : j ≡ 0 + j = omega arith in
    ap (λ (w : ℕ). bit_at w j) e ∙ ap (bit_at word) here
bit-shift word (suc p) j =
    let e : 1 + p ≡ suc p = omega arith in
    let next : suc (p + j) ≡ suc p + j = omega arith in
    let half : word / 2 / 2 ^ p ≡ word / 2 ^ suc p = shr-shr word 1 p ∙ ap (λ (k : ℕ). word / 2 ^ k) e in
    ap (λ (w : ℕ). bit_at w j) (sym half) ∙ (bit-shift (word / 2) p j ∙ (sym (bit_at-suc word (p + j)) ∙ ap (bit_at word) next))

pub spread_of : (n : ℕ) → n < 16 → bit_and (n * 2113665) 16843009 ≡ bit_at n 0 + 256 * bit_at n 1 + 65536 * bit_at n 2 + 16777216 * bit_at n 3
spread_of zero h = refl
spread_of (suc zero) h = refl
spread_of (suc (suc zero)) h = refl
spread_of (suc (suc (suc zero))) h = refl
spread_of (suc (suc (suc (suc zero)))) h = refl
spread_of (suc (suc (suc (suc (suc zero))))) h = refl
spread_of (suc (suc (suc (suc (suc (suc zero)))))) h = refl
spread_of (suc (suc (suc (suc (suc (suc (suc zero))))))) h = refl
spread_of (suc (suc (suc (suc (suc (suc (suc (suc zero)))))))) h = refl
spread_of (suc (suc (suc (suc (suc (suc (suc (suc (suc zero))))))))) h = refl
spread_of (suc (suc (suc (suc (suc (suc (suc (suc (suc (suc zero)))))))))) h = refl
spread_of (suc (suc (suc (suc (suc (suc (suc (suc (suc (suc (suc zero))))))))))) h = refl
spread_of (suc (suc (suc (suc (suc (suc (suc (suc (suc (suc (suc (suc zero)))))))))))) h = refl
spread_of (suc (suc (suc (suc (suc (suc (suc (suc (suc (suc (suc (suc (suc zero))))))))))))) h = refl
spread_of (suc (suc (suc (suc (suc (suc (suc (suc (suc (suc (suc (suc (suc (suc zero)))))))))))))) h = refl
spread_of (suc (suc (suc (suc (suc (suc (suc (suc (suc (suc (suc (suc (suc (suc (suc zero))))))))))))))) h = refl
spread_of (suc (suc (suc (suc (suc (suc (suc (suc (suc (suc (suc (suc (suc (suc (suc (suc n)))))))))))))))) h = absurd (omega (arith, h))

-- the bit of a place of the lowest ones from another place on
pub field-bit : (word at j : ℕ) → j < 4 → bit_at (word / 2 ^ at % 16) j ≡ bit_at word (at + j)
field-bit word at j h = low_bit (word / 2 ^ at) 4 j h ∙ bit-shift word at j

lists-four : (x y z w a b c d : ℕ) → x ≡ a → y ≡ b → z ≡ c → w ≡ d → x ∷ y ∷ z ∷ w ∷ [] ≡ a ∷ b ∷ c ∷ d ∷ []
lists-four x y z w a b c d ex ey ez ew = rw (ex, ey, ez, ew) refl

four-bytes : (sum a b c d : ℕ) → a ≤ 255 → b ≤ 255 → c ≤ 255 → d ≤ 255 → sum ≡ a + 256 * b + 65536 * c + 16777216 * d → to_le_bytes w32 sum ≡ a ∷ b ∷ c ∷ d ∷ []
four-bytes sum a b c d ha hb hc hd e =
    lists-four _ _ _ _ a b c d at_0 at_1 at_2 at_3
  where
    at_0 : slice_index (to_le_bytes w32 sum) 0 ≡ a
    at_0 = omega (arith, e, ha, hb, hc, hd)

    at_1 : slice_index (to_le_bytes w32 sum) 1 ≡ b
    at_1 = omega (arith, e, ha, hb, hc, hd)

    at_2 : slice_index (to_le_bytes w32 sum) 2 ≡ c
    at_2 = omega (arith, e, ha, hb, hc, hd)

    at_3 : slice_index (to_le_bytes w32 sum) 3 ≡ d
    at_3 = omega (arith, e, ha, hb, hc, hd)

pub four-numbers : (low word at ones sum : ℕ) → low < 255 → ones ≡ bit_at word at + 256 * bit_at word (at + 1) + 65536 * bit_at word (at + 2) + 16777216 * bit_at word (at + 3) → sum ≡ ones + low * 16843009 → to_le_bytes w32 sum ≡ bit_numbers low word at 4
unfolding bit_numbers
four-numbers low word at ones sum small e is =
    let b : low + bit_at word (at + 1) ≡ low + bit_at word (at + 1) = refl in
    let c : low + bit_at word (at + 2) ≡ low + bit_at word (at + 1 + 1) = ap (λ (p : ℕ). low + bit_at word p) (omega arith) in
    let d : low + bit_at word (at + 3) ≡ low + bit_at word (at + 1 + 1 + 1) = ap (λ (p : ℕ). low + bit_at word p) (omega arith) in
    let h0 = bit_at-lt word at in
    let h1 = bit_at-lt word (at + 1) in
    let h2 = bit_at-lt word (at + 2) in
    let h3 = bit_at-lt word (at + 3) in
    four-bytes sum (low + bit_at word at) (low + bit_at word (at + 1)) (low + bit_at word (at + 2)) (low + bit_at word (at + 3)) (omega (arith, h0, small)) (omega (arith, h1, small)) (omega (arith, h2, small)) (omega (arith, h3, small)) (omega (arith, e, is))
    ∙ lists-four _ _ _ _ _ _ _ _ refl b c d

pub four-more : (low word i : ℕ) (before after bytes : List ℕ) → take (4 * i) before ≡ bit_numbers low word 0 (4 * i) → take (4 * i + 4) after ≡ take (4 * i) before ++ bytes → bytes ≡ bit_numbers low word (4 * i) 4 → take (4 * (i + 1)) after ≡ bit_numbers low word 0 (4 * (i + 1))
four-more low word i before after bytes h e is =
    let n : 4 * (i + 1) ≡ 4 * i + 4 = omega arith in
    let z : 4 * i ≡ 0 + 4 * i = omega arith in
    rw n (e ∙ (ap (λ (ys : List ℕ). ys ++ bytes) h ∙ (ap (λ (ys : List ℕ). bit_numbers low word 0 (4 * i) ++ ys) (is ∙ ap (λ (p : ℕ). bit_numbers low word p 4) z) ∙ sym (numbers-add low word 0 (4 * i) 4))))

pub numbers-none : (low word place count : ℕ) → count ≡ 0 → bit_numbers low word place count ≡ []
unfolding bit_numbers
numbers-none low word place zero e = refl
numbers-none low word place (suc count) e = absurd (omega (arith, e))

-- the first ones
pub numbers-front : (low word count : ℕ) → count ≤ 64 → take count (bit_numbers low word 0 64) ≡ bit_numbers low word 0 count
numbers-front low word count few =
    let n : count + (64 - count) ≡ 64 = omega (arith, few) in
    ap (λ (k : ℕ). take count (bit_numbers low word 0 k)) (sym n)
    ∙ (ap (take count) (numbers-add low word 0 count (64 - count)) ∙ take_at (bit_numbers low word 0 count) (bit_numbers low word (0 + count) (64 - count)) count (length-bit_numbers low word 0 count))
