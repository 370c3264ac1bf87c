-- Bits of a word at the places of another one's set bits, side by side.
use Rattle.std.proofs.Common.{◌≡◌, ℕ, zero, suc, bit_and, count_ones, cond, not, ◌+◌, ◌-◌, ◌*◌, ◌/◌, ◌%◌, ◌^◌, ◌<◌, ◌≤◌, ◌==◌, Bool, ◌⊎◌, List, [], ◌∷◌, map, refl, ap, ap₂, sym, subst, ◌∙◌, inl, inr, arith}
use Rattle.std.specs.Int.{bit_at}
use Rattle.std.specs.Int.Count.{count_leading_zeros}
use Rattle.std.proofs.Math.Nat.{mul-le-mul_left, pow-le-pow_right, mul_comm}
use Rattle.std.proofs.lemmas.Bool.{cases_lt}
use Rattle.std.proofs.lemmas.Nat.{div-add-mod', leading_top, ones_cat, ones_le_self, pow_pos, shr-shr}
use Rattle.std.proofs.lemmas.Nat.Bits.{bit_at_lowest, bit_at-suc, bit_at_and, bit_at_above, bit_at-lt, bit_at_cat_low, bit_at_cat_high}
use lib.Count.{ones_step}
use Rattle.columns_core.specs.Bits.{word_bits}
use Rattle.write_places.specs.Places.{gather, picked}
use Rattle.write_places.proofs.Picked.{picked-step}

-- the low bits of a word without those at the gaps: what is behind them goes down
unfoldable pub closed : ℕ → ℕ → ℕ → List Bool
closed zero gaps word = []
closed (suc n) gaps word = cond (gaps % 2 == 1) (closed n (gaps / 2) (word / 2)) ((word % 2 == 1) ∷ closed n (gaps / 2) (word / 2))

pub closed-none : (n word : ℕ) → closed n 0 word ≡ word_bits word n
unfolding closed
closed-none zero word = refl
closed-none (suc n) word = ap (λ (bs : List Bool). (word % 2 == 1) ∷ bs) (closed-none n (word / 2))

-- ---- the highest gap

-- what is above a place, one place down
sunk_least : (t word : ℕ) → word / 2 ^ t / 2 * 2 ^ t ≤ word
sunk_least t word =
    let half : word / 2 ^ t / 2 ≤ word / 2 ^ t = omega arith in
    omega (arith, div-add-mod' word (2 ^ t), mul-le-mul_left (2 ^ t) half, mul_comm (2 ^ t) (word / 2 ^ t / 2), mul_comm (2 ^ t) (word / 2 ^ t))

sunk_first : (word : ℕ) → word % 2 ≡ 0 → word - word / 2 ^ 0 / 2 * 2 ^ 0 ≡ word / 2
sunk_first word even = omega (arith, even)

sunk_next : (t word : ℕ) → word / 2 ^ suc t / 2 * 2 ^ suc t ≡ word / 2 / 2 ^ t / 2 * 2 ^ t * 2
sunk_next t word =
    let p : 2 ^ suc t ≡ 2 ^ t * 2 = omega arith in
    let place : suc t ≡ 1 + t = omega arith in
    let q : word / 2 ^ suc t ≡ word / 2 / 2 ^ t = ap (λ (k : ℕ). word / 2 ^ k) place ∙ sym (shr-shr word 1 t) in
    ap₂ (λ (a b : ℕ). a / 2 * b) q p ∙ omega arith

-- one bit less at the highest gap
pub closed-less : (t n gaps word : ℕ) → t ≤ n → 2 ^ t ≤ gaps → gaps < 2 ^ suc t → bit_at word t ≡ 0 → closed (suc n) gaps word ≡ closed n (gaps - 2 ^ t) (word - word / 2 ^ t / 2 * 2 ^ t)
unfolding closed
closed-less zero n gaps word h least most clear =
    let one : gaps ≡ 1 = omega (arith, least, most) in
    let even : word % 2 ≡ 0 = sym (bit_at_lowest word) ∙ clear in
    rw (one, sunk_first word even) refl
closed-less (suc t) zero gaps word h least most clear = absurd (omega (arith, h))
closed-less (suc t) (suc n) gaps word h least most clear =
    let p : 2 ^ suc t ≡ 2 ^ t * 2 = omega arith in
    let p' : 2 ^ suc (suc t) ≡ 2 ^ t * 2 * 2 = omega (arith, p) in
    let gap : (gaps - 2 ^ suc t) % 2 ≡ gaps % 2 = omega (arith, p, least) in
    let gaps' : (gaps - 2 ^ suc t) / 2 ≡ gaps / 2 - 2 ^ t = omega (arith, p, least) in
    let s = sunk_next t word in
    let most' = sunk_least (suc t) word in
    let low : (word - word / 2 ^ suc t / 2 * 2 ^ suc t) % 2 ≡ word % 2 = omega (arith, s, most') in
    let half : (word - word / 2 ^ suc t / 2 * 2 ^ suc t) / 2 ≡ word / 2 - word / 2 / 2 ^ t / 2 * 2 ^ t = omega (arith, s, most') in
    let rest = closed-less t n (gaps / 2) (word / 2) (omega (arith, h)) (omega (arith, least, p)) (omega (arith, most, p, p')) (sym (bit_at-suc word t) ∙ clear) in
    rw (gap, gaps', low, half) (ap (λ (bs : List Bool). cond (gaps % 2 == 1) bs ((word % 2 == 1) ∷ bs)) rest)

-- ---- gaps and the others

heads : {A : Type 0} (x y : A) (xs ys : List A) → x ∷ xs ≡ y ∷ ys → x ≡ y
heads x y xs ys e = cc

tails : {A : Type 0} (x y : A) (xs ys : List A) → x ∷ xs ≡ y ∷ ys → xs ≡ ys
tails x y xs ys e = cc

pub closed-picked : (f : ℕ → Bool) (n from gaps bits word : ℕ) → word_bits gaps n ≡ map not (word_bits bits n) → ((i : ℕ) → i < n → bit_at bits i ≡ 1 → (bit_at word i == 1) ≡ f (from + i)) → closed n gaps word ≡ map f (picked bits from n)
unfolding closed gather
closed-picked f zero from gaps bits word e same = refl
closed-picked f (suc n) from gaps bits word e same =
    by (closed-picked f n (from + 1) (gaps / 2) (bits / 2) (word / 2) (tails _ _ _ _ e) (λ i h one.
    let k : from + 1 + i ≡ from + suc i = omega arith in
    sym (ap (λ (b : ℕ). b == 1) (bit_at-suc word i)) ∙ (same (suc i) (omega (arith, h)) (bit_at-suc bits i ∙ one) ∙ ap f (sym k))))
    (bits % 2) refl (omega arith) (heads _ _ _ _ e)
  where
    by : closed n (gaps / 2) (word / 2) ≡ map f (picked (bits / 2) (from + 1) n) → (r : ℕ) → bits % 2 ≡ r → r < 2 → (gaps % 2 == 1) ≡ not (bits % 2 == 1) → closed (suc n) gaps word ≡ map f (picked bits from (suc n))
    by rest zero is few h = rw (picked-step bits from n, h, is) rest
    by rest (suc zero) is few h =
        let place : from + 0 ≡ from = omega arith in
        let first : (word % 2 == 1) ≡ f from = ap (λ (b : ℕ). b == 1) (sym (bit_at_lowest word)) ∙ (same 0 (omega arith) (bit_at_lowest bits ∙ is) ∙ ap f place) in
        rw (picked-step bits from n, h, is, first) (ap (λ (bs : List Bool). f from ∷ bs) rest)
    by rest (suc (suc r)) is few h = absurd (omega (arith, few))

flipped : (a b : ℕ) → a + b ≡ 1 → (a == 1) ≡ not (b == 1)
flipped zero zero e = absurd (omega (arith, e))
flipped zero (suc zero) e = refl
flipped (suc zero) zero e = refl
flipped zero (suc (suc b)) e = absurd (omega (arith, e))
flipped (suc zero) (suc b) e = absurd (omega (arith, e))
flipped (suc (suc a)) b e = absurd (omega (arith, e))

-- the bits of a word that are not set
pub unset-bits : (n word : ℕ) → word < 2 ^ n → word_bits (2 ^ n - 1 - word) n ≡ map not (word_bits word n)
unset-bits zero word h = refl
unset-bits (suc n) word h =
    let p : 2 ^ suc n ≡ 2 ^ n * 2 = omega arith in
    let low : (2 ^ suc n - 1 - word) % 2 + word % 2 ≡ 1 = omega (arith, h, p) in
    let half : (2 ^ suc n - 1 - word) / 2 ≡ 2 ^ n - 1 - word / 2 = omega (arith, h, p) in
    ap₂ (λ (b : Bool) (bs : List Bool). b ∷ bs) (flipped _ _ low) (ap (λ (m : ℕ). word_bits m n) half ∙ unset-bits n (word / 2) (omega (arith, h, p)))

bit_flip : (n word i : ℕ) → word < 2 ^ n → i < n → bit_at (2 ^ n - 1 - word) i + bit_at word i ≡ 1
bit_flip zero word i h l = absurd (omega (arith, l))
bit_flip (suc n) word zero h l =
    let p : 2 ^ suc n ≡ 2 ^ n * 2 = omega arith in
    let low : (2 ^ suc n - 1 - word) % 2 + word % 2 ≡ 1 = omega (arith, h, p) in
    omega (arith, low, bit_at_lowest word, bit_at_lowest (2 ^ suc n - 1 - word))
bit_flip (suc n) word (suc i) h l =
    let p : 2 ^ suc n ≡ 2 ^ n * 2 = omega arith in
    let half : (2 ^ suc n - 1 - word) / 2 ≡ 2 ^ n - 1 - word / 2 = omega (arith, h, p) in
    omega (arith, bit_at-suc word i, bit_at-suc (2 ^ suc n - 1 - word) i ∙ ap (λ (k : ℕ). bit_at k i) half, bit_flip n (word / 2) i (omega (arith, h, p)) (omega (arith, l)))

no-ones : count_ones 0 ≡ 0
no-ones = omega (arith, ones_le_self 0)

single-one : count_ones 1 ≡ 1
single-one =
    let half : 1 / 2 ≡ 0 = omega arith in
    omega (arith, ones_step 1, ap count_ones half, no-ones)

pub unset-ones : (n word : ℕ) → word < 2 ^ n → count_ones (2 ^ n - 1 - word) + count_ones word ≡ n
unset-ones zero word h =
    let z : word ≡ 0 = omega (arith, h) in
    let none : 2 ^ zero - 1 - 0 ≡ 0 = omega arith in
    rw z (omega (arith, ap count_ones none, no-ones))
unset-ones (suc n) word h =
    let p : 2 ^ suc n ≡ 2 ^ n * 2 = omega arith in
    let low : (2 ^ suc n - 1 - word) % 2 + word % 2 ≡ 1 = omega (arith, h, p) in
    let half : (2 ^ suc n - 1 - word) / 2 ≡ 2 ^ n - 1 - word / 2 = omega (arith, h, p) in
    omega (arith, low, ap count_ones half, ones_step (2 ^ suc n - 1 - word), ones_step word, unset-ones n (word / 2) (omega (arith, h, p)))

-- ---- the loop

-- the gaps that are left stand among the low n bits, and the word has none there
pub record IsClosing (values bits count gaps word : ℕ) : Type 0 where
  pub n : ℕ
  pub size : n ≡ count_ones bits + count_ones gaps
  pub low : gaps < 2 ^ n
  pub clear : (i : ℕ) → bit_at gaps i ≡ 1 → bit_at word i ≡ 0
  pub same : closed n gaps word ≡ map (λ i. bit_at values i == 1) (picked bits 0 count)

pub closing-none : (values bits count : ℕ) → bits < 2 ^ count → IsClosing values bits count (2 ^ count - 1 - bits) (bit_and values bits)
closing-none values bits count low = record {
  n = count;
  size = omega (arith, unset-ones count bits low);
  low = omega (arith, pow_pos count);
  clear = clear;
  same = closed-picked (λ i. bit_at values i == 1) count 0 (2 ^ count - 1 - bits) bits (bit_and values bits) (unset-bits count bits low) (λ i h one.
      let z : 0 + i ≡ i = omega arith in
      let b : bit_at (bit_and values bits) i ≡ bit_at values i = bit_at_and values bits i ∙ omega (arith, one, bit_at-lt values i) in
      ap (λ (k : ℕ). k == 1) (b ∙ ap (bit_at values) (sym z)));
}
  where
    gap_or : (i : ℕ) → (i < count) ⊎ (count ≤ i) → bit_at (2 ^ count - 1 - bits) i ≡ 1 → bit_at bits i ≡ 0
    gap_or i (inl h) one = omega (arith, one, bit_flip count bits i low h)
    gap_or i (inr h) one = bit_at_above bits count i low h

    clear : (i : ℕ) → bit_at (2 ^ count - 1 - bits) i ≡ 1 → bit_at (bit_and values bits) i ≡ 0
    clear i one = bit_at_and values bits i ∙ omega (arith, gap_or i (cases_lt i count) one)

-- the place of the highest gap
pub highest_place : (gaps : ℕ) → 0 < gaps → gaps < 2 ^ 64 → (2 ^ (63 - count_leading_zeros 64 gaps) ≤ gaps) × (gaps < 2 ^ (63 - count_leading_zeros 64 gaps + 1))
highest_place gaps some fits =
    let t = leading_top 64 gaps some fits in
    let place : 63 - count_leading_zeros 64 gaps ≡ t.0 = omega (arith, t.1) in
    let above : 63 - count_leading_zeros 64 gaps + 1 ≡ suc t.0 = omega (arith, t.1) in (
      rw place t.2,
      rw above t.3,
    )

-- below the highest gap the others are as they were
rest_below : (t gaps : ℕ) → 2 ^ t ≤ gaps → gaps < 2 ^ (t + 1) → gaps - 2 ^ t < 2 ^ t
rest_below t gaps least most =
    let s : t + 1 ≡ suc t = omega arith in
    let p : 2 ^ suc t ≡ 2 ^ t * 2 = omega arith in
    omega (arith, least, most, ap (λ (k : ℕ). 2 ^ k) s, p)

gap_kept : (t gaps i : ℕ) → 2 ^ t ≤ gaps → i < t → bit_at (gaps - 2 ^ t) i ≡ bit_at gaps i
gap_kept t gaps i least h =
    let whole : 1 * 2 ^ t + (gaps - 2 ^ t) ≡ gaps = omega (arith, least) in
    sym (bit_at_cat_low 1 t (gaps - 2 ^ t) i h) ∙ ap (λ (k : ℕ). bit_at k i) whole

word_kept : (t word i : ℕ) → bit_at word t ≡ 0 → i < t → bit_at (word - word / 2 ^ t / 2 * 2 ^ t) i ≡ bit_at word i
word_kept t word i clear h =
    let q = word / 2 ^ t in
    let r = word % 2 ^ t in
    let even : q % 2 ≡ 0 = clear in
    let whole : q * 2 ^ t + r ≡ word = div-add-mod' word (2 ^ t) in
    let half : q ≡ q / 2 + q / 2 = omega (arith, even) in
    let two : q * 2 ^ t ≡ q / 2 * 2 ^ t + q / 2 * 2 ^ t = ap (λ (k : ℕ). k * 2 ^ t) half ∙ omega arith in
    let less : word - q / 2 * 2 ^ t ≡ q / 2 * 2 ^ t + r = omega (arith, whole, two) in
    ap (λ (k : ℕ). bit_at k i) less ∙ (bit_at_cat_low (q / 2) t r i h ∙ (sym (bit_at_cat_low q t r i h) ∙ ap (λ (k : ℕ). bit_at k i) whole))

pub closing-more : (values bits count gaps word t : ℕ) → 2 ^ t ≤ gaps → gaps < 2 ^ (t + 1) → IsClosing values bits count gaps word → IsClosing values bits count (gaps - 2 ^ t) (word - word / 2 ^ t / 2 * 2 ^ t)
closing-more values bits count gaps word t least most c =
    let below = rest_below t gaps least most in
    let s : t + 1 ≡ suc t = omega arith in
    let whole : 1 * 2 ^ t + (gaps - 2 ^ t) ≡ gaps = omega (arith, least) in
    let one : count_ones gaps ≡ count_ones 1 + count_ones (gaps - 2 ^ t) = ap count_ones (sym whole) ∙ ones_cat t 1 (gaps - 2 ^ t) below in
    let set : bit_at gaps t ≡ 1 = top_set t gaps least (subst (λ (k : ℕ). gaps < 2 ^ k) s most) in
    let clear : bit_at word t ≡ 0 = c.clear t set in
    let n : c.n ≡ suc (c.n - 1) = omega (arith, c.size, one, single-one) in
    let inside : t < c.n = place_within t c.n gaps least c.low in
    let room : 2 ^ t ≤ 2 ^ (c.n - 1) = pow-le-pow_right (omega arith) (omega (arith, inside)) in
    record {
      n = c.n - 1;
      size = omega (arith, c.size, one, single-one);
      low = omega (arith, below, room);
      clear = λ i e. still i e (cases_lt i t) below clear;
      same = sym (closed-less t (c.n - 1) gaps word (omega (arith, inside)) least (subst (λ (k : ℕ). gaps < 2 ^ k) s most) clear) ∙ (ap (λ (k : ℕ). closed k gaps word) (sym n) ∙ c.same);
    }
  where
    still : (i : ℕ) → bit_at (gaps - 2 ^ t) i ≡ 1 → (i < t) ⊎ (t ≤ i) → gaps - 2 ^ t < 2 ^ t → bit_at word t ≡ 0 → bit_at (word - word / 2 ^ t / 2 * 2 ^ t) i ≡ 0
    still i e (inl h) below clear = word_kept t word i clear h ∙ c.clear i (sym (gap_kept t gaps i least h) ∙ e)
    still i e (inr h) below clear = absurd (omega (arith, e, bit_at_above (gaps - 2 ^ t) t i below h))

    place_within : (t n gaps : ℕ) → 2 ^ t ≤ gaps → gaps < 2 ^ n → t < n
    place_within t n gaps least low = elim (cases_lt t n) [
      | inl h ↦ h
      | inr h ↦ let more : 2 ^ n ≤ 2 ^ t = pow-le-pow_right (omega arith) h in absurd (omega (arith, least, low, more))
    ]

    top_set : (t gaps : ℕ) → 2 ^ t ≤ gaps → gaps < 2 ^ suc t → bit_at gaps t ≡ 1
    top_set t gaps least most =
        let p : 2 ^ suc t ≡ 2 ^ t * 2 = omega arith in
        let whole : 1 * 2 ^ t + (gaps - 2 ^ t) ≡ gaps = omega (arith, least) in
        let same : t - t ≡ 0 = omega arith in
        ap (λ (k : ℕ). bit_at k t) (sym whole) ∙ (bit_at_cat_high 1 t (gaps - 2 ^ t) t (omega (arith, least, most, p)) (omega arith) ∙ (ap (bit_at 1) same ∙ bit_at_lowest 1))

pub closing-all : (values bits count gaps word : ℕ) → gaps ≡ 0 → IsClosing values bits count gaps word → word_bits word (count_ones bits) ≡ map (λ i. bit_at values i == 1) (picked bits 0 count)
closing-all values bits count gaps word e c =
    let n : count_ones bits ≡ c.n = omega (arith, c.size, ap count_ones e, no-ones) in
    ap (word_bits word) n ∙ (sym (closed-none c.n word) ∙ (ap (λ (k : ℕ). closed c.n k word) (sym e) ∙ c.same))
