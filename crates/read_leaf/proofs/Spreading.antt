-- Bits of one word in the places of another one's set bits.
use Rattle.std.proofs.Common.{◌≡◌, ℕ, zero, suc, bit_and, count_ones, cond, not, ◌+◌, ◌-◌, ◌*◌, ◌/◌, ◌%◌, ◌^◌, ◌<◌, ◌≤◌, ◌==◌, Bool, true, false, List, [], ◌∷◌, length, map, refl, ap, ap₂, sym, ◌∙◌, inl, inr, arith}
use Rattle.std.specs.Int.{bit_at, w64, trailing_zeros}
use Rattle.std.specs.Int.Bits.{and_self}
use Rattle.std.proofs.lemmas.Bool.{cases_lt}
use Rattle.std.proofs.Math.Nat.{mul-le-mul_left, mul-lt-mul_of_pos_right, mul_left_comm, mul_comm, pow-le-pow_right}
use Rattle.std.proofs.lemmas.Nat.{and_shr, and_le_r, pow_pos, pow-add, shr-shr, div-add-mod'}
use Rattle.std.proofs.lemmas.Nat.Bits.{bit_at_lowest, bit_at-suc, bit_at-zero, bit_at_and, bit_at_above, bit_at-trailing_zeros}
use lib.Count.{ones_step}
use Rattle.columns_core.specs.Bits.{word_bits}
use Rattle.read_walk.specs.Values.{ones}
use Rattle.read_leaf.specs.Truths.{among_nulls}
use Rattle.read_leaf.proofs.SetBits.{length-bits, ones-bits}

-- the low bits of a word, with a 0 at each of the nulls: what is behind them goes up
unfoldable pub opened : ℕ → ℕ → ℕ → List Bool
opened zero nulls word = []
opened (suc n) nulls word = cond (nulls % 2 == 1) (false ∷ opened n (nulls / 2) word) ((word % 2 == 1) ∷ opened n (nulls / 2) (word / 2))

pub opened-none : (n word : ℕ) → opened n 0 word ≡ word_bits word n
unfolding opened
opened-none zero word = refl
opened-none (suc n) word = ap (λ (bs : List Bool). (word % 2 == 1) ∷ bs) (opened-none n (word / 2))

-- ---- the lowest set bit

-- a word without it, where it is the first, and where it is another one
odd-cleared : (n : ℕ) → n % 2 ≡ 1 → (bit_and n (n - 1) % 2 ≡ 0) × (bit_and n (n - 1) / 2 ≡ n / 2)
odd-cleared n odd =
    let half : (n - 1) / 2 ≡ n / 2 = omega (arith, odd) in
    let even : bit_at (n - 1) 0 ≡ 0 = bit_at_lowest (n - 1) ∙ omega (arith, odd) in
    let first : bit_at (bit_and n (n - 1)) 0 ≡ 0 = bit_at_and n (n - 1) 0 ∙ omega (arith, even) in (
      sym (bit_at_lowest (bit_and n (n - 1))) ∙ first,
      and_shr n (n - 1) 1 ∙ (ap (bit_and (n / 2)) half ∙ and_self (n / 2)),
    )

even-cleared : (n : ℕ) → n % 2 ≡ 0 → 0 < n / 2 → (bit_and n (n - 1) % 2 ≡ 0) × (bit_and n (n - 1) / 2 ≡ bit_and (n / 2) (n / 2 - 1))
even-cleared n even some =
    let less : (n - 1) / 2 ≡ n / 2 - 1 = omega (arith, even, some) in
    let zero_bit : bit_at n 0 ≡ 0 = bit_at_lowest n ∙ even in
    let first : bit_at (bit_and n (n - 1)) 0 ≡ 0 = bit_at_and n (n - 1) 0 ∙ omega (arith, zero_bit) in (
      sym (bit_at_lowest (bit_and n (n - 1))) ∙ first,
      and_shr n (n - 1) 1 ∙ ap (bit_and (n / 2)) less,
    )

-- the place of the lowest set bit
pub record IsLowest (t n : ℕ) : Type 0 where
  pub below : (j : ℕ) → j < t → bit_at n j ≡ 0
  pub set : bit_at n t ≡ 1

lowest_odd : (n : ℕ) → IsLowest zero n → n % 2 ≡ 1
lowest_odd n l = sym (bit_at_lowest n) ∙ l.set

lowest_even : (t n : ℕ) → IsLowest (suc t) n → n % 2 ≡ 0
lowest_even t n l = sym (bit_at_lowest n) ∙ l.below 0 (omega arith)

lowest_half : (t n : ℕ) → IsLowest (suc t) n → IsLowest t (n / 2)
lowest_half t n l = record {
  below = λ j h. sym (bit_at-suc n j) ∙ l.below (suc j) (omega (arith, h));
  set = sym (bit_at-suc n t) ∙ l.set;
}

lowest_some : (t n : ℕ) → IsLowest t n → 0 < n
lowest_some t n l = elim (cases_lt 0 n) [
  | inl h ↦ h
  | inr h ↦ let z : n ≡ 0 = omega (arith, h) in absurd (omega (arith, l.set, ap (λ (k : ℕ). bit_at k t) z ∙ bit_at-zero t))
]

-- as many set bits but one
pub one-cleared : (t n : ℕ) → IsLowest t n → count_ones n ≡ count_ones (bit_and n (n - 1)) + 1
one-cleared zero n l =
    let o = odd-cleared n (lowest_odd n l) in
    omega (arith, ones_step n, ones_step (bit_and n (n - 1)), lowest_odd n l, o.0, ap count_ones o.1)
one-cleared (suc t) n l =
    let e = even-cleared n (lowest_even t n l) (lowest_some t (n / 2) (lowest_half t n l)) in
    omega (arith, ones_step n, ones_step (bit_and n (n - 1)), lowest_even t n l, e.0, ap count_ones e.1, one-cleared t (n / 2) (lowest_half t n l))

-- what is not below a place, one place up
raised_odd : (word : ℕ) → word + word / 2 ^ 0 * 2 ^ 0 ≡ word * 2
raised_odd word = omega arith

raised_low : (t word : ℕ) → (word + word / 2 ^ suc t * 2 ^ suc t) % 2 ≡ word % 2
raised_low t word =
    let p : 2 ^ suc t ≡ 2 ^ t * 2 = omega arith in
    omega (arith, ap (λ (k : ℕ). word / 2 ^ suc t * k) p)

raised_half : (t word : ℕ) → (word + word / 2 ^ suc t * 2 ^ suc t) / 2 ≡ word / 2 + word / 2 / 2 ^ t * 2 ^ t
raised_half t word =
    let p : 2 ^ suc t ≡ 2 ^ t * 2 = omega arith in
    let place : suc t ≡ 1 + t = omega arith in
    let q : word / 2 ^ suc t ≡ word / 2 / 2 ^ t = ap (λ (k : ℕ). word / 2 ^ k) place ∙ sym (shr-shr word 1 t) in
    omega (arith, ap₂ (λ (k m : ℕ). k * m) q p)

-- a 0 more at the lowest null
pub opened-more : (t n nulls word : ℕ) → t < n → IsLowest t nulls → opened n nulls word ≡ opened n (bit_and nulls (nulls - 1)) (word + word / 2 ^ t * 2 ^ t)
unfolding opened
opened-more t zero nulls word h l = absurd (omega (arith, h))
opened-more zero (suc n) nulls word h l =
    let o = odd-cleared nulls (lowest_odd nulls l) in
    let low : word * 2 % 2 ≡ 0 = omega arith in
    let half : word * 2 / 2 ≡ word = omega arith in
    rw (lowest_odd nulls l, o.0, o.1, raised_odd word, low, half) refl
opened-more (suc t) (suc n) nulls word h l =
    let e = even-cleared nulls (lowest_even t nulls l) (lowest_some t (nulls / 2) (lowest_half t nulls l)) in
    rw (lowest_even t nulls l, e.0, e.1, raised_low t word, raised_half t word) (ap (λ (bs : List Bool). (word % 2 == 1) ∷ bs) (opened-more t n (nulls / 2) (word / 2) (omega (arith, h)) (lowest_half t nulls l)))

-- ---- nulls and the others

heads : {A : Type 0} (x y : A) (xs ys : List A) → x ∷ xs ≡ y ∷ ys → x ≡ y
heads x y xs ys e = cc

tails : {A : Type 0} (x y : A) (xs ys : List A) → x ∷ xs ≡ y ∷ ys → xs ≡ ys
tails x y xs ys e = cc

pub opened-among : (n valid nulls word : ℕ) → word_bits nulls n ≡ map not (word_bits valid n) → opened n nulls word ≡ among_nulls (word_bits valid n) (word_bits word (ones (word_bits valid n)))
unfolding opened
opened-among zero valid nulls word e = refl
opened-among (suc n) valid nulls word e = by (opened-among n (valid / 2) (nulls / 2) (word / 2) (tails _ _ _ _ e)) (opened-among n (valid / 2) (nulls / 2) word (tails _ _ _ _ e)) (valid % 2 == 1) (heads _ _ _ _ e)
  where
    vs : List Bool
    vs = word_bits (valid / 2) n

    by : opened n (nulls / 2) (word / 2) ≡ among_nulls vs (word_bits (word / 2) (ones vs)) → opened n (nulls / 2) word ≡ among_nulls vs (word_bits word (ones vs)) → (b : Bool) → (nulls % 2 == 1) ≡ not b → opened (suc n) nulls word ≡ among_nulls (b ∷ vs) (word_bits word (ones (b ∷ vs)))
    by taken kept true h =
        let more : ones (true ∷ vs) ≡ suc (ones vs) = omega arith in
        rw (more, h) (ap (λ (bs : List Bool). (word % 2 == 1) ∷ bs) taken)
    by taken kept false h =
        let same : ones (false ∷ vs) ≡ ones vs = omega arith in
        rw (same, h) (ap (λ (bs : List Bool). false ∷ bs) kept)

flipped : (a b : ℕ) → a + b ≡ 1 → (a == 1) ≡ not (b == 1)
flipped zero zero e = absurd (omega (arith, e))
flipped zero (suc zero) e = refl
flipped (suc zero) zero e = refl
flipped zero (suc (suc b)) e = absurd (omega (arith, e))
flipped (suc zero) (suc b) e = absurd (omega (arith, e))
flipped (suc (suc a)) b e = absurd (omega (arith, e))

-- the bits of a word that are not set
unset-bits : (n k word : ℕ) → word < 2 ^ k → n ≤ k → word_bits (2 ^ k - 1 - word) n ≡ map not (word_bits word n)
unset-bits zero k word h l = refl
unset-bits (suc n) zero word h l = absurd (omega (arith, l))
unset-bits (suc n) (suc k) word h l =
    let p : 2 ^ suc k ≡ 2 ^ k * 2 = omega arith in
    let low : (2 ^ suc k - 1 - word) % 2 + word % 2 ≡ 1 = omega (arith, h, p) in
    let half : (2 ^ suc k - 1 - word) / 2 ≡ 2 ^ k - 1 - word / 2 = omega (arith, h, p) in
    ap₂ (λ (b : Bool) (bs : List Bool). b ∷ bs) (flipped _ _ low) (ap (λ (m : ℕ). word_bits m n) half ∙ unset-bits n k (word / 2) (omega (arith, h, p)) (omega (arith, l)))

ones-not : (bs : List Bool) → ones (map not bs) + ones bs ≡ length bs
ones-not [] = refl
ones-not (true ∷ bs) = omega (arith, ones-not bs)
ones-not (false ∷ bs) = omega (arith, ones-not bs)

-- ---- the loop

pub record IsSpreading (count valid source nulls word : ℕ) : Type 0 where
  pub low : nulls < 2 ^ count
  pub room : word * 2 ^ count_ones nulls < 2 ^ 64
  pub same : opened count nulls word ≡ among_nulls (word_bits valid count) (word_bits source (ones (word_bits valid count)))

pub spreading-none : (count valid source nulls : ℕ) → count ≤ 64 → valid < 2 ^ 64 → source < 2 ^ ones (word_bits valid count) → nulls < 2 ^ count → word_bits nulls count ≡ word_bits (18446744073709551615 - valid) count → IsSpreading count valid source nulls source
spreading-none count valid source nulls few fits low below same =
    let not_valid : word_bits nulls count ≡ map not (word_bits valid count) = same ∙ unset-bits count 64 valid fits few in
    let o = ones (word_bits valid count) in
    let k = count_ones nulls in
    let all : o + k ≡ count = omega (arith, ones-bits count nulls below, ap ones not_valid, ones-not (word_bits valid count), length-bits valid count) in
    let less : source * 2 ^ k < 2 ^ o * 2 ^ k = mul-lt-mul_of_pos_right low (pow_pos k) in
    let power : 2 ^ o * 2 ^ k ≡ 2 ^ count = sym (pow-add 2 o k) ∙ ap (λ (m : ℕ). 2 ^ m) all in
    let most : 2 ^ count ≤ 2 ^ 64 = pow-le-pow_right (omega arith) few in
    record { low = below; room = omega (arith, less, power, most); same = opened-among count valid nulls source not_valid }

lowest_of : (nulls : ℕ) → 0 < nulls → nulls < 2 ^ 64 → IsLowest (trailing_zeros w64 nulls) nulls
lowest_of nulls some fits =
    let z = bit_at-trailing_zeros w64 nulls some fits in
    record { below = z.2; set = z.1 }

within : (t count nulls : ℕ) → nulls < 2 ^ count → IsLowest t nulls → t < count
within t count nulls low l = elim (cases_lt t count) [
  | inl h ↦ h
  | inr h ↦ absurd (omega (arith, l.set, bit_at_above nulls count t low h))
]

-- the word after a step, within room
raised_room : (t nulls word : ℕ) → IsLowest t nulls → word * 2 ^ count_ones nulls < 2 ^ 64 → (word + word / 2 ^ t * 2 ^ t) * 2 ^ count_ones (bit_and nulls (nulls - 1)) < 2 ^ 64
raised_room t nulls word l room =
    let k = count_ones (bit_and nulls (nulls - 1)) in
    let least : word / 2 ^ t * 2 ^ t ≤ word = omega (arith, div-add-mod' word (2 ^ t)) in
    let twice : word + word / 2 ^ t * 2 ^ t ≤ word * 2 = omega (arith, least) in
    let one : count_ones nulls ≡ suc k = omega (arith, one-cleared t nulls l) in
    let power : 2 ^ suc k ≡ 2 * 2 ^ k = omega arith in
    let whole : word * 2 ^ count_ones nulls ≡ 2 ^ k * (word * 2) = ap (λ (m : ℕ). word * 2 ^ m) one ∙ (ap (λ (m : ℕ). word * m) power ∙ swapped word (2 ^ k)) in
    let less : 2 ^ k * (word + word / 2 ^ t * 2 ^ t) ≤ 2 ^ k * (word * 2) = mul-le-mul_left (2 ^ k) twice in
    omega (arith, less, whole, room, mul_comm (2 ^ k) (word + word / 2 ^ t * 2 ^ t))
  where
    swapped : (a b : ℕ) → a * (2 * b) ≡ b * (a * 2)
    swapped a b = omega (arith, mul_left_comm a 2 b, mul_left_comm b a 2, mul_comm a b)

pub spreading-fits : (count valid source nulls word : ℕ) → 0 < nulls → nulls < 2 ^ 64 → IsSpreading count valid source nulls word → word + word / 2 ^ trailing_zeros w64 nulls * 2 ^ trailing_zeros w64 nulls < 2 ^ 64
spreading-fits count valid source nulls word some fits s =
    let t = trailing_zeros w64 nulls in
    let k = count_ones (bit_and nulls (nulls - 1)) in
    let room = raised_room t nulls word (lowest_of nulls some fits) s.room in
    let one : 1 ≤ 2 ^ k = pow_pos k in
    let more : (word + word / 2 ^ t * 2 ^ t) * 1 ≤ (word + word / 2 ^ t * 2 ^ t) * 2 ^ k = mul-le-mul_left (word + word / 2 ^ t * 2 ^ t) one in
    omega (arith, room, more)

pub spreading-more : (count valid source nulls word : ℕ) → 0 < nulls → nulls < 2 ^ 64 → IsSpreading count valid source nulls word → IsSpreading count valid source (bit_and nulls (nulls - 1)) (word + word / 2 ^ trailing_zeros w64 nulls * 2 ^ trailing_zeros w64 nulls)
spreading-more count valid source nulls word some fits s =
    let t = trailing_zeros w64 nulls in
    let l = lowest_of nulls some fits in
    record {
      low = omega (arith, s.low, and_le_r nulls (nulls - 1));
      room = raised_room t nulls word l s.room;
      same = sym (opened-more t count nulls word (within t count nulls s.low l) l) ∙ s.same;
    }

pub spreading-all : (count valid source nulls word : ℕ) → nulls ≡ 0 → IsSpreading count valid source nulls word → word_bits word count ≡ among_nulls (word_bits valid count) (word_bits source (ones (word_bits valid count)))
spreading-all count valid source nulls word e s = sym (opened-none count word) ∙ (ap (λ (k : ℕ). opened count k word) (sym e) ∙ s.same)

pub less-left : (nulls : ℕ) → 0 < nulls → bit_and nulls (nulls - 1) < nulls
less-left nulls some = omega (arith, some, and_le_r nulls (nulls - 1))
