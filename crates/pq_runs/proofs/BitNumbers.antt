-- Numbers by the bits of a word.
use Rattle.std.proofs.Common.{◌≡◌, ℕ, zero, suc, ◌+◌, ◌-◌, ◌*◌, ◌/◌, ◌^◌, ◌%◌, ◌<◌, ◌≤◌, ◌==◌, Bool, cond, count_ones, List, [], ◌∷◌, ◌++◌, length, take, drop, replicate, get_or, append-nil, All, arith, refl, ap, sym, subst, ◌∙◌}
use Rattle.std.specs.Prelude.{slice_index, bit_xor}
use Rattle.std.specs.Int.{bit_at}
use Rattle.std.proofs.Math.Nat.{pow-le-pow_right, mod-eq_of_lt}
use Rattle.std.proofs.lemmas.Bool.{eq-eqb, ne_eqb}
use Rattle.std.proofs.lemmas.List.{take_at, drop_at}
use Rattle.std.proofs.lemmas.List.Elements.{All-take}
use Rattle.std.proofs.lemmas.Nat.{pow-add, pow_pos, mod_below, shr-shr, div-add-mod'}
use Rattle.std.proofs.lemmas.Nat.Bits.{bit_at-lt, bit_at-suc, bit_at_lowest, bit_at_xor, bit_at_cat_low}
use lib.Count.{ones_step, ones}
use Rattle.pq_runs.specs.Stretches.{stretches}
use Rattle.pq_runs.specs.Words.{bit_numbers}

pub length-bit_numbers : (low word place count : ℕ) → length (bit_numbers low word place count) ≡ count
unfolding bit_numbers
length-bit_numbers low word place zero = refl
length-bit_numbers low word place (suc count) = ap suc (length-bit_numbers low word (place + 1) count)

-- numbers of 32 bits that are one for each bit
front_bits : (xs : List ℕ) (low word place count w : ℕ) → w ≤ 32 → count ≤ length xs → ((i : ℕ) → i < count → slice_index xs i ≡ (low + bit_at word (place + i)) % 2 ^ 32) → All (λ v. v < 2 ^ w) (bit_numbers low word place count) → take count xs ≡ bit_numbers low word place count
unfolding bit_numbers
front_bits xs low word place zero w fits few each below = refl
front_bits [] low word place (suc count) w fits few each below = absurd (omega (arith, few))
front_bits (x ∷ xs) low word place (suc count) w fits few each below =
    let here : place + 0 ≡ place = omega arith in
    let small : low + bit_at word place < 2 ^ w = below 0 0 (omega arith) in
    let bits : 2 ^ w ≤ 2 ^ 32 = pow-le-pow_right (omega arith) fits in
    let first : x ≡ low + bit_at word place = each 0 (omega arith) ∙ (ap (λ (p : ℕ). (low + bit_at word p) % 2 ^ 32) here ∙ mod-eq_of_lt (omega (arith, small, bits))) in
    let next : (i : ℕ) → i < count → slice_index xs i ≡ (low + bit_at word (place + 1 + i)) % 2 ^ 32 = λ i h. each (suc i) (omega (arith, h)) ∙ ap (λ (p : ℕ). (low + bit_at word p) % 2 ^ 32) (omega arith) in
    let others : All (λ v. v < 2 ^ w) (bit_numbers low word (place + 1) count) = λ k d lt. below (suc k) d (omega (arith, lt)) in
    ap (λ (y : ℕ). y ∷ take count xs) first ∙ ap (λ (ys : List ℕ). (low + bit_at word place) ∷ ys) (front_bits xs low word (place + 1) count w fits (omega (arith, few)) next others)

pub first_bits : (xs numbers : List ℕ) (low word count w : ℕ) → w ≤ 32 → length xs ≡ 64 → count ≤ 64 → numbers ≡ take count xs → ((i : ℕ) → i < 64 → slice_index xs i ≡ (low + bit_at word i) % 2 ^ 32) → All (λ v. v < 2 ^ w) (bit_numbers low word 0 count) → numbers ≡ bit_numbers low word 0 count
first_bits xs numbers low word count w fits size few e each below =
    e ∙ front_bits xs low word 0 count w fits (omega (arith, size, few)) (λ i h. each i (omega (arith, h, few)) ∙ ap (λ (p : ℕ). (low + bit_at word p) % 2 ^ 32) (omega arith)) below

-- ---- parts of a word

pub numbers-add : (low word place m n : ℕ) → bit_numbers low word place (m + n) ≡ bit_numbers low word place m ++ bit_numbers low word (place + m) n
unfolding bit_numbers
numbers-add low word place zero n =
    let a : 0 + n ≡ n = omega arith in
    let b : place + 0 ≡ place = omega arith in
    rw (a, b) refl
numbers-add low word place (suc m) n =
    let a : suc m + n ≡ suc (m + n) = omega arith in
    let b : place + suc m ≡ place + 1 + m = omega arith in
    rw (a, b) (ap (λ ys. (low + bit_at word place) ∷ ys) (numbers-add low word (place + 1) m n))

pub numbers-alike : (low word other place count : ℕ) → ((i : ℕ) → i < place + count → bit_at word i ≡ bit_at other i) → bit_numbers low word place count ≡ bit_numbers low other place count
unfolding bit_numbers
numbers-alike low word other place zero same = refl
numbers-alike low word other place (suc count) same =
    ap (λ b. (low + b) ∷ bit_numbers low word (place + 1) count) (same place (omega arith)) ∙ ap (λ ys. (low + bit_at other place) ∷ ys) (numbers-alike low word other (place + 1) count (λ i h. same i (omega (arith, h))))

pub bits-half : (low word place count : ℕ) → bit_numbers low word (suc place) count ≡ bit_numbers low (word / 2) place count
unfolding bit_numbers
bits-half low word place zero = refl
bits-half low word place (suc count) =
    let next : suc place + 1 ≡ suc (place + 1) = omega arith in
    ap (λ (b : ℕ). (low + b) ∷ bit_numbers low word (suc place + 1) count) (bit_at-suc word place)
    ∙ ap (λ (ys : List ℕ). (low + bit_at (word / 2) place) ∷ ys) (ap (λ (p : ℕ). bit_numbers low word p count) next ∙ bits-half low word (place + 1) count)

bits-shift : (low word place count : ℕ) → bit_numbers low word place count ≡ bit_numbers low (word / 2 ^ place) 0 count
bits-shift low word zero count =
    let e : word ≡ word / 2 ^ 0 = omega arith in
    ap (λ (w : ℕ). bit_numbers low w 0 count) e
bits-shift low word (suc place) count =
    bits-half low word place count ∙ (bits-shift low (word / 2) place count ∙ ap (λ (w : ℕ). bit_numbers low w 0 count) (halves place))
  where
    halves : (p : ℕ) → word / 2 / 2 ^ p ≡ word / 2 ^ suc p
    halves p =
        let e : 1 + p ≡ suc p = omega arith in
        shr-shr word 1 p ∙ ap (λ (k : ℕ). word / 2 ^ k) e

low-bit : (word n i : ℕ) → i < n → bit_at (word % 2 ^ n) i ≡ bit_at word i
low-bit word n i h =
    let split : word / 2 ^ n * 2 ^ n + word % 2 ^ n ≡ word = div-add-mod' word (2 ^ n) in
    sym (bit_at_cat_low (word / 2 ^ n) n (word % 2 ^ n) i h) ∙ ap (λ (w : ℕ). bit_at w i) split

pub numbers-low : (low word n : ℕ) → bit_numbers low (word % 2 ^ n) 0 n ≡ bit_numbers low word 0 n
numbers-low low word n = numbers-alike low (word % 2 ^ n) word 0 n (λ i h. low-bit word n i (omega (arith, h)))

pub numbers-split : (low word n count : ℕ) → n ≤ count → bit_numbers low word 0 count ≡ bit_numbers low (word % 2 ^ n) 0 n ++ bit_numbers low (word / 2 ^ n) 0 (count - n)
numbers-split low word n count h =
    let e : count ≡ n + (count - n) = omega (arith, h) in
    let here : 0 + n ≡ n = omega arith in
    ap (λ (k : ℕ). bit_numbers low word 0 k) e
    ∙ (numbers-add low word 0 n (count - n)
    ∙ (ap (λ (t : List ℕ). t ++ bit_numbers low word (0 + n) (count - n)) (sym (numbers-low low word n))
    ∙ ap (λ (t : List ℕ). bit_numbers low (word % 2 ^ n) 0 n ++ t) (ap (λ (p : ℕ). bit_numbers low word p (count - n)) here ∙ bits-shift low word n (count - n))))

pub numbers-take : (low word n count : ℕ) → n ≤ count → bit_numbers low (word % 2 ^ n) 0 n ≡ take n (bit_numbers low word 0 count)
numbers-take low word n count h =
    let front = bit_numbers low (word % 2 ^ n) 0 n in
    sym (ap (take n) (numbers-split low word n count h) ∙ take_at front (bit_numbers low (word / 2 ^ n) 0 (count - n)) n (length-bit_numbers low (word % 2 ^ n) 0 n))

pub numbers-drop : (low word n count : ℕ) → n ≤ count → bit_numbers low (word / 2 ^ n) 0 (count - n) ≡ drop n (bit_numbers low word 0 count)
numbers-drop low word n count h =
    let front = bit_numbers low (word % 2 ^ n) 0 n in
    sym (ap (drop n) (numbers-split low word n count h) ∙ drop_at front (bit_numbers low (word / 2 ^ n) 0 (count - n)) n (length-bit_numbers low (word % 2 ^ n) 0 n))

-- the last number behind the others
pub numbers-last : (low word count last : ℕ) → 1 ≤ count → last ≡ low + bit_at word (count - 1) → bit_numbers low word 0 count ≡ bit_numbers low (word % 2 ^ (count - 1)) 0 (count - 1) ++ last ∷ []
unfolding bit_numbers
numbers-last low word count last some e =
    let n : count ≡ count - 1 + 1 = omega (arith, some) in
    let here : 0 + (count - 1) ≡ count - 1 = omega arith in
    ap (λ (k : ℕ). bit_numbers low word 0 k) n
    ∙ (numbers-add low word 0 (count - 1) 1
    ∙ (ap (λ (t : List ℕ). t ++ (low + bit_at word (0 + (count - 1))) ∷ []) (sym (numbers-low low word (count - 1)))
    ∙ ap (λ (x : ℕ). bit_numbers low (word % 2 ^ (count - 1)) 0 (count - 1) ++ x ∷ []) (ap (λ (p : ℕ). low + bit_at word p) here ∙ sym e)))

-- ---- stretches

differ : (low a b : ℕ) → a < 2 → b < 2 → cond (low + a == low + b) 0 1 ≡ (a + b) % 2
differ low zero zero h k = ap (λ (t : Bool). cond t 0 1) (eq-eqb (low + 0) (low + 0) refl)
differ low (suc zero) (suc zero) h k = ap (λ (t : Bool). cond t 0 1) (eq-eqb (low + 1) (low + 1) refl)
differ low zero (suc zero) h k = ap (λ (t : Bool). cond t 0 1) (ne_eqb (low + 0) (low + 1) (λ e. absurd (omega (arith, e))))
differ low (suc zero) zero h k = ap (λ (t : Bool). cond t 0 1) (ne_eqb (low + 1) (low + 0) (λ e. absurd (omega (arith, e))))
differ low (suc (suc a)) b h k = absurd (omega (arith, h))
differ low zero (suc (suc b)) h k = absurd (omega (arith, k))
differ low (suc zero) (suc (suc b)) h k = absurd (omega (arith, k))

-- the changes are the bits of a word
changes : (low n word z : ℕ) → z < 2 ^ n → ((i : ℕ) → i < n → bit_at z i ≡ (bit_at word i + bit_at word (i + 1)) % 2) → stretches (bit_numbers low word 0 (suc n)) ≡ 1 + count_ones z
unfolding bit_numbers ones
changes low zero word z h each =
    let none : z ≡ 0 = omega (arith, h) in
    rw none refl
changes low (suc n) word z h each =
    let power : 2 ^ suc n ≡ 2 * 2 ^ n = ap (λ (k : ℕ). 2 ^ k) (omega arith) ∙ pow-add 2 1 n in
    let rest = changes low n (word / 2) (z / 2) (omega (arith, h, power)) (λ i l. sym (bit_at-suc z i) ∙ (each (suc i) (omega (arith, l)) ∙ ap (λ (x : ℕ). x % 2) (both i))) in
    let one : z % 2 ≡ (bit_at word 0 + bit_at word 1) % 2 = sym (bit_at_lowest z) ∙ each 0 (omega arith) in
    let here : cond (low + bit_at word 0 == low + bit_at word 1) 0 1 ≡ z % 2 = differ low (bit_at word 0) (bit_at word 1) (bit_at-lt word 0) (bit_at-lt word 1) ∙ sym one in
    let tail : bit_numbers low word 1 (suc n) ≡ bit_numbers low (word / 2) 0 (suc n) = bits-half low word 0 (suc n) in
    let ones = ones_step z in
    omega (arith, here, ap stretches tail, rest, ones)
  where
    both : (i : ℕ) → bit_at word (suc i) + bit_at word (suc i + 1) ≡ bit_at (word / 2) i + bit_at (word / 2) (i + 1)
    both i =
        let next : suc i + 1 ≡ suc (i + 1) = omega arith in
        omega (arith, bit_at-suc word i, ap (bit_at word) next, bit_at-suc word (i + 1))

pub mixed_bits : (low word count z : ℕ) → 1 ≤ count → z ≡ bit_xor word (word / 2 ^ 1) % 2 ^ (count - 1) → stretches (bit_numbers low word 0 count) ≡ 1 + count_ones z
mixed_bits low word count z some e =
    let n : count ≡ suc (count - 1) = omega (arith, some) in
    let small : z < 2 ^ (count - 1) = subst (λ (x : ℕ). x < 2 ^ (count - 1)) (sym e) (mod_below (bit_xor word (word / 2 ^ 1)) (2 ^ (count - 1)) (pow_pos (count - 1))) in
    ap (λ (k : ℕ). stretches (bit_numbers low word 0 k)) n
    ∙ changes low (count - 1) word z small
    (λ i h. ap (λ (x : ℕ). bit_at x i) e ∙ (low-bit (bit_xor word (word / 2 ^ 1)) (count - 1) i h ∙ (bit_at_xor word (word / 2 ^ 1) i ∙ ap (λ (b : ℕ). (bit_at word i + b) % 2) (one_up i))))
  where
    one_up : (i : ℕ) → bit_at (word / 2 ^ 1) i ≡ bit_at word (i + 1)
    one_up i =
        let next : suc i ≡ i + 1 = omega arith in
        sym (bit_at-suc word i) ∙ ap (bit_at word) next

-- ---- below a bound

pub below_32 : (w : ℕ) (xs : List ℕ) → w ≤ 32 → All (λ v. v < 2 ^ w) xs → All (λ v. v < 2 ^ 32) xs
below_32 w xs fits h = λ k d lt.
    let bits : 2 ^ w ≤ 2 ^ 32 = pow-le-pow_right (omega arith) fits in
    omega (arith, h k d lt, bits)

numbers-at : (low word place count i d : ℕ) → i < count → get_or (bit_numbers low word place count) i d ≡ low + bit_at word (place + i)
unfolding bit_numbers
numbers-at low word place zero i d h = absurd (omega (arith, h))
numbers-at low word place (suc count) zero d h = ap (λ (p : ℕ). low + bit_at word p) (omega arith)
numbers-at low word place (suc count) (suc i) d h = numbers-at low word (place + 1) count i d (omega (arith, h)) ∙ ap (λ (p : ℕ). low + bit_at word p) (omega arith)

pub last-below : (low word count most : ℕ) → 1 ≤ count → All (λ v. v < most) (bit_numbers low word 0 count) → low + bit_at word (count - 1) < most
last-below low word count most some h =
    let within : count - 1 < count = omega (arith, some) in
    let e : get_or (bit_numbers low word 0 count) (count - 1) 0 ≡ low + bit_at word (count - 1) = numbers-at low word 0 count (count - 1) 0 within ∙ ap (λ (p : ℕ). low + bit_at word p) (omega arith) in
    subst (λ (v : ℕ). v < most) e (h (count - 1) 0 (omega (arith, within, length-bit_numbers low word 0 count)))

pub front-below : (low word n count w : ℕ) (front : ℕ) → n ≤ count → front ≡ word % 2 ^ n → All (λ v. v < 2 ^ w) (bit_numbers low word 0 count) → All (λ v. v < 2 ^ w) (bit_numbers low front 0 n)
front-below low word n count w front le e h =
    let is : bit_numbers low front 0 n ≡ take n (bit_numbers low word 0 count) = ap (λ (x : ℕ). bit_numbers low x 0 n) e ∙ numbers-take low word n count le in
    subst (λ (t : List ℕ). All (λ v. v < 2 ^ w) t) (sym is) (All-take (λ v. v < 2 ^ w) n (bit_numbers low word 0 count) h)

pub no_numbers : (low word count : ℕ) (xs : List ℕ) → count ≡ 0 → xs ++ bit_numbers low word 0 count ≡ xs
unfolding bit_numbers
no_numbers low word zero xs e = append-nil xs
no_numbers low word (suc count) xs e = absurd (omega (arith, e))

-- one more number in front
numbers-behind : (low word bit count next number : ℕ) → bit ≤ 1 → next ≡ bit + 2 * word → number ≡ low + bit → bit_numbers low next 0 (suc count) ≡ number ∷ bit_numbers low word 0 count
unfolding bit_numbers
numbers-behind low word bit count next number h e is =
    let first : bit_at next 0 ≡ bit = bit_at_lowest next ∙ omega (arith, h, e) in
    let half : next / 2 ≡ word = omega (arith, h, e) in
    let one : 0 + 1 ≡ 1 = omega arith in
    ap (λ (b : ℕ). (low + b) ∷ bit_numbers low next (0 + 1) count) first
    ∙ (ap (λ (n : ℕ). n ∷ bit_numbers low next (0 + 1) count) (sym is)
    ∙ ap (λ (t : List ℕ). number ∷ t) (ap (λ (p : ℕ). bit_numbers low next p count) one ∙ (bits-half low next 0 count ∙ ap (λ (w : ℕ). bit_numbers low w 0 count) half)))

pub behind_one : (low front count next number : ℕ) → 1 ≤ count → low ≤ number → number ≤ low + 1 → next ≡ number - low + 2 * front → bit_numbers low next 0 count ≡ number ∷ bit_numbers low front 0 (count - 1)
behind_one low front count next number some least near e =
    let n : count ≡ suc (count - 1) = omega (arith, some) in
    ap (λ (k : ℕ). bit_numbers low next 0 k) n ∙ numbers-behind low front (number - low) (count - 1) next number (omega (arith, near)) e (omega (arith, least))

pub behind-below : (low word count next number w : ℕ) → number < 2 ^ w → bit_numbers low next 0 count ≡ number ∷ bit_numbers low word 0 (count - 1) → All (λ v. v < 2 ^ w) (bit_numbers low word 0 (count - 1)) → All (λ v. v < 2 ^ w) (bit_numbers low next 0 count)
behind-below low word count next number w small e h = subst (λ (t : List ℕ). All (λ v. v < 2 ^ w) t) (sym e) (λ k d lt. by k d lt) where
  by : (k d : ℕ) → k < length (number ∷ bit_numbers low word 0 (count - 1)) → get_or (number ∷ bit_numbers low word 0 (count - 1)) k d < 2 ^ w
  by zero d lt = small
  by (suc k) d lt = h k d (omega (arith, lt))

-- ---- stretch by stretch

bit-shift : (word p j : ℕ) → bit_at (word / 2 ^ p) j ≡ bit_at word (p + j)
bit-shift word zero j =
    let e : word / 2 ^ 0 ≡ word = omega arith in
    let here : j ≡ 0 + j = omega arith in
    ap (λ (w : ℕ). bit_at w j) e ∙ ap (bit_at word) here
bit-shift word (suc p) j =
    let e : 1 + p ≡ suc p = omega arith in
    let next : suc (p + j) ≡ suc p + j = omega arith in
    let half : word / 2 / 2 ^ p ≡ word / 2 ^ suc p = shr-shr word 1 p ∙ ap (λ (k : ℕ). word / 2 ^ k) e in
    ap (λ (w : ℕ). bit_at w j) (sym half) ∙ (bit-shift (word / 2) p j ∙ (sym (bit_at-suc word (p + j)) ∙ ap (bit_at word) next))

pub flipped : (word other i : ℕ) → i < 64 → bit_at word 0 ≡ 1 → bit_at other i ≡ 1 - bit_at word i → bit_at other i ≡ (bit_at word i + bit_at word 0) % 2
flipped word other i h one e = omega (arith, one, e, bit_at-lt word i)

pub not_flipped : (word i : ℕ) → bit_at word 0 ≡ 0 → bit_at word i ≡ (bit_at word i + bit_at word 0) % 2
not_flipped word i z = omega (arith, z, bit_at-lt word i)

-- bits that do not differ from the first
pub alike_bits : (word others at end : ℕ) → end ≤ at + 64 → ((i : ℕ) → i < 64 → bit_at others i ≡ (bit_at (word / 2 ^ at) i + bit_at (word / 2 ^ at) 0) % 2) → ((j : ℕ) → at + j < end → bit_at others j ≡ 0) → (i : ℕ) → at ≤ i → i < end → bit_at word i ≡ bit_at word at
alike_bits word others at end few each none i l h =
    let j : ℕ = i - at in
    let e : at + j ≡ i = omega (arith, l) in
    let z : at + 0 ≡ at = omega arith in
    let here : bit_at (word / 2 ^ at) j ≡ bit_at word i = bit-shift word at j ∙ ap (bit_at word) e in
    let first : bit_at (word / 2 ^ at) 0 ≡ bit_at word at = bit-shift word at 0 ∙ ap (bit_at word) z in
    omega (arith, each j (omega (arith, few, e, h)), none j (omega (arith, e, h)), here, first, bit_at-lt word i, bit_at-lt word at)

numbers-even : (low word place n v : ℕ) → ((i : ℕ) → place ≤ i → i < place + n → low + bit_at word i ≡ v) → bit_numbers low word place n ≡ replicate n v
unfolding bit_numbers
numbers-even low word place zero v each = refl
numbers-even low word place (suc n) v each =
    ap (λ (x : ℕ). x ∷ bit_numbers low word (place + 1) n) (each place (omega arith) (omega arith)) ∙ ap (λ (t : List ℕ). v ∷ t) (numbers-even low word (place + 1) n v (λ i l h. each i (omega (arith, l)) (omega (arith, h))))

pub stretch_more : (low word at end v : ℕ) → at < end → v ≡ low + bit_at word at → ((i : ℕ) → at ≤ i → i < end → bit_at word i ≡ bit_at word at) → bit_numbers low word 0 end ≡ bit_numbers low word 0 at ++ replicate (end - at) v
stretch_more low word at end v some e alike =
    let n : end ≡ at + (end - at) = omega (arith, some) in
    let here : 0 + at ≡ at = omega arith in
    ap (λ (k : ℕ). bit_numbers low word 0 k) n
    ∙ (numbers-add low word 0 at (end - at)
    ∙ ap (λ (t : List ℕ). bit_numbers low word 0 at ++ t) (ap (λ (p : ℕ). bit_numbers low word p (end - at)) here ∙ numbers-even low word at (end - at) v (λ i l h. ap (λ (b : ℕ). low + b) (alike i l (omega (arith, h, some))) ∙ sym e)))

pub number-below : (low word count at most : ℕ) → at < count → All (λ v. v < most) (bit_numbers low word 0 count) → low + bit_at word at < most
number-below low word count at most within h =
    let e : get_or (bit_numbers low word 0 count) at 0 ≡ low + bit_at word at = numbers-at low word 0 count at 0 within ∙ ap (λ (p : ℕ). low + bit_at word p) (omega arith) in
    subst (λ (v : ℕ). v < most) e (h at 0 (omega (arith, within, length-bit_numbers low word 0 count)))

-- the lowest bit does not differ from itself
pub first_same : (word others n : ℕ) → bit_at others 0 ≡ (bit_at word 0 + bit_at word 0) % 2 → bit_at others n ≡ 1 → 0 < n
first_same word others zero e one = absurd (omega (arith, e, one, bit_at-lt word 0))
first_same word others (suc n) e one = omega arith
