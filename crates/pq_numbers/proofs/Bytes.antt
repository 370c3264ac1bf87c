-- Bytes as a number, and fields of it.
use Rattle.std.proofs.Common.{◌≡◌, ℕ, zero, suc, ◌+◌, ◌-◌, ◌*◌, ◌/◌, ◌%◌, ◌^◌, ◌<◌, ◌≤◌, List, [], ◌∷◌, ◌++◌, length, take, drop, get_or, set, refl, sym, ap, subst, ◌∙◌, arith, append-nil, inl, inr, take-add}
use Rattle.std.proofs.Math.Nat.{add-mul-mod_self_left, mul_assoc, pow-le-pow_right}
use Rattle.std.proofs.lemmas.Bool.{cases_lt}
use Rattle.std.proofs.lemmas.Nat.{pow-add, shr-shr, field_of}
use Rattle.std.proofs.lemmas.List.{take-append-drop, length-take, length-drop, take_more_set, append_assoc, get_or-drop, take_all}
use Rattle.pq_numbers.specs.Bits.{digits_of}
use Rattle.pq_numbers.specs.Texts.{number_of}
use Rattle.pq_numbers.proofs.Digits.{number_of-append}

abbrev pub AreBytes : List ℕ → Type 0
AreBytes xs = (k : ℕ) → get_or xs k 0 < 256

tail_bytes : (b : ℕ) (bs : List ℕ) → AreBytes (b ∷ bs) → AreBytes bs
tail_bytes b bs h = λ k. h (suc k)

-- without the first q bytes
pub number-drop : (q : ℕ) (xs : List ℕ) → AreBytes xs → number_of xs / 2 ^ (8 * q) ≡ number_of (drop q xs)
number-drop zero xs h = omega arith
number-drop (suc q) [] h = zero_over (2 ^ (8 * suc q))
  where
    zero_over : (d : ℕ) → 0 / d ≡ 0
    zero_over d = omega arith
number-drop (suc q) (b ∷ bs) h =
    let e : 8 * suc q ≡ 8 + 8 * q = omega arith in
    let low : b < 256 = h 0 in
    let one : (b + 256 * number_of bs) / 2 ^ 8 ≡ number_of bs = omega (arith, low) in
    ap (λ (k : ℕ). (b + 256 * number_of bs) / 2 ^ k) e ∙ sym (shr-shr (b + 256 * number_of bs) 8 (8 * q)) ∙ ap (λ (x : ℕ). x / 2 ^ (8 * q)) one ∙ number-drop q bs (tail_bytes b bs h)

-- a field does not depend on the bits above it
pub field-low : (a c s w r : ℕ) → (a + 2 ^ (w + s + r) * c) / 2 ^ s % 2 ^ w ≡ a / 2 ^ s % 2 ^ w
field-low a c s w r =
    let split : 2 ^ (w + s + r) * c ≡ 2 ^ (w + s) * (2 ^ r * c) = ap (λ (x : ℕ). x * c) (pow-add 2 (w + s) r) ∙ mul_assoc (2 ^ (w + s)) (2 ^ r) c in
    sym (field_of (a + 2 ^ (w + s + r) * c) w s)
    ∙ ap (λ (x : ℕ). (a + x) % 2 ^ (w + s) / 2 ^ s) split
    ∙ ap (λ (x : ℕ). x / 2 ^ s) (add-mul-mod_self_left a (2 ^ (w + s)) (2 ^ r * c))
    ∙ field_of a w s

-- of the first five bytes alone
pub field-of-five : (xs : List ℕ) (s w : ℕ) → s < 8 → w ≤ 32 → s + w ≤ 8 * length xs → number_of (take 5 xs) / 2 ^ s % 2 ^ w ≡ number_of xs / 2 ^ s % 2 ^ w
field-of-five xs s w hs hw enough =
    let e : w + s + (8 * length (take 5 xs) - (w + s)) ≡ 8 * length (take 5 xs) = omega (arith, length-take 5 xs) in
    let whole : number_of xs ≡ number_of (take 5 xs) + 2 ^ (8 * length (take 5 xs)) * number_of (drop 5 xs) = ap number_of (sym (take-append-drop 5 xs)) ∙ number_of-append (take 5 xs) (drop 5 xs) in
    sym (ap (λ (x : ℕ). x / 2 ^ s % 2 ^ w) (whole ∙ ap (λ (k : ℕ). number_of (take 5 xs) + 2 ^ k * number_of (drop 5 xs)) (sym e)) ∙ field-low (number_of (take 5 xs)) (number_of (drop 5 xs)) s w (8 * length (take 5 xs) - (w + s)))

-- ---- one number further

-- what is left of the bytes from a bit of the first byte on
abbrev pub from_bit : ℕ → List ℕ → ℕ
from_bit s xs = number_of xs / 2 ^ s

pub from_bit-next : (s w : ℕ) (xs : List ℕ) → AreBytes xs → from_bit s xs / 2 ^ w ≡ from_bit ((s + w) % 8) (drop ((s + w) / 8) xs)
from_bit-next s w xs h =
    let e : s + w ≡ 8 * ((s + w) / 8) + (s + w) % 8 = omega arith in
    shr-shr (number_of xs) s w
    ∙ ap (λ (k : ℕ). number_of xs / 2 ^ k) e
    ∙ sym (shr-shr (number_of xs) (8 * ((s + w) / 8)) ((s + w) % 8))
    ∙ ap (λ (x : ℕ). x / 2 ^ ((s + w) % 8)) (number-drop ((s + w) / 8) xs h)

pub digits-none : (b m : ℕ) → digits_of b 0 m ≡ []
digits-none b m = refl

pub digits-more : (b n left m : ℕ) → n ≡ left + 1 → digits_of b n m ≡ m % b ∷ digits_of b left (m / b)
digits-more b zero left m e = absurd (omega arith)
digits-more b (suc n) left m e = let h : n ≡ left = omega arith in rw h refl

pub are-drop : (n : ℕ) (xs : List ℕ) → AreBytes xs → AreBytes (drop n xs)
are-drop n xs h = λ k. subst (λ (x : ℕ). x < 256) (sym (get_or-drop n xs k 0)) (h (n + k))

pub enough_more : (w n i s : ℕ) (rest : List ℕ) → i < n → s + w * (n - i) ≤ 8 * length rest → (s + w) % 8 + w * (n - (i + 1)) ≤ 8 * length (drop ((s + w) / 8) rest)
enough_more w n i s rest lt h =
    let one : n - i ≡ suc (n - (i + 1)) = omega arith in
    let more : w * (n - i) ≡ w + w * (n - (i + 1)) = ap (λ (k : ℕ). w * k) one ∙ omega arith in
    omega (arith, more, h, length-drop ((s + w) / 8) rest)

-- one more number
pub unpack_more : (w n i s : ℕ) (out rest all : List ℕ) → i < length out → AreBytes rest → take i out ++ digits_of (2 ^ w) (length out - i) (from_bit s rest) ≡ all → take (i + 1) (set out i (number_of rest / 2 ^ s % 2 ^ w)) ++ digits_of (2 ^ w) (length out - (i + 1)) (from_bit ((s + w) % 8) (drop ((s + w) / 8) rest)) ≡ all
unpack_more w n i s out rest all lt h e =
    let v : ℕ = number_of rest / 2 ^ s % 2 ^ w in
    let more = digits-more (2 ^ w) (length out - i) (length out - (i + 1)) (from_bit s rest) (omega arith) in
    let next = from_bit-next s w rest h in
    ap (λ (t : List ℕ). t ++ digits_of (2 ^ w) (length out - (i + 1)) (from_bit ((s + w) % 8) (drop ((s + w) / 8) rest))) (take_more_set out i v lt)
    ∙ append_assoc (take i out) (v ∷ []) (digits_of (2 ^ w) (length out - (i + 1)) (from_bit ((s + w) % 8) (drop ((s + w) / 8) rest)))
    ∙ ap (λ (x : ℕ). take i out ++ (v ∷ digits_of (2 ^ w) (length out - (i + 1)) x)) (sym next)
    ∙ ap (λ (t : List ℕ). take i out ++ t) (sym more)
    ∙ e

pub unpack_all : (b i m : ℕ) (out all : List ℕ) → length out ≤ i → take i out ++ digits_of b (length out - i) m ≡ all → out ≡ all
unpack_all b i m out all le e =
    let none : length out - i ≡ 0 = omega arith in
    sym (append-nil out) ∙ ap (λ (t : List ℕ). t ++ []) (sym (take_all i out le)) ∙ ap (λ (t : List ℕ). take i out ++ t) (sym (digits-none b m)) ∙ ap (λ (k : ℕ). take i out ++ digits_of b k m) (sym none) ∙ e

-- ---- the least width

pub width-least : (max m v : ℕ) → 2 ^ m ≤ 2 * max + 1 → max < 2 ^ v → m ≤ v
width-least max m v le lt =
    elim (cases_lt v m) [
      | inl short ↦
          let p : 2 ^ (v + 1) ≤ 2 ^ m = pow-le-pow_right (omega arith) (omega arith) in
          let q : 2 ^ (v + 1) ≡ 2 ^ v * 2 ^ 1 = pow-add 2 v 1 in
          absurd (omega (arith, le, lt, p, q))
      | inr enough ↦ enough
    ]

-- ---- the first ten bytes

pub field-of-ten : (xs : List ℕ) (s w : ℕ) → s < 8 → w ≤ 64 → s + w ≤ 8 * length xs → number_of (take 10 xs) / 2 ^ s % 2 ^ w ≡ number_of xs / 2 ^ s % 2 ^ w
field-of-ten xs s w hs hw enough =
    let e : w + s + (8 * length (take 10 xs) - (w + s)) ≡ 8 * length (take 10 xs) = omega (arith, length-take 10 xs) in
    let whole : number_of xs ≡ number_of (take 10 xs) + 2 ^ (8 * length (take 10 xs)) * number_of (drop 10 xs) = ap number_of (sym (take-append-drop 10 xs)) ∙ number_of-append (take 10 xs) (drop 10 xs) in
    sym (ap (λ (x : ℕ). x / 2 ^ s % 2 ^ w) (whole ∙ ap (λ (k : ℕ). number_of (take 10 xs) + 2 ^ k * number_of (drop 10 xs)) (sym e)) ∙ field-low (number_of (take 10 xs)) (number_of (drop 10 xs)) s w (8 * length (take 10 xs) - (w + s)))

pub ten_is : (xs : List ℕ) (low behind : ℕ) → low ≡ number_of (take 5 xs) → (5 < length xs → behind ≡ number_of (take 5 (drop 5 xs))) → (length xs ≤ 5 → behind ≡ 0) → low + behind * 2 ^ 40 ≡ number_of (take 10 xs)
ten_is xs low behind is more none =
    elim (cases_lt 5 (length xs)) [
      | inl lt ↦
          let five : length (take 5 xs) ≡ 5 = omega (arith, length-take 5 xs) in
          let split : take 10 xs ≡ take 5 xs ++ take 5 (drop 5 xs) = take-add 5 5 xs in
          let value : number_of (take 10 xs) ≡ number_of (take 5 xs) + 2 ^ (8 * length (take 5 xs)) * number_of (take 5 (drop 5 xs)) = ap number_of split ∙ number_of-append (take 5 xs) (take 5 (drop 5 xs)) in
          let power : 2 ^ (8 * length (take 5 xs)) * number_of (take 5 (drop 5 xs)) ≡ 2 ^ 40 * number_of (take 5 (drop 5 xs)) = ap (λ (k : ℕ). 2 ^ (8 * k) * number_of (take 5 (drop 5 xs))) five in
          omega (arith, is, more lt, value, power)
      | inr le ↦
          let same : take 10 xs ≡ take 5 xs = take_all 10 xs (omega (arith, le)) ∙ sym (take_all 5 xs le) in
          omega (arith, is, none le, ap number_of same)
    ]
