-- Numbers of one bit on the way to their bytes.
use Rattle.std.proofs.Common.{◌≡◌, ℕ, zero, suc, ◌+◌, ◌-◌, ◌*◌, ◌/◌, ◌%◌, ◌^◌, ◌<◌, ◌≤◌, List, [], ◌∷◌, ◌++◌, length, take, drop, replicate, append_assoc, refl, sym, ap, subst, ◌∙◌, arith}
use Rattle.std.proofs.Math.Nat.{add-mul-mod_self_left, add-mul-div_left, div-add-mod, pow-le-pow_right}
use Rattle.std.proofs.lemmas.Nat.{pow-add, pow_pos, shr_below, mod_below}
use Rattle.std.proofs.lemmas.List.{length-append, length-take, take-append-drop}
use Rattle.std.specs.Int.{w64, to_le_bytes, bit_at}
use Rattle.std.proofs.lemmas.Nat.Bits.{bit_at_lowest}
use Rattle.pq_numbers.specs.Bits.{digits_of, unpacked}
use Rattle.pq_numbers.specs.Texts.{number_of}
use Rattle.pq_numbers.proofs.Digits.{length-digits, digits-high, number_of-append}
use Rattle.pq_runs.specs.Held.{held_number, held_bits, IsHeld}
use Rattle.pq_runs.specs.Packing.{ArePacked}
use Rattle.pq_runs.specs.Words.{word_of, bit_numbers}
use Rattle.pq_runs.proofs.BitNumbers.{bits-half}
use Rattle.pq_runs.proofs.Packs.{held_below}
use Rattle.pq_runs.proofs.Groups.{below_word, front_less}

-- ---- digits one behind another

half : (v p x : ℕ) → (v + 2 * (p * x)) / 2 ≡ v / 2 + p * x
half v p x = add-mul-div_left v (p * x) (omega arith)

low : (v p x : ℕ) → (v + 2 * (p * x)) % 2 ≡ v % 2
low v p x = add-mul-mod_self_left v 2 (p * x)

pub digits-append : (m n v x : ℕ) → v < 2 ^ m → digits_of (2 ^ 1) (m + n) (v + 2 ^ m * x) ≡ digits_of (2 ^ 1) m v ++ digits_of (2 ^ 1) n x
digits-append zero n v x h =
    let a : 0 + n ≡ n = omega arith in
    let b : v + 2 ^ 0 * x ≡ x = omega (arith, h) in
    rw (a, b) refl
digits-append (suc m) n v x h =
    let a : suc m + n ≡ suc (m + n) = omega arith in
    let power : 2 ^ suc m ≡ 2 * 2 ^ m = ap (λ (k : ℕ). 2 ^ k) (omega arith) ∙ pow-add 2 1 m in
    let all : v + 2 ^ suc m * x ≡ v + 2 * (2 ^ m * x) = ap (λ (p : ℕ). v + p * x) power ∙ twice (2 ^ m) in
    let less : v / 2 < 2 ^ m = omega (arith, h, power) in
    ap (λ (k : ℕ). digits_of (2 ^ 1) k (v + 2 ^ suc m * x)) a
    ∙ (ap (λ (y : ℕ). y % 2 ∷ digits_of (2 ^ 1) (m + n) (y / 2)) all
    ∙ (ap (λ (y : ℕ). y ∷ digits_of (2 ^ 1) (m + n) ((v + 2 * (2 ^ m * x)) / 2)) (low v (2 ^ m) x)
    ∙ (ap (λ (y : ℕ). v % 2 ∷ digits_of (2 ^ 1) (m + n) y) (half v (2 ^ m) x)
    ∙ ap (λ (ys : List ℕ). v % 2 ∷ ys) (digits-append m n (v / 2) x less))))
  where
    twice : (p : ℕ) → v + 2 * p * x ≡ v + 2 * (p * x)
    twice p = omega arith

-- ---- a word more

-- the lowest bytes of a word
low_bytes : (w n : ℕ) → w ≤ 4 → n < 2 ^ 64 → number_of (take w (to_le_bytes w64 n)) ≡ n % 2 ^ (8 * w)
low_bytes zero n h lt = omega (arith, lt)
low_bytes (suc zero) n h lt = omega (arith, lt)
low_bytes (suc (suc zero)) n h lt = omega (arith, lt)
low_bytes (suc (suc (suc zero))) n h lt = omega (arith, lt)
low_bytes (suc (suc (suc (suc zero)))) n h lt = omega (arith, lt)
low_bytes (suc (suc (suc (suc (suc w))))) n h lt = absurd (omega (arith, h))

pub held-small : (bytes : List ℕ) (at held more : ℕ) → IsHeld bytes at held more → held_number bytes at held < 2 ^ (8 * at + more)
held-small bytes at held more h =
    let e : more + 8 * at ≡ 8 * at + more = omega arith in
    subst (λ (k : ℕ). held_number bytes at held < 2 ^ k) e (below_word (8 * at) more held (number_of (take at bytes)) h.small h.fits)

values : (p q pq b pb a n r held left word sum : ℕ) → pq ≡ p * q → pb ≡ p * b → n ≡ a + p * r → r + q * left ≡ sum → sum ≡ held + word * b → n + pq * left ≡ a + p * held + pb * word
values p q pq b pb a n r held left word sum e1 e2 e3 e4 e5 =
    let one : p * (r + q * left) ≡ p * (held + word * b) = ap (λ (y : ℕ). p * y) (e4 ∙ e5) in
    rw (e1, e2, e3) (omega (arith, one))

-- what a word adds to what is held: the bytes that are whole then, and what is left
module _ (bytes new eight : List ℕ) (at held more word count sum : ℕ) (h : IsHeld bytes at held more) (few : count ≤ 32) (below : word < 2 ^ count) (room : 8 * at + more + count ≤ 504) (is : sum ≡ held + word * 2 ^ more) (text : eight ≡ to_le_bytes w64 sum) (size : length bytes ≡ 72) (put : take (at + 8) new ≡ take at bytes ++ eight) where
  abbrev whole : ℕ
  whole = (more + count) / 8

  abbrev left : ℕ
  left = sum / 2 ^ (whole * 8)

  sum_small : sum < 2 ^ (more + count)
  sum_small = subst (λ (s : ℕ). s < 2 ^ (more + count)) (sym is) (held_below count more held word h.small below)

  four : whole ≤ 4
  four = omega (arith, h.few, few)

  sum_64 : sum < 2 ^ 64
  sum_64 =
      let most : more + count ≤ 64 = omega (arith, h.few, few) in
      let p : 2 ^ (more + count) ≤ 2 ^ 64 = pow-le-pow_right (omega arith) most in
      omega (arith, sum_small, p)

  front : take (at + whole) new ≡ take at bytes ++ take whole eight
  front = front_less at whole 8 bytes new eight (omega (arith, size, h.room)) (omega (arith, four)) put

  number : number_of (take (at + whole) new) ≡ number_of (take at bytes) + 2 ^ (8 * at) * (sum % 2 ^ (8 * whole))
  number =
      let n : length (take at bytes) ≡ at = omega (arith, length-take at bytes, size, h.room) in
      let bits : number_of (take whole eight) ≡ sum % 2 ^ (8 * whole) = ap (λ (t : List ℕ). number_of (take whole t)) text ∙ low_bytes whole sum four sum_64 in
      ap number_of front ∙ (number_of-append (take at bytes) (take whole eight) ∙ (ap (λ (k : ℕ). number_of (take at bytes) + 2 ^ (8 * k) * number_of (take whole eight)) n ∙ ap (λ (x : ℕ). number_of (take at bytes) + 2 ^ (8 * at) * x) bits))

  turned : 8 * whole ≡ whole * 8
  turned = omega arith

  split : sum % 2 ^ (8 * whole) + 2 ^ (8 * whole) * left ≡ sum
  split =
      let d = div-add-mod sum (2 ^ (8 * whole)) in
      ap (λ (k : ℕ). sum % 2 ^ (8 * whole) + 2 ^ (8 * whole) * (sum / 2 ^ k)) (sym turned) ∙ omega (arith, d)

  value : held_number new (at + whole) left ≡ held_number bytes at held + 2 ^ (8 * at + more) * word
  value =
      let e : 8 * (at + whole) ≡ 8 * at + 8 * whole = omega arith in
      let power : 2 ^ (8 * (at + whole)) ≡ 2 ^ (8 * at) * 2 ^ (8 * whole) = ap (λ (k : ℕ). 2 ^ k) e ∙ pow-add 2 (8 * at) (8 * whole) in
      values (2 ^ (8 * at)) (2 ^ (8 * whole)) (2 ^ (8 * (at + whole))) (2 ^ more) (2 ^ (8 * at + more)) (number_of (take at bytes)) (number_of (take (at + whole) new)) (sum % 2 ^ (8 * whole)) held left word sum power (pow-add 2 (8 * at) more) number split is

  counted : 8 * (at + whole) + (more + count) % 8 ≡ 8 * at + more + count
  counted = omega arith

  pub more_held : IsHeld new (at + whole) left ((more + count) % 8)
  more_held =
      let bits : more + count ≡ (more + count) % 8 + whole * 8 = omega arith in
      let e : 8 * whole + 8 * at ≡ 8 * (at + whole) = omega arith in
      record {
        few = omega arith;
        small = shr_below sum ((more + count) % 8) (whole * 8) (subst (λ (k : ℕ). sum < 2 ^ k) bits sum_small);
        room = omega (arith, counted, room);
        fits = subst (λ (n : ℕ). n < 2 ^ (8 * (at + whole))) (sym number) (subst (λ (k : ℕ). number_of (take at bytes) + 2 ^ (8 * at) * (sum % 2 ^ (8 * whole)) < 2 ^ k) e (below_word (8 * at) (8 * whole) (sum % 2 ^ (8 * whole)) (number_of (take at bytes)) (mod_below sum (2 ^ (8 * whole)) (pow_pos (8 * whole))) h.fits));
      }

  pub more_bits : held_bits new (at + whole) left ((more + count) % 8) ≡ held_bits bytes at held more ++ digits_of (2 ^ 1) count word
  more_bits =
      ap (λ (k : ℕ). digits_of (2 ^ 1) k (held_number new (at + whole) left)) counted
      ∙ (ap (λ (x : ℕ). digits_of (2 ^ 1) (8 * at + more + count) x) value
      ∙ digits-append (8 * at + more) count (held_number bytes at held) word (held-small bytes at held more h))

-- ---- whole bytes

word-digits : (n m : ℕ) → m < 2 ^ n → word_of 1 (digits_of (2 ^ 1) n m) ≡ m
word-digits zero m h = omega (arith, h)
word-digits (suc n) m h =
    let power : 2 ^ suc n ≡ 2 * 2 ^ n = ap (λ (k : ℕ). 2 ^ k) (omega arith) ∙ pow-add 2 1 n in
    let rest = word-digits n (m / 2) (omega (arith, h, power)) in
    ap (λ (x : ℕ). m % 2 + 2 * x) rest ∙ omega arith

pub packed_bits : (bytes : List ℕ) (at held more : ℕ) → length bytes ≡ 72 → IsHeld bytes at held more → length (held_bits bytes at held more) % 8 ≡ 0 → ArePacked 1 (held_bits bytes at held more) (take at bytes)
packed_bits bytes at held more size h whole =
    let n : length (held_bits bytes at held more) ≡ 8 * at + more = length-digits (2 ^ 1) (8 * at + more) (held_number bytes at held) in
    let none : more ≡ 0 = omega (arith, n, whole, h.few) in
    let zero_held : held ≡ 0 = omega (arith, subst (λ (k : ℕ). held < 2 ^ k) none h.small) in
    let is : held_number bytes at held ≡ number_of (take at bytes) = ap (λ (x : ℕ). number_of (take at bytes) + 2 ^ (8 * at) * x) zero_held ∙ omega arith in
    record {
      size = omega (arith, length-take at bytes, size, h.room, n, none);
      unpacks = ap (λ (k : ℕ). digits_of (2 ^ 1) k (number_of (take at bytes))) n ∙ ap (λ (x : ℕ). digits_of (2 ^ 1) (8 * at + more) x) (sym is);
      value = sym is ∙ sym (word-digits (8 * at + more) (held_number bytes at held) (held-small bytes at held more h));
    }

-- ---- the numbers again

pub unpacked_bits : (bytes new : List ℕ) (at held more n : ℕ) → length bytes ≡ 72 → IsHeld bytes at held more → n ≡ length (held_bits bytes at held more) → take (at + 1) new ≡ take at bytes ++ held ∷ [] → unpacked 1 n new ≡ held_bits bytes at held more
unpacked_bits bytes new at held more n size h e front =
    let count : n ≡ 8 * at + more = e ∙ length-digits (2 ^ 1) (8 * at + more) (held_number bytes at held) in
    let at_size : length (take at bytes) ≡ at = omega (arith, length-take at bytes, size, h.room) in
    let rest = drop (at + 1) new in
    let first : number_of (take (at + 1) new) ≡ held_number bytes at held = ap number_of front ∙ (number_of-append (take at bytes) (held ∷ []) ∙ ap (λ (k : ℕ). number_of (take at bytes) + 2 ^ (8 * k) * number_of (held ∷ [])) at_size ∙ ap (λ (x : ℕ). number_of (take at bytes) + 2 ^ (8 * at) * x) (omega arith)) in
    let long : length (take (at + 1) new) ≡ at + 1 = ap length front ∙ (length-append (take at bytes) (held ∷ []) ∙ omega (arith, at_size)) in
    let bits : 8 * (at + 1) ≡ 1 * (8 * at + more) + (8 - more) = omega (arith, h.few) in
    let all : number_of new ≡ held_number bytes at held + 2 ^ (1 * (8 * at + more) + (8 - more)) * number_of rest =
    ap number_of (sym (take-append-drop (at + 1) new)) ∙ (number_of-append (take (at + 1) new) rest ∙ (ap (λ (k : ℕ). number_of (take (at + 1) new) + 2 ^ (8 * k) * number_of rest) long ∙ (ap (λ (k : ℕ). number_of (take (at + 1) new) + 2 ^ k * number_of rest) bits ∙ ap (λ (x : ℕ). x + 2 ^ (1 * (8 * at + more) + (8 - more)) * number_of rest) first))) in
    ap (λ (k : ℕ). digits_of (2 ^ 1) k (number_of new)) count
    ∙ (ap (λ (x : ℕ). digits_of (2 ^ 1) (8 * at + more) x) all ∙ digits-high 1 (8 * at + more) (held_number bytes at held) (8 - more) (number_of rest))

-- ---- bits of a word

pub bits-digits : (word count : ℕ) → digits_of (2 ^ 1) count word ≡ bit_numbers 0 word 0 count
unfolding bit_numbers
bits-digits word zero = refl
bits-digits word (suc count) =
    let one : 0 + 1 ≡ 1 = omega arith in
    let first : word % 2 ≡ 0 + bit_at word 0 = omega (arith, bit_at_lowest word) in
    ap (λ (x : ℕ). x ∷ digits_of (2 ^ 1) count (word / 2)) first
    ∙ ap (λ (ys : List ℕ). (0 + bit_at word 0) ∷ ys) (bits-digits (word / 2) count ∙ (sym (bits-half 0 word 0 count) ∙ ap (λ (p : ℕ). bit_numbers 0 word p count) (sym one)))

-- a word of more than 32 bits, half by half
pub two_halves : (old mid new : List ℕ) (word count : ℕ) → 32 < count → mid ≡ old ++ digits_of (2 ^ 1) 32 (word % 2 ^ 32) → new ≡ mid ++ digits_of (2 ^ 1) (count - 32) (word / 2 ^ 32) → new ≡ old ++ bit_numbers 0 word 0 count
two_halves old mid new word count some e1 e2 =
    let front = digits_of (2 ^ 1) 32 (word % 2 ^ 32) in
    let back = digits_of (2 ^ 1) (count - 32) (word / 2 ^ 32) in
    let n : 32 + (count - 32) ≡ count = omega (arith, some) in
    let split : word % 2 ^ 32 + 2 ^ 32 * (word / 2 ^ 32) ≡ word = omega arith in
    let both : front ++ back ≡ bit_numbers 0 word 0 count =
    sym (digits-append 32 (count - 32) (word % 2 ^ 32) (word / 2 ^ 32) (omega arith)) ∙ (ap (λ (x : ℕ). digits_of (2 ^ 1) (32 + (count - 32)) x) split ∙ (ap (λ (k : ℕ). digits_of (2 ^ 1) k word) n ∙ bits-digits word count)) in
    e2 ∙ (ap (λ (t : List ℕ). t ++ back) e1 ∙ (append_assoc old front back ∙ ap (λ (t : List ℕ). old ++ t) both))

pub high_half : (word count : ℕ) → 32 < count → word < 2 ^ count → word / 2 ^ 32 < 2 ^ (count - 32)
high_half word count some h =
    let n : count ≡ count - 32 + 32 = omega (arith, some) in
    shr_below word (count - 32) 32 (subst (λ (k : ℕ). word < 2 ^ k) n h)

-- ---- copies of a bit

pub no_bits : (count : ℕ) → digits_of (2 ^ 1) count 0 ≡ replicate count 0
no_bits zero = refl
no_bits (suc count) = ap (λ (ys : List ℕ). 0 ∷ ys) (no_bits count)

pub all_bits : (count : ℕ) → count ≤ 8 → digits_of (2 ^ 1) count (1 * 2 ^ count % 2 ^ 64 - 1) ≡ replicate count 1
all_bits zero h = refl
all_bits (suc zero) h = refl
all_bits (suc (suc zero)) h = refl
all_bits (suc (suc (suc zero))) h = refl
all_bits (suc (suc (suc (suc zero)))) h = refl
all_bits (suc (suc (suc (suc (suc zero))))) h = refl
all_bits (suc (suc (suc (suc (suc (suc zero)))))) h = refl
all_bits (suc (suc (suc (suc (suc (suc (suc zero))))))) h = refl
all_bits (suc (suc (suc (suc (suc (suc (suc (suc zero)))))))) h = refl
all_bits (suc (suc (suc (suc (suc (suc (suc (suc (suc count))))))))) h = absurd (omega (arith, h))
