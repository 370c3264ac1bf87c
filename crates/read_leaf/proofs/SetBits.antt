-- Bits that are set in a word, and slots among nulls.
use Rattle.std.proofs.Common.{◌≡◌, ℕ, zero, suc, ◌+◌, ◌-◌, ◌*◌, ◌/◌, ◌%◌, ◌^◌, ◌<◌, ◌≤◌, ◌==◌, Bool, true, false, cond, List, [], ◌∷◌, ◌++◌, map, length, replicate, refl, arith, ap, sym, ◌∙◌, append_assoc}
use Rattle.std.proofs.Common.{count_ones}
use Rattle.std.proofs.Math.Arith.{mod-mul}
use Rattle.std.specs.Int.{bit_at}
use Rattle.std.proofs.lemmas.Nat.Bits.{bit_at_lowest, bit_at-suc}
use Rattle.std.proofs.lemmas.Nat.{ones_le_self, pow_pos}
use lib.Count.{ones_step}
use Rattle.columns_core.specs.Bits.{word_bits}
use Rattle.shredding.specs.Slot.{Value, Slot, null, value}
use Rattle.read_walk.specs.Values.{Stored, Decodes, DecodesMixed, ones, spread, byte_size, bytes_in, bytes_of}

pub length-bits : (word n : ℕ) → length (word_bits word n) ≡ n
length-bits word zero = refl
length-bits word (suc n) = ap suc (length-bits (word / 2) n)

pub same-low : (n word : ℕ) → word_bits (word % 2 ^ n) n ≡ word_bits word n
same-low zero word = refl
same-low (suc n) word =
    let p : 2 ^ suc n ≡ 2 ^ n * 2 = omega arith in
    let e : word % 2 ^ suc n ≡ (word / 2 % 2 ^ n) * 2 + word % 2 = ap (λ (k : ℕ). word % k) p ∙ mod-mul word (pow_pos n) (omega arith) in
    let low : word % 2 ^ suc n % 2 ≡ word % 2 = omega (arith, e) in
    let high : word % 2 ^ suc n / 2 ≡ word / 2 % 2 ^ n = omega (arith, e) in
    rw (low, high) (ap (λ (bs : List Bool). (word % 2 == 1) ∷ bs) (same-low n (word / 2)))

bit-of : (r : ℕ) → r < 2 → ◌≡◌ {A = ℕ} (cond (r == 1) 1 0) r
bit-of zero h = refl
bit-of (suc zero) h = refl
bit-of (suc (suc r)) h = absurd (omega (arith, h))

pub ones-bits : (n word : ℕ) → word < 2 ^ n → count_ones word ≡ ones (word_bits word n)
ones-bits zero word h = omega (arith, ones_le_self word, h)
ones-bits (suc n) word h =
    let rest : count_ones (word / 2) ≡ ones (word_bits (word / 2) n) = ones-bits n (word / 2) (omega (arith, h)) in
    omega (arith, ones_step word, rest, bit-of (word % 2) (omega arith))

-- ---- all bits or none

pub most-ones : (bs : List Bool) → ones bs ≤ length bs
most-ones [] = omega arith
most-ones (true ∷ bs) = omega (arith, most-ones bs)
most-ones (false ∷ bs) = omega (arith, most-ones bs)

all-set : (bs : List Bool) → ones bs ≡ length bs → bs ≡ replicate (length bs) true
all-set [] e = refl
all-set (true ∷ bs) e = ap (λ (t : List Bool). true ∷ t) (all-set bs (omega (arith, e)))
all-set (false ∷ bs) e = absurd (omega (arith, e, most-ones bs))

none-set : (bs : List Bool) → ones bs ≡ 0 → bs ≡ replicate (length bs) false
none-set [] e = refl
none-set (true ∷ bs) e = absurd (omega (arith, e))
none-set (false ∷ bs) e = ap (λ (t : List Bool). false ∷ t) (none-set bs (omega (arith, e)))

pub spread-all : (vs : List Value) → spread (replicate (length vs) true) vs ≡ map value vs
spread-all [] = refl
spread-all (v ∷ vs) = ap (λ (t : List Slot). value v ∷ t) (spread-all vs)

spread-none : (n : ℕ) → spread (replicate n false) [] ≡ replicate n null
spread-none zero = refl
spread-none (suc n) = ap (λ (t : List Slot). null ∷ t) (spread-none n)

pub mixed-all : (word n : ℕ) (left left' : List Stored) (slots slots' : List Slot) → n ≡ ones (word_bits word n) → Decodes n left left' slots slots' → DecodesMixed (word_bits word n) left left' slots slots'
mixed-all word n left left' slots slots' e d =
    let bits : word_bits word n ≡ replicate (length d.values) true = all-set (word_bits word n) (sym e ∙ sym (length-bits word n)) ∙ ap (λ (k : ℕ). replicate k true) (length-bits word n ∙ sym d.size) in
    let same : spread (word_bits word n) d.values ≡ map value d.values = ap (λ (bs : List Bool). spread bs d.values) bits ∙ spread-all d.values in
    record { values = d.values; size = d.size ∙ e; taken = d.taken; pushed = d.pushed ∙ ap (λ (t : List Slot). slots ++ t) (sym same) }

pub mixed-none : (word n : ℕ) (left : List Stored) (slots slots' : List Slot) → 0 ≡ ones (word_bits word n) → slots' ≡ slots ++ replicate n null → DecodesMixed (word_bits word n) left left slots slots'
mixed-none word n left slots slots' e p =
    let bits : word_bits word n ≡ replicate n false = none-set (word_bits word n) (sym e) ∙ ap (λ (k : ℕ). replicate k false) (length-bits word n) in
    let same : spread (word_bits word n) [] ≡ replicate n null = ap (λ (bs : List Bool). spread bs []) bits ∙ spread-none n in
    record { values = []; size = e; taken = refl; pushed = p ∙ ap (λ (t : List Slot). slots ++ t) (sym same) }

-- ---- one bit after another

pub ones-append : (bs cs : List Bool) → ones (bs ++ cs) ≡ ones bs + ones cs
ones-append [] cs = omega arith
ones-append (b ∷ bs) cs = omega (arith, ones-append bs cs)

pub spread-append : (bs cs : List Bool) (vs ws : List Value) → length vs ≡ ones bs → spread (bs ++ cs) (vs ++ ws) ≡ spread bs vs ++ spread cs ws
spread-append [] cs [] ws e = refl
spread-append [] cs (v ∷ vs) ws e = absurd (omega (arith, e))
spread-append (false ∷ bs) cs vs ws e = ap (λ (t : List Slot). null ∷ t) (spread-append bs cs vs ws (omega (arith, e)))
spread-append (true ∷ bs) cs [] ws e = absurd (omega (arith, e))
spread-append (true ∷ bs) cs (v ∷ vs) ws e = ap (λ (t : List Slot). value v ∷ t) (spread-append bs cs vs ws (omega (arith, e)))

pub spread-bytes : (bs : List Bool) (vs : List Value) → length vs ≡ ones bs → bytes_in (spread bs vs) ≡ bytes_of vs
spread-bytes [] [] e = refl
spread-bytes [] (v ∷ vs) e = absurd (omega (arith, e))
spread-bytes (false ∷ bs) vs e = omega (arith, spread-bytes bs vs (omega (arith, e)))
spread-bytes (true ∷ bs) [] e = absurd (omega (arith, e))
spread-bytes (true ∷ bs) (v ∷ vs) e = ap (λ (n : ℕ). byte_size v + n) (spread-bytes bs vs (omega (arith, e)))

-- ---- bits one after another

pub next-bit : (valid n i word : ℕ) (done : List Bool) → i < n → done ++ word_bits word (n - i) ≡ word_bits valid n → (done ++ (word % 2 == 1) ∷ []) ++ word_bits (word / 2) (n - (i + 1)) ≡ word_bits valid n
next-bit valid n i word done l e =
    let step : n - i ≡ suc (n - (i + 1)) = omega (arith, l) in
    append_assoc done ((word % 2 == 1) ∷ []) (word_bits (word / 2) (n - (i + 1))) ∙ (ap (λ (k : ℕ). done ++ word_bits word k) (sym step) ∙ e)

-- the next bit of a word
next_of : (n word : ℕ) → word_bits word (n + 1) ≡ word_bits word n ++ (bit_at word n == 1) ∷ []
next_of zero word = ap (λ (b : ℕ). (b == 1) ∷ []) (sym (bit_at_lowest word))
next_of (suc n) word =
    let n' : suc n + 1 ≡ suc (n + 1) = omega arith in
    rw n' (ap (λ (bs : List Bool). (word % 2 == 1) ∷ bs) (next_of n (word / 2) ∙ ap (λ (b : ℕ). word_bits (word / 2) n ++ (b == 1) ∷ []) (sym (bit_at-suc word n))))

pub set_more : (n word : ℕ) (b : Bool) → (bit_at word n == 1) ≡ b → word_bits word (n + 1) ≡ word_bits word n ++ b ∷ []
set_more n word b e = next_of n word ∙ ap (λ (c : Bool). word_bits word n ++ c ∷ []) e

pub ones_front : (i n word : ℕ) → i ≤ n → ones (word_bits word i) ≤ ones (word_bits word n)
ones_front zero n word h = omega arith
ones_front (suc i) zero word h = absurd (omega (arith, h))
ones_front (suc i) (suc n) word h = omega (arith, ones_front i n (word / 2) (omega (arith, h)))
