-- Packing numbers, one after another.
use Rattle.std.proofs.Common.{◌≡◌, ℕ, zero, suc, ◌+◌, ◌-◌, ◌*◌, ◌/◌, ◌%◌, ◌^◌, ◌<◌, ◌≤◌, List, [], ◌∷◌, ◌++◌, length, take, get_or, refl, sym, ap, subst, ◌∙◌, arith, append-nil, append_assoc, All, Bool, true, false, map}
use Rattle.std.proofs.Math.Nat.{add-mul-mod_self_left, add-mul-div_left, mod-eq_of_lt, div-eq_of_lt, pow-le-pow_right}
use Rattle.std.proofs.lemmas.Nat.{pow-add, pow_pos, mul-le, shl_whole}
use Rattle.std.proofs.lemmas.List.{length-append, map-append, take_at}
use Rattle.std.specs.Int.{w32, w64, to_le_bytes}
use Rattle.pq_runs.specs.Listed.{bit}
use Rattle.pq_numbers.specs.Bits.{digits_of}
use Rattle.pq_numbers.specs.Texts.{number_of}
use Rattle.pq_runs.specs.Packing.{HoldsIn, ArePacked}
use Rattle.pq_runs.specs.Words.{word_of}
use Rattle.pq_runs.specs.Writing.{Extends}
use Rattle.pq_numbers.proofs.Digits.{number_of-append}
use Rattle.pq_numbers.proofs.LittleEndianBytes.{four_bytes, eight_bytes}

number_of-one : (b : ℕ) → number_of (b ∷ []) ≡ b
number_of-one b = omega arith

number_of-none : number_of [] ≡ 0
number_of-none = refl

-- ---- whole bytes

-- what has been written since the start, and what is left of the bits
pub record Shifts (start out : List ℕ) (bits held more left : ℕ) : Type 0 where
  pub text : List ℕ
  pub parts : out ≡ start ++ text
  pub size : 8 * length text + more ≡ bits
  pub value : number_of text + 2 ^ (8 * length text) * left ≡ held
  pub small : left < 2 ^ more

pub shifts_begin : (start : List ℕ) (bits held : ℕ) → held < 2 ^ bits → Shifts start start bits held bits held
shifts_begin start bits held h = record {
  text = [];
  parts = sym (append-nil start);
  size = omega arith;
  value = omega (arith, number_of-none);
  small = h;
}

pub shifts_more : (start out : List ℕ) (bits held more left : ℕ) → 8 ≤ more → Shifts start out bits held more left → Shifts start (out ++ left % 256 ∷ []) bits held (more - 8) (left / 256)
shifts_more start out bits held more left h s =
    let e : more ≡ (more - 8) + 8 = omega arith in
    let power : 2 ^ more ≡ 2 ^ (more - 8) * 256 = ap (λ (k : ℕ). 2 ^ k) e ∙ pow-add 2 (more - 8) 8 in
    let longer : length (s.text ++ left % 256 ∷ []) ≡ length s.text + 1 = length-append s.text (left % 256 ∷ []) in
    let n : 8 * length (s.text ++ left % 256 ∷ []) ≡ 8 * length s.text + 8 = omega (arith, longer) in
    let next : 2 ^ (8 * length (s.text ++ left % 256 ∷ [])) ≡ 2 ^ (8 * length s.text) * 256 = ap (λ (k : ℕ). 2 ^ k) n ∙ pow-add 2 (8 * length s.text) 8 in
    let both : number_of (s.text ++ left % 256 ∷ []) ≡ number_of s.text + 2 ^ (8 * length s.text) * (left % 256) = number_of-append s.text (left % 256 ∷ []) ∙ ap (λ (x : ℕ). number_of s.text + 2 ^ (8 * length s.text) * x) (number_of-one (left % 256)) in
    let split : left ≡ left % 256 + 256 * (left / 256) = omega arith in
    let spread : 2 ^ (8 * length s.text) * left ≡ 2 ^ (8 * length s.text) * (left % 256) + 2 ^ (8 * length s.text) * 256 * (left / 256) = spread_of (2 ^ (8 * length s.text)) (left % 256) (left / 256) left split in
    record {
      text = s.text ++ left % 256 ∷ [];
      parts = ap (λ (t : List ℕ). t ++ left % 256 ∷ []) s.parts ∙ append_assoc start s.text (left % 256 ∷ []);
      size = omega (arith, s.size, n);
      value = ap (λ (x : ℕ). x + 2 ^ (8 * length (s.text ++ left % 256 ∷ [])) * (left / 256)) both ∙ ap (λ (x : ℕ). number_of s.text + 2 ^ (8 * length s.text) * (left % 256) + x * (left / 256)) next ∙ omega (arith, s.value, spread);
      small = omega (arith, s.small, power);
    }
  where
    spread_of : (p low high all : ℕ) → all ≡ low + 256 * high → p * all ≡ p * low + p * 256 * high
    spread_of p low high all e = ap (λ (x : ℕ). p * x) e ∙ omega arith

pub shifts_end : (start out : List ℕ) (bits held more left : ℕ) → more < 8 → Shifts start out bits held more left → (text : List ℕ) × (out ≡ start ++ text) × HoldsIn bits held text (bits % 8) left
shifts_end start out bits held more left h s =
    let e : more ≡ bits % 8 = omega (arith, s.size) in
    (s.text, s.parts, record { size = omega (arith, s.size, e); value = s.value; small = subst (λ (k : ℕ). left < 2 ^ k) e s.small })

-- ---- numbers

pub word_of-append : (w : ℕ) (xs ys : List ℕ) → word_of w (xs ++ ys) ≡ word_of w xs + 2 ^ (w * length xs) * word_of w ys
word_of-append w [] ys =
    let z : w * length {A = ℕ} [] ≡ 0 = omega arith in
    let p : 2 ^ (w * length {A = ℕ} []) ≡ 1 = ap (λ (k : ℕ). 2 ^ k) z in
    omega (arith, ap (λ (q : ℕ). q * word_of w ys) p)
word_of-append w (x ∷ xs) ys =
    let e : w * suc (length xs) ≡ w + w * length xs = omega arith in
    let p : 2 ^ (w * suc (length xs)) ≡ 2 ^ w * 2 ^ (w * length xs) = ap (λ (k : ℕ). 2 ^ k) e ∙ pow-add 2 w (w * length xs) in
    ap (λ (y : ℕ). x + 2 ^ w * y) (word_of-append w xs ys) ∙ spread (2 ^ w) (word_of w xs) (2 ^ (w * length xs)) ∙ ap (λ (q : ℕ). x + 2 ^ w * word_of w xs + q * word_of w ys) (sym p)
  where
    spread : (a b c : ℕ) → x + a * (b + c * word_of w ys) ≡ x + a * b + a * c * word_of w ys
    spread a b c = omega arith

word_of-push : (w : ℕ) (xs : List ℕ) (v : ℕ) → word_of w (xs ++ v ∷ []) ≡ word_of w xs + 2 ^ (w * length xs) * v
word_of-push w xs v =
    let one : v + 2 ^ w * 0 ≡ v = omega arith in
    word_of-append w xs (v ∷ []) ∙ ap (λ (y : ℕ). word_of w xs + 2 ^ (w * length xs) * y) one

pub digits-word_of : (w : ℕ) (xs : List ℕ) → All (λ v. v < 2 ^ w) xs → digits_of (2 ^ w) (length xs) (word_of w xs) ≡ xs
digits-word_of w [] h = refl
digits-word_of w (x ∷ xs) h =
    let first : x < 2 ^ w = h 0 0 (omega arith) in
    let others : All (λ v. v < 2 ^ w) xs = λ k d lt. h (suc k) d (omega (arith, lt)) in
    let low : (x + 2 ^ w * word_of w xs) % 2 ^ w ≡ x = add-mul-mod_self_left x (2 ^ w) (word_of w xs) ∙ mod-eq_of_lt first in
    let high : (x + 2 ^ w * word_of w xs) / 2 ^ w ≡ word_of w xs = add-mul-div_left x (word_of w xs) (pow_pos w) ∙ ap (λ (y : ℕ). y + word_of w xs) (div-eq_of_lt first) ∙ omega arith in
    rw (low, high) (ap (λ (t : List ℕ). x ∷ t) (digits-word_of w xs others))

-- the numbers so far: what has been written since the start, and what is held of the next byte
pub record Packs (w : ℕ) (start out xs : List ℕ) (bits held : ℕ) : Type 0 where
  pub text : List ℕ
  pub parts : out ≡ start ++ text
  pub size : 8 * length text + bits ≡ w * length xs
  pub value : number_of text + 2 ^ (8 * length text) * held ≡ word_of w xs
  pub small : held < 2 ^ bits

pub packs_begin : (w : ℕ) (start : List ℕ) → Packs w start start [] 0 0
packs_begin w start = record {
  text = [];
  parts = sym (append-nil start);
  size = omega arith;
  value = omega (arith, number_of-none);
  small = omega arith;
}

-- with the bits of one more number
pub held_below : (w bits held v : ℕ) → held < 2 ^ bits → v < 2 ^ w → held + v * 2 ^ bits < 2 ^ (bits + w)
held_below w bits held v h below =
    let p : 2 ^ (bits + w) ≡ 2 ^ bits * 2 ^ w = pow-add 2 bits w in
    let m : suc v * 2 ^ bits ≤ 2 ^ w * 2 ^ bits = mul-le (suc v) (2 ^ bits) (2 ^ w) (2 ^ bits) below (omega arith) in
    omega (arith, p, m, h)

pub packs_more : (w : ℕ) (start out out' xs : List ℕ) (bits held v : ℕ) (text : List ℕ) (rest left : ℕ) → Packs w start out xs bits held → out' ≡ out ++ text → HoldsIn (bits + w) (held + v * 2 ^ bits) text rest left → Packs w start out' (xs ++ v ∷ []) rest left
packs_more w start out out' xs bits held v text rest left s e h =
    let n : length (s.text ++ text) ≡ length s.text + length text = length-append s.text text in
    let k : length (xs ++ v ∷ []) ≡ length xs + 1 = length-append xs (v ∷ []) in
    let bytes : 8 * length (s.text ++ text) ≡ 8 * length s.text + 8 * length text = omega (arith, n) in
    let power : 2 ^ (8 * length (s.text ++ text)) ≡ 2 ^ (8 * length s.text) * 2 ^ (8 * length text) = ap (λ (j : ℕ). 2 ^ j) bytes ∙ pow-add 2 (8 * length s.text) (8 * length text) in
    let place : 2 ^ (w * length xs) ≡ 2 ^ (8 * length s.text) * 2 ^ bits = ap (λ (j : ℕ). 2 ^ j) (sym s.size) ∙ pow-add 2 (8 * length s.text) bits in
    let more : w * (length xs + 1) ≡ w * length xs + w = omega arith in
    record {
      text = s.text ++ text;
      parts = e ∙ ap (λ (t : List ℕ). t ++ text) s.parts ∙ append_assoc start s.text text;
      size = ap (λ (j : ℕ). j + rest) bytes ∙ omega (arith, h.size, s.size, more) ∙ ap (λ (j : ℕ). w * j) (sym k);
      value = values (2 ^ (8 * length s.text)) (2 ^ (8 * length text)) (2 ^ (8 * length (s.text ++ text))) (2 ^ bits) (2 ^ (w * length xs)) (number_of s.text) (number_of text) (number_of (s.text ++ text)) (word_of w xs) (word_of w (xs ++ v ∷ [])) power place (number_of-append s.text text) (word_of-push w xs v) s.value h.value;
      small = h.small;
    }
  where
    values : (p q pq b wx a t at x xv : ℕ) → pq ≡ p * q → wx ≡ p * b → at ≡ a + p * t → xv ≡ x + wx * v → a + p * held ≡ x → t + q * left ≡ held + v * b → at + pq * left ≡ xv
    values p q pq b wx a t at x xv e1 e2 e3 e4 e5 e6 =
        let one : p * (t + q * left) ≡ p * (held + v * b) = ap (λ (y : ℕ). p * y) e6 in
        let lhs : at + pq * left ≡ a + p * (t + q * left) = rw (e1, e3) (omega arith) in
        let rhs : a + p * (held + v * b) ≡ xv = rw (e4, e2, ← e5) (omega arith) in
        lhs ∙ ap (λ (y : ℕ). a + y) one ∙ rhs

-- ---- the end

pub packs_end : (w : ℕ) (start out out' xs : List ℕ) (bits held : ℕ) (text : List ℕ) → All (λ v. v < 2 ^ w) xs → Packs w start out xs bits held → out' ≡ out ++ text → length text ≡ (bits + 7) / 8 → number_of text ≡ held → (whole : List ℕ) × (out' ≡ start ++ whole) × ArePacked w xs whole
packs_end w start out out' xs bits held text below s e size is =
    let value : number_of (s.text ++ text) ≡ word_of w xs = number_of-append s.text text ∙ ap (λ (x : ℕ). number_of s.text + 2 ^ (8 * length s.text) * x) is ∙ s.value in (
      s.text ++ text,
      e ∙ ap (λ (t : List ℕ). t ++ text) s.parts ∙ append_assoc start s.text text,
      record {
        size = length-append s.text text ∙ omega (arith, s.size, size);
        unpacks = ap (λ (x : ℕ). digits_of (2 ^ w) (length xs) x) value ∙ digits-word_of w xs below;
        value = value;
      },
    )

-- the lowest four bytes
pub one_word : (bits held word left : ℕ) (text : List ℕ) → 32 ≤ bits → bits < 64 → held < 2 ^ bits → word ≡ held % 2 ^ 32 → left ≡ held / 2 ^ 32 → text ≡ to_le_bytes w32 word → HoldsIn bits held text (bits % 32) left
one_word bits held word left text some most small low high is =
    let four : length text ≡ 4 = ap length is in
    let e : bits ≡ 32 + bits % 32 = omega arith in
    let power : 2 ^ bits ≡ 2 ^ 32 * 2 ^ (bits % 32) = ap (λ (k : ℕ). 2 ^ k) e ∙ pow-add 2 32 (bits % 32) in
    let number : number_of text ≡ word = ap number_of is ∙ four_bytes word (omega (arith, low)) in
    record {
      size = omega (arith, four, e);
      value = ap (λ (k : ℕ). number_of text + 2 ^ (8 * k) * left) four ∙ omega (arith, number, low, high);
      small = omega (arith, high, small, power);
    }

pub no_word : (bits held : ℕ) → bits < 32 → held < 2 ^ bits → HoldsIn bits held [] (bits % 32) held
no_word bits held few small =
    let e : bits % 32 ≡ bits = omega arith in
    record { size = omega arith; value = omega arith; small = subst (λ (k : ℕ). held < 2 ^ k) (sym e) small }

-- the lowest eight bytes
pub two_words : (bits held word left : ℕ) (text : List ℕ) → 64 ≤ bits → bits < 128 → held < 2 ^ bits → word ≡ held % 2 ^ 64 → left ≡ held / 2 ^ 64 → text ≡ to_le_bytes w64 word → HoldsIn bits held text (bits % 64) left
two_words bits held word left text some most small low high is =
    let eight : length text ≡ 8 = ap length is in
    let e : bits ≡ 64 + bits % 64 = omega arith in
    let power : 2 ^ bits ≡ 2 ^ 64 * 2 ^ (bits % 64) = ap (λ (k : ℕ). 2 ^ k) e ∙ pow-add 2 64 (bits % 64) in
    let number : number_of text ≡ word = ap number_of is ∙ eight_bytes word (omega (arith, low)) in
    record {
      size = omega (arith, eight, e);
      value = ap (λ (k : ℕ). number_of text + 2 ^ (8 * k) * left) eight ∙ omega (arith, number, low, high);
      small = omega (arith, high, small, power);
    }

pub no_words : (bits held : ℕ) → bits < 64 → held < 2 ^ bits → HoldsIn bits held [] (bits % 64) held
no_words bits held few small =
    let e : bits % 64 ≡ bits = omega arith in
    record { size = omega arith; value = omega arith; small = subst (λ (k : ℕ). held < 2 ^ k) (sym e) small }

-- less than a word
pub rest_fits : (bits held : ℕ) → held < 2 ^ bits → held < 2 ^ ((bits + 7) / 8 * 8)
rest_fits bits held h =
    let p : 2 ^ bits ≤ 2 ^ ((bits + 7) / 8 * 8) = pow-le-pow_right (omega arith) (omega arith) in
    omega (arith, h, p)

pub rest_is : (bits held left : ℕ) (text : List ℕ) → HoldsIn ((bits + 7) / 8 * 8) held text ((bits + 7) / 8 * 8 % 8) left → (length text ≡ (bits + 7) / 8) × (number_of text ≡ held)
rest_is bits held left text h =
    let whole : (bits + 7) / 8 * 8 % 8 ≡ 0 = omega arith in
    let none : left ≡ 0 = omega (arith, subst (λ (k : ℕ). left < 2 ^ k) whole h.small) in
    (omega (arith, h.size, whole), omega (arith, h.value, ap (λ (x : ℕ). 2 ^ (8 * length text) * x) none))

-- ---- plain bits

bit_below : (v : Bool) → bit v < 2
bit_below true = omega arith
bit_below false = omega arith

bits_at : (vs : List Bool) (k d : ℕ) → k < length (map bit vs) → get_or (map bit vs) k d < 2
bits_at [] k d lt = absurd (omega (arith, lt))
bits_at (v ∷ vs) zero d lt = bit_below v
bits_at (v ∷ vs) (suc k) d lt = bits_at vs k d (omega (arith, lt))

bits_below : (vs : List Bool) → All (λ v. v < 2 ^ 1) (map bit vs)
bits_below vs = bits_at vs

pub bits_more : (start out out' : List ℕ) (vs : List Bool) (bits held : ℕ) (v : Bool) (one : ℕ) (text : List ℕ) (rest left : ℕ) → one ≡ bit v → bits < 32 → Packs 1 start out (map bit vs) bits held → out' ≡ out ++ text → HoldsIn (bits + 1) (held + one * 2 ^ bits % 2 ^ 64) text rest left → Packs 1 start out' (map bit (vs ++ v ∷ [])) rest left
bits_more start out out' vs bits held v one text rest left is few s e h =
    let below : one < 2 ^ 32 = bit_fits v one is in
    let whole : one * 2 ^ bits % 2 ^ 64 ≡ one * 2 ^ bits = shl_whole one 32 bits 64 below (omega (arith, few)) in
    let h' = subst (λ (x : ℕ). HoldsIn (bits + 1) (held + x) text rest left) (whole ∙ ap (λ (x : ℕ). x * 2 ^ bits) is) h in
    rw map-append (packs_more 1 start out out' (map bit vs) bits held (bit v) text rest left s e h')
  where
    bit_fits : (v : Bool) (one : ℕ) → one ≡ bit v → one < 2 ^ 32
    bit_fits true one e = omega (arith, e)
    bit_fits false one e = omega (arith, e)

pub bits_end : (start out out' : List ℕ) (vs : List Bool) (bits held : ℕ) (text : List ℕ) → Packs 1 start out (map bit vs) bits held → out' ≡ out ++ text → length text ≡ (bits + 7) / 8 → number_of text ≡ held → (whole : List ℕ) × (out' ≡ start ++ whole) × ArePacked 1 (map bit vs) whole
bits_end start out out' vs bits held text s e size is = packs_end 1 start out out' (map bit vs) bits held text (bits_below vs) s e size is

-- ---- what stood there

pub kept_same : (start out : List ℕ) → out ≡ start → Extends start out
kept_same start out e = record { text = []; parts = e ∙ sym (append-nil start) }

pub kept_more : (start out text : List ℕ) → out ≡ start ++ text → Extends start out
kept_more start out text e = record { text = text; parts = e }

pub kept_then : (start out out' : List ℕ) → Extends start out → Extends out out' → Extends start out'
kept_then start out out' a b = record { text = a.text ++ b.text; parts = b.parts ∙ ap (λ (t : List ℕ). t ++ b.text) a.parts ∙ append_assoc start a.text b.text }

-- the bytes that stood there before
pub cut_back : (start out out' : List ℕ) (n : ℕ) → n ≡ length start → Extends start out → out' ≡ take n out → out' ≡ start
cut_back start out out' n size k e = e ∙ ap (λ (j : ℕ). take j out) size ∙ ap (take (length start)) k.parts ∙ take_at start k.text (length start) refl
