-- Packing numbers, eight at a time.
use Rattle.std.proofs.Common.{◌≡◌, ℕ, zero, suc, ◌+◌, ◌*◌, ◌%◌, ◌^◌, ◌<◌, ◌≤◌, List, [], ◌∷◌, ◌++◌, length, take, drop, get_or, refl, sym, ap, subst, ◌∙◌, arith, append-nil, append_assoc, All}
use Rattle.std.proofs.Math.Nat.{pow-le-pow_right}
use Rattle.std.proofs.lemmas.Nat.{pow-add, mul-le, shl_whole}
use Rattle.std.proofs.lemmas.List.{length-append, length-take, take_at, take-take}
use Rattle.std.proofs.Math.Seq.{take-append-add}
use Rattle.std.proofs.lemmas.List.Elements.{All-take}
use Rattle.std.specs.Int.{w64, to_le_bytes}
use Rattle.pq_numbers.specs.Bits.{digits_of, bytes_for}
use Rattle.pq_numbers.specs.Texts.{number_of}
use Rattle.pq_numbers.proofs.Digits.{number_of-append}
use Rattle.pq_runs.specs.Packing.{ArePacked}
use Rattle.pq_runs.specs.Words.{word_of}
use Rattle.pq_runs.proofs.Packs.{word_of-append, digits-word_of}

-- ---- one more number

pub below_word : (w bits word number : ℕ) → word < 2 ^ bits → number < 2 ^ w → number + 2 ^ w * word < 2 ^ (bits + w)
below_word w bits word number h low =
    let p : 2 ^ (bits + w) ≡ 2 ^ bits * 2 ^ w = pow-add 2 bits w in
    let more : suc word * 2 ^ w ≤ 2 ^ bits * 2 ^ w = mul-le (suc word) (2 ^ w) (2 ^ bits) (2 ^ w) h (omega arith) in
    omega (arith, p, more, low)

pub shifted : (w bits word number more : ℕ) → bits + w ≤ 64 → word < 2 ^ bits → more ≡ number → word * 2 ^ w % 2 ^ 64 + more ≡ number + 2 ^ w * word
shifted w bits word number more room h e =
    let whole : word * 2 ^ w % 2 ^ 64 ≡ word * 2 ^ w = shl_whole word bits w 64 h room in
    omega (arith, whole, e)

pub below_64 : (w bits x : ℕ) → bits + w ≤ 64 → x < 2 ^ (bits + w) → x < 2 ^ 64
below_64 w bits x room h =
    let p : 2 ^ (bits + w) ≤ 2 ^ 64 = pow-le-pow_right (omega arith) room in
    omega (arith, h, p)

-- ---- the lowest bytes of a word

pub number_of-bytes : (w n : ℕ) → w ≤ 8 → n < 2 ^ (8 * w) → number_of (take w (to_le_bytes w64 n)) ≡ n
number_of-bytes zero n h lt = omega (arith, lt)
number_of-bytes (suc zero) n h lt = omega (arith, lt)
number_of-bytes (suc (suc zero)) n h lt = omega (arith, lt)
number_of-bytes (suc (suc (suc zero))) n h lt = omega (arith, lt)
number_of-bytes (suc (suc (suc (suc zero)))) n h lt = omega (arith, lt)
number_of-bytes (suc (suc (suc (suc (suc zero))))) n h lt = omega (arith, lt)
number_of-bytes (suc (suc (suc (suc (suc (suc zero)))))) n h lt = omega (arith, lt)
number_of-bytes (suc (suc (suc (suc (suc (suc (suc zero))))))) n h lt = omega (arith, lt)
number_of-bytes (suc (suc (suc (suc (suc (suc (suc (suc zero)))))))) n h lt = omega (arith, lt)
number_of-bytes (suc (suc (suc (suc (suc (suc (suc (suc (suc w))))))))) n h lt = absurd (omega (arith, h))

-- ---- whole groups

-- the groups so far and those that are left
pub record Grouped (w : ℕ) (start out rest numbers : List ℕ) : Type 0 where
  pub text : List ℕ
  pub done : List ℕ
  pub groups : ℕ
  pub parts : out ≡ start ++ text
  pub whole : done ++ rest ≡ numbers
  pub count : length done ≡ 8 * groups
  pub size : length text ≡ w * groups
  pub value : number_of text ≡ word_of w done

pub grouped_begin : (w : ℕ) (start numbers : List ℕ) → Grouped w start start numbers numbers
grouped_begin w start numbers = record {
  text = [];
  done = [];
  groups = 0;
  parts = sym (append-nil start);
  whole = refl;
  count = refl;
  size = omega arith;
  value = refl;
}

pub grouped_more : (w : ℕ) (start out out' eight rest numbers text : List ℕ) → length eight ≡ 8 → length text ≡ w → number_of text ≡ word_of w eight → out' ≡ out ++ text → Grouped w start out (eight ++ rest) numbers → Grouped w start out' rest numbers
grouped_more w start out out' eight rest numbers text n size value e g =
    let bits : 8 * length g.text ≡ w * length g.done = omega (arith, g.size, ap (λ (k : ℕ). w * k) g.count) in
    record {
      text = g.text ++ text;
      done = g.done ++ eight;
      groups = g.groups + 1;
      parts = e ∙ ap (λ (t : List ℕ). t ++ text) g.parts ∙ append_assoc start g.text text;
      whole = append_assoc g.done eight rest ∙ g.whole;
      count = omega (arith, length-append g.done eight, n, g.count);
      size = omega (arith, length-append g.text text, size, g.size);
      value = number_of-append g.text text ∙ ap (λ (x : ℕ). number_of g.text + 2 ^ (8 * length g.text) * x) value ∙ ap (λ (x : ℕ). x + 2 ^ (8 * length g.text) * word_of w eight) g.value ∙ ap (λ (k : ℕ). word_of w g.done + 2 ^ k * word_of w eight) bits ∙ sym (word_of-append w g.done eight);
    }

-- the first of some bytes that stand behind a front
pub front_less : (at m n : ℕ) (old new bytes : List ℕ) → at + n ≤ length old → m ≤ n → take (at + n) new ≡ take at old ++ bytes → take (at + m) new ≡ take at old ++ take m bytes
front_less at m n old new bytes room less e =
    let size : length (take at old) ≡ at = omega (arith, length-take at old, room) in
    sym (take-take (at + m) (at + n) new (omega (arith, less)))
    ∙ ap (take (at + m)) e
    ∙ ap (λ (k : ℕ). take (k + m) (take at old ++ bytes)) (sym size)
    ∙ take-append-add (take at old) bytes m

pub length-none : (xs : List ℕ) → length xs ≡ 0 → xs ≡ []
length-none [] e = refl
length-none (x ∷ xs) e = absurd (omega (arith, e))

pub grouped_end : (w : ℕ) (start out rest numbers : List ℕ) → All (λ v. v < 2 ^ w) numbers → length numbers % 8 ≡ 0 → length rest < 8 → Grouped w start out rest numbers → (text : List ℕ) × (out ≡ start ++ text) × ArePacked w numbers text
grouped_end w start out rest numbers below whole few g =
    let n : length g.done + length rest ≡ length numbers = sym (length-append g.done rest) ∙ ap length g.whole in
    let none : rest ≡ [] = length-none rest (omega (arith, n, g.count, whole, few)) in
    let all : g.done ≡ numbers = sym (append-nil g.done) ∙ ap (λ (t : List ℕ). g.done ++ t) (sym none) ∙ g.whole in
    let count : length numbers ≡ 8 * g.groups = ap length (sym all) ∙ g.count in
    let bits : w * length numbers ≡ 8 * (w * g.groups) = ap (λ (k : ℕ). w * k) count ∙ omega arith in (
      g.text,
      g.parts,
      record {
        size = g.size ∙ bytes (w * length numbers) (w * g.groups) bits;
        unpacks = ap (λ (x : ℕ). digits_of (2 ^ w) (length numbers) x) (g.value ∙ ap (word_of w) all) ∙ digits-word_of w numbers below;
        value = g.value ∙ ap (word_of w) all;
      },
    )
  where
    bytes : (b n : ℕ) → b ≡ 8 * n → n ≡ bytes_for b
    bytes b n e = omega (arith, e)

-- ---- eight numbers

pub eight_front : (xs : List ℕ) → 8 ≤ length xs → xs ≡ get_or xs 0 0 ∷ get_or xs 1 0 ∷ get_or xs 2 0 ∷ get_or xs 3 0 ∷ get_or xs 4 0 ∷ get_or xs 5 0 ∷ get_or xs 6 0 ∷ get_or xs 7 0 ∷ drop 8 xs
eight_front (a ∷ b ∷ c ∷ d ∷ e ∷ f ∷ g ∷ h ∷ xs) le = refl
eight_front (a ∷ b ∷ c ∷ d ∷ e ∷ f ∷ g ∷ []) le = absurd (omega arith)
eight_front (a ∷ b ∷ c ∷ d ∷ e ∷ f ∷ []) le = absurd (omega arith)
eight_front (a ∷ b ∷ c ∷ d ∷ e ∷ []) le = absurd (omega arith)
eight_front (a ∷ b ∷ c ∷ d ∷ []) le = absurd (omega arith)
eight_front (a ∷ b ∷ c ∷ []) le = absurd (omega arith)
eight_front (a ∷ b ∷ []) le = absurd (omega arith)
eight_front (a ∷ []) le = absurd (omega arith)
eight_front [] le = absurd (omega arith)

all_behind : (w : ℕ) (xs ys : List ℕ) → All (λ v. v < 2 ^ w) (xs ++ ys) → All (λ v. v < 2 ^ w) ys
all_behind w [] ys h = h
all_behind w (x ∷ xs) ys h = all_behind w xs ys (λ k d lt. h (suc k) d (omega (arith, lt)))

pub below_eight : (w : ℕ) (start out eight rest numbers : List ℕ) → All (λ v. v < 2 ^ w) numbers → Grouped w start out (eight ++ rest) numbers → All (λ v. v < 2 ^ w) eight
below_eight w start out eight rest numbers h g =
    let behind : All (λ v. v < 2 ^ w) (eight ++ rest) = all_behind w g.done (eight ++ rest) (subst (λ (t : List ℕ). All (λ v. v < 2 ^ w) t) (sym g.whole) h) in
    subst (λ (t : List ℕ). All (λ v. v < 2 ^ w) t) (take_at eight rest (length eight) refl) (All-take (λ v. v < 2 ^ w) (length eight) (eight ++ rest) behind)

pub low_text : (w n word : ℕ) (bytes : List ℕ) → w ≤ 8 → n < 2 ^ (8 * w) → bytes ≡ to_le_bytes w64 n → word ≡ n → (length (take w bytes) ≡ w) × (number_of (take w bytes) ≡ word)
low_text w n word bytes h lt e is =
    let eight : length bytes ≡ 8 = ap length e in
    (omega (arith, length-take w bytes, eight), ap (λ (t : List ℕ). number_of (take w t)) e ∙ number_of-bytes w n h lt ∙ sym is)
