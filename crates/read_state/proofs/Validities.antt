-- The validities of a block by a word.
use Rattle.std.proofs.Common.{◌≡◌, ℕ, suc, ◌+◌, ◌-◌, ◌*◌, ◌/◌, ◌%◌, ◌^◌, ◌<◌, ◌≤◌, Bool, true, false, cond, nat_lt, Some, List, [], ◌∷◌, ◌++◌, length, drop, get_or, refl, arith, ap, sym, ◌∙◌, add-one, pow-suc, append_assoc, append-nil, length-append}
use Rattle.std.proofs.Math.ListN.{drop_of_length-le}
use Rattle.columns_core.specs.Bits.{word_bits}
use Rattle.read_laws.specs.State.{kept_struct}
use Rattle.read_laws.specs.Step.{bit}
use Rattle.read_laws.specs.Block.{Mark, marks_part, grows_by, pushed_all}
use Rattle.read_state.specs.Marks.{marks_of, validities}
use Rattle.read_state.proofs.Blocks.{mark_at, next-mark}

-- one bit more in front
word-suc : (w k : ℕ) (b : Bool) → word_bits (2 * w + bit b) (suc k) ≡ b ∷ word_bits w k
word-suc w k true =
    let m : (2 * w + 1) % 2 ≡ 1 = omega arith in
    let q : (2 * w + 1) / 2 ≡ w = omega arith in
    rw (m, q) refl
word-suc w k false =
    let m : (2 * w + 0) % 2 ≡ 0 = omega arith in
    let q : (2 * w + 0) / 2 ≡ w = omega arith in
    rw (m, q) refl

pub word-more : (w k : ℕ) (b : Bool) → word_bits (2 * w + bit b) (k + 1) ≡ b ∷ word_bits w k
word-more w k b = let s : k + 1 ≡ suc k = omega arith in ap (word_bits (2 * w + bit b)) s ∙ word-suc w k b

bit-most : (b : Bool) → bit b ≤ 1
bit-most true = omega arith
bit-most false = omega arith

pub word-below : (w k : ℕ) (b : Bool) → w < 2 ^ k → 2 * w + bit b < 2 ^ (k + 1)
word-below w k b h =
    let p : 2 ^ (k + 1) ≡ 2 ^ k * 2 = rw add-one (pow-suc 2 k) in
    omega (arith, h, p, bit-most b)

pub record IsWord (depth def : ℕ) (reps defs : List ℕ) (hidden : List Bool) (i word count : ℕ) : Type 0 where
  pub bits : word_bits word count ≡ validities depth def (marks_of (drop (length reps - i) reps) (drop (length reps - i) defs) (drop (length reps - i) hidden))
  pub below : word < 2 ^ count
  pub few : count ≤ i

pub no-word : (depth def : ℕ) (reps defs : List ℕ) (hidden : List Bool) → IsWord depth def reps defs hidden 0 0 0
no-word depth def reps defs hidden = record {
  bits = rw (drop_of_length-le reps {i = length reps - 0} (omega arith)) refl;
  below = omega arith;
  few = omega arith;
}

module _ (depth def : ℕ) (reps defs : List ℕ) (hidden : List Bool) (i : ℕ) (h : i < length reps) (d : length defs ≡ length reps) (e : length reps ≤ length hidden) where
  marks-before : marks_of (drop (length reps - (i + 1)) reps) (drop (length reps - (i + 1)) defs) (drop (length reps - (i + 1)) hidden) ≡ mark_at reps defs hidden (length reps - 1 - i) ∷ marks_of (drop (length reps - i) reps) (drop (length reps - i) defs) (drop (length reps - i) hidden)
  marks-before =
      let a : length reps - (i + 1) ≡ length reps - 1 - i = omega (arith, h) in
      let b : length reps - 1 - i + 1 ≡ length reps - i = omega (arith, h) in
      rw a (rw b at (next-mark reps defs hidden (length reps - 1 - i) (omega (arith, h)) d e))

  pub word-pushed : (word count word' count' : ℕ) → IsWord depth def reps defs hidden i word count → marks_part depth def (mark_at reps defs hidden (length reps - 1 - i)) ≡ true → word_bits word' count' ≡ nat_lt def (get_or defs (length reps - 1 - i) 0) ∷ word_bits word count → word' < 2 ^ count' → count' ≡ count + 1 → IsWord depth def reps defs hidden (i + 1) word' count'
  word-pushed word count word' count' is p b below size = record {
    bits = rw marks-before (rw p (b ∙ ap (λ (bs : List Bool). nat_lt def (get_or defs (length reps - 1 - i) 0) ∷ bs) is.bits));
    below = below;
    few = omega (arith, size, is.few);
  }

  pub word-passed : (word count : ℕ) → IsWord depth def reps defs hidden i word count → marks_part depth def (mark_at reps defs hidden (length reps - 1 - i)) ≡ false → IsWord depth def reps defs hidden (i + 1) word count
  word-passed word count is p = record {
    bits = rw marks-before (rw p is.bits);
    below = is.below;
    few = omega (arith, is.few);
  }

pub all-word : (depth def : ℕ) (reps defs : List ℕ) (hidden : List Bool) (i word count : ℕ) → length reps ≤ i → IsWord depth def reps defs hidden i word count → word_bits word count ≡ validities depth def (marks_of reps defs hidden)
all-word depth def reps defs hidden i word count h is =
    let none : length reps - i ≡ 0 = omega (arith, h) in
    rw none at is.bits

-- ---- a nullable struct
struct-step : (b : Bool) (v : Bool) (bits more : List Bool) (c : ℕ) (rest : List Mark) (depth def place place' : ℕ) → ((bits' : List Bool) (c' p : ℕ) → pushed_all (kept_struct (Some bits') c') p depth def rest ≡ kept_struct (Some (bits' ++ more)) (c' + length more)) → pushed_all (cond b (kept_struct (Some (bits ++ v ∷ [])) (c + 1)) (kept_struct (Some bits) c)) place' depth def rest ≡ kept_struct (Some (bits ++ cond b (v ∷ more) more)) (c + length (cond b (v ∷ more) more))
struct-step true v bits more c rest depth def place place' others =
    let n : c + 1 + length more ≡ c + suc (length more) = omega arith in
    others (bits ++ v ∷ []) (c + 1) place' ∙ rw (append_assoc bits (v ∷ []) more, n) refl
struct-step false v bits more c rest depth def place place' others = others bits c place'

struct-all : (ms : List Mark) (bits : List Bool) (c place depth def : ℕ) → pushed_all (kept_struct (Some bits) c) place depth def ms ≡ kept_struct (Some (bits ++ validities depth def ms)) (c + length (validities depth def ms))
struct-all [] bits c place depth def = let n : c + 0 ≡ c = omega arith in rw (append-nil bits, n) refl
struct-all (m ∷ ms) bits c place depth def =
    struct-step (marks_part depth def m) (nat_lt def m.definition) bits (validities depth def ms) c ms depth def place (place + grows_by (kept_struct (Some bits) c) depth def m) (λ bits' c' p. struct-all ms bits' c' p depth def)

pub struct-word : (ms : List Mark) (bits bits' word : List Bool) (place depth def : ℕ) → bits' ≡ bits ++ word → word ≡ validities depth def ms → kept_struct (Some bits') (length bits') ≡ pushed_all (kept_struct (Some bits) (length bits)) place depth def ms
struct-word ms bits bits' word place depth def e w = rw (e, w, length-append bits (validities depth def ms)) (sym (struct-all ms bits (length bits) place depth def))
