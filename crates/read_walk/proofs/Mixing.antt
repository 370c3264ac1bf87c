-- A word of bits, built from the last level to the first, and what is left of one without some bits.
use Rattle.std.proofs.Common.{◌≡◌, inl, inr, ℕ, zero, suc, map, replicate, ◌==◌, ◌+◌, ◌-◌, ◌*◌, ◌/◌, ◌%◌, ◌^◌, ◌<◌, ◌≤◌, nat_eq, nat_le, cond, Bool, true, false, List, [], ◌∷◌, length, drop, get_or, refl, arith, ap, sym, ◌∙◌, add-one, pow-suc, take, ◌++◌}
use Rattle.std.proofs.Math.Arith.{mod-mul}
use Rattle.std.proofs.Math.Seq.{drop-cons}
use Rattle.std.specs.Int.{w64, trailing_ones}
use Rattle.std.proofs.lemmas.List.{length-take, length-drop, take-append-drop, drop-drop}
use Rattle.std.proofs.lemmas.Nat.{pow_pos, mod_below}
use Rattle.std.proofs.lemmas.Bool.Decides.{leb_tells}
use Rattle.columns_core.specs.Bits.{word_bits}
use Rattle.columns_core.proofs.Words.{ones_run, ones_end}
use Rattle.read_laws.specs.Step.{bit}
use Rattle.read_state.specs.Reach.{chosen}
use Rattle.read_state.proofs.Compared.{word-split, word-join, word-alike, length-word}
use Rattle.read_walk.specs.Gives.{mixed}

-- one bit more in front
word-more : (w k : ℕ) (b : Bool) → word_bits (2 * w + bit b) (suc k) ≡ b ∷ word_bits w k
word-more w k true =
    let m : (2 * w + 1) % 2 ≡ 1 = omega arith in
    let q : (2 * w + 1) / 2 ≡ w = omega arith in
    rw (m, q) refl
word-more w k false =
    let m : (2 * w + 0) % 2 ≡ 0 = omega arith in
    let q : (2 * w + 0) / 2 ≡ w = omega arith in
    rw (m, q) refl

bit-most : (b : Bool) → bit b ≤ 1
bit-most true = omega arith
bit-most false = omega arith

pub word-below : (w k : ℕ) (b : Bool) → w < 2 ^ k → 2 * w + bit b < 2 ^ (k + 1)
word-below w k b h =
    let p : 2 ^ (k + 1) ≡ 2 ^ k * 2 = rw add-one (pow-suc 2 k) in
    omega (arith, h, p, bit-most b)

pub level-low : (floor top d : ℕ) (ds : List ℕ) → d < floor → mixed floor top (d ∷ ds) ≡ mixed floor top ds
level-low floor top d ds h = elim (leb_tells floor d) [ inl e ↦ absurd (omega (arith, h, e.1)) | inr e ↦ rw e.0 refl ]

pub level-high : (floor top d word count : ℕ) (ds : List ℕ) → (d < floor → ⊥) → word_bits word count ≡ mixed floor top ds → word_bits (2 * word + bit (nat_eq d top)) (count + 1) ≡ mixed floor top (d ∷ ds)
level-high floor top d word count ds h e = elim (leb_tells floor d) [
  | inl high ↦ rw (high.0, add-one) (word-more word count (nat_eq d top) ∙ ap (λ (bs : List Bool). nat_eq d top ∷ bs) e)
  | inr low ↦ absurd (h (omega (arith, low.1)))
]

pub record IsMixed (floor top : ℕ) (levels : List ℕ) (i word count : ℕ) : Type 0 where
  pub bits : word_bits word count ≡ mixed floor top (drop (length levels - i) levels)
  pub below : word < 2 ^ count
  pub few : count ≤ i

-- the levels from one place before on
pub one-before : (levels : List ℕ) (i : ℕ) → i < length levels → drop (length levels - (i + 1)) levels ≡ get_or levels (length levels - 1 - i) 0 ∷ drop (length levels - i) levels
one-before levels i h =
    let a : length levels - (i + 1) ≡ length levels - 1 - i = omega (arith, h) in
    let b : length levels - i ≡ suc (length levels - 1 - i) = omega (arith, h) in
    rw (a, b) (drop-cons levels (length levels - 1 - i) 0 (omega (arith, h)))

-- a part of the levels, and those behind it
pub part-of : (levels : List ℕ) (at n : ℕ) → at + n ≤ length levels → drop at levels ≡ take (at + n - at) (drop at levels) ++ drop (at + length (take (at + n - at) (drop at levels))) levels
part-of levels at n h =
    let m : at + n - at ≡ n = omega arith in
    let size : length (take n (drop at levels)) ≡ n = length-take n (drop at levels) ∙ omega (arith, length-drop at levels, h) in
    rw (m, size) (sym (take-append-drop n (drop at levels)) ∙ ap (λ (t : List ℕ). take n (drop at levels) ++ t) (drop-drop n at levels))

-- ---- the bits beside those that are set
pub mixed-chosen : (floor top : ℕ) (levels : List ℕ) → chosen (map (λ d. nat_le floor d) levels) (map (λ d. nat_eq d top) levels) ≡ mixed floor top levels
unfolding chosen
mixed-chosen floor top [] = refl
mixed-chosen floor top (d ∷ ds) = ap (λ (bs : List Bool). cond (nat_le floor d) (nat_eq d top ∷ bs) bs) (mixed-chosen floor top ds)

chosen-kept : (k : ℕ) (ps vs ws : List Bool) → length vs ≡ k → chosen (replicate k true ++ ps) (vs ++ ws) ≡ vs ++ chosen ps ws
unfolding chosen
chosen-kept zero ps [] ws e = refl
chosen-kept zero ps (v ∷ vs) ws e = absurd (omega (arith, e))
chosen-kept (suc k) ps [] ws e = absurd (omega (arith, e))
chosen-kept (suc k) ps (v ∷ vs) ws e = ap (λ (bs : List Bool). v ∷ bs) (chosen-kept k ps vs ws (omega (arith, e)))

chosen-all : (n : ℕ) (vs : List Bool) → length vs ≡ n → chosen (replicate n true) vs ≡ vs
unfolding chosen
chosen-all zero [] e = refl
chosen-all zero (v ∷ vs) e = absurd (omega (arith, e))
chosen-all (suc n) [] e = absurd (omega (arith, e))
chosen-all (suc n) (v ∷ vs) e = ap (λ (bs : List Bool). v ∷ bs) (chosen-all n vs (omega (arith, e)))

chosen-passes : (p : Bool) (v : Bool) (ps vs : List Bool) → p ≡ false → chosen (p ∷ ps) (v ∷ vs) ≡ chosen ps vs
unfolding chosen
chosen-passes p v ps vs e = rw e refl

low-word : (n word : ℕ) → word_bits (word % 2 ^ n) n ≡ word_bits word n
low-word n word = sym (same-bits n word)
  where
    same-bits : (n word : ℕ) → word_bits word n ≡ word_bits (word % 2 ^ n) n
    same-bits zero word = refl
    same-bits (suc n) word =
        let p : 2 ^ suc n ≡ 2 ^ n * 2 = pow-suc 2 n in
        let e : word % 2 ^ suc n ≡ (word / 2 % 2 ^ n) * 2 + word % 2 = ap (λ (k : ℕ). word % k) p ∙ mod-mul word (pow_pos n) (omega arith) in
        let low : word % 2 ^ suc n % 2 ≡ word % 2 = omega (arith, e) in
        let high : word % 2 ^ suc n / 2 ≡ word / 2 % 2 ^ n = omega (arith, e) in
        rw (low, high) (ap (λ (bs : List Bool). (word % 2 == 1) ∷ bs) (same-bits n (word / 2)))

-- a word in three parts, and without the bit in the middle
in-three : (w at m : ℕ) → word_bits w (at + suc m) ≡ word_bits w at ++ (w / 2 ^ at % 2 == 1) ∷ word_bits (w / 2 ^ at / 2) m
in-three w at m = word-split at (suc m) w

without : (w at m : ℕ) → word_bits (w % 2 ^ at + w / 2 ^ at / 2 * 2 ^ at) (at + m) ≡ word_bits w at ++ word_bits (w / 2 ^ at / 2) m
without w at m = word-join at m (w % 2 ^ at) (w / 2 ^ at / 2) (mod_below w (2 ^ at) (pow_pos at)) ∙ ap (λ (bs : List Bool). bs ++ word_bits (w / 2 ^ at / 2) m) (low-word at w)

pub record IsPicked (every : List Bool) (left picked count : ℕ) : Type 0 where
  pub all : chosen (word_bits left count) (word_bits picked count) ≡ every
  pub few : count ≤ 64
  pub fits : left < 2 ^ 64

module _ (left at : ℕ) (fits : left < 2 ^ 64) (e : at ≡ trailing_ones w64 left) where
  pub ones-before : (n : ℕ) → n ≤ at → word_bits left n ≡ replicate n true
  ones-before n h = word-alike n left true (λ i l. let within : i < at = omega (arith, l, h) in ones_run left fits i (rw e at within))

  clear-at : at < 64 → (left / 2 ^ at % 2 == 1) ≡ false
  clear-at h = rw e (ones_end left fits (rw e at h))

  pub picked-next : (every : List Bool) (picked count left' picked' : ℕ) → at < count → left' < 2 ^ 64 → left' ≡ left % 2 ^ at + left / 2 ^ at / 2 * 2 ^ at → picked' ≡ picked % 2 ^ at + picked / 2 ^ at / 2 * 2 ^ at → IsPicked every left picked count → IsPicked every left' picked' (count - 1)
  picked-next every picked count left' picked' h f l p is =
      let m : ℕ = count - (at + 1) in
      let before : count ≡ at + suc m = omega (arith, h) in
      let after : count - 1 ≡ at + m = omega (arith, h) in
      let ps = word_bits (left / 2 ^ at / 2) m in
      let vs = word_bits (picked / 2 ^ at / 2) m in
      let front = word_bits picked at in
      let ones = ones-before at (omega arith) in
      let old : chosen (word_bits left count) (word_bits picked count) ≡ front ++ chosen ps vs =
      ap (λ (k : ℕ). chosen (word_bits left k) (word_bits picked k)) before
      ∙ (ap (λ (bs : List Bool). chosen bs (word_bits picked (at + suc m))) (in-three left at m ∙ ap (λ (bs : List Bool). bs ++ (left / 2 ^ at % 2 == 1) ∷ ps) ones)
      ∙ (ap (chosen (replicate at true ++ (left / 2 ^ at % 2 == 1) ∷ ps)) (in-three picked at m)
      ∙ (chosen-kept at ((left / 2 ^ at % 2 == 1) ∷ ps) front ((picked / 2 ^ at % 2 == 1) ∷ vs) (length-word picked at)
      ∙ ap (λ (bs : List Bool). front ++ bs) (chosen-passes (left / 2 ^ at % 2 == 1) (picked / 2 ^ at % 2 == 1) ps vs (clear-at (omega (arith, h, is.few))))))) in
      let new : chosen (word_bits left' (count - 1)) (word_bits picked' (count - 1)) ≡ front ++ chosen ps vs =
      ap (λ (k : ℕ). chosen (word_bits left' k) (word_bits picked' k)) after
      ∙ (ap (λ (bs : List Bool). chosen bs (word_bits picked' (at + m))) (ap (λ (k : ℕ). word_bits k (at + m)) l ∙ (without left at m ∙ ap (λ (bs : List Bool). bs ++ ps) ones))
      ∙ (ap (chosen (replicate at true ++ ps)) (ap (λ (k : ℕ). word_bits k (at + m)) p ∙ without picked at m)
      ∙ chosen-kept at ps front vs (length-word picked at))) in
      record { all = new ∙ (sym old ∙ is.all); few = omega (arith, is.few); fits = f }

  pub picked-done : (every : List Bool) (picked count : ℕ) → count ≤ at → IsPicked every left picked count → word_bits picked count ≡ every
  picked-done every picked count h is = sym (chosen-all count (word_bits picked count) (length-word picked count)) ∙ (ap (λ (bs : List Bool). chosen bs (word_bits picked count)) (sym (ones-before count h)) ∙ is.all)
