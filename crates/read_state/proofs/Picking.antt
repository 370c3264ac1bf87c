-- A list's places and validities, taken from one set bit of a word to the next.
use Rattle.std.proofs.Common.{◌≡◌, ℕ, zero, suc, ◌+◌, ◌-◌, ◌*◌, ◌/◌, ◌%◌, ◌^◌, ◌<◌, ◌≤◌, ◌==◌, Bool, true, false, true≢false, cond, bit_and, count_ones, min, inl, inr, List, [], ◌∷◌, ◌++◌, length, replicate, refl, arith, ap, sym, ◌∙◌, append_assoc, append-nil, length-append, pow-suc}
use Rattle.std.specs.Int.{bit_at, w64, trailing_zeros}
use Rattle.std.proofs.lemmas.Bool.{cases_lt}
use Rattle.std.proofs.lemmas.List.{length-replicate}
use Rattle.std.proofs.lemmas.Nat.{shr-shr, shr_below, and_shr, and_le_l, pow_pos, ones_le_self}
use lib.Count.{ones_step}
use Rattle.std.specs.Int.Bits.{and_self}
use Rattle.std.proofs.lemmas.Nat.Bits.{bit_at-trailing_zeros, bit_at_lowest, bit_at-suc, bit_at-zero, bit_at_and, bit_at-lt}
use Rattle.columns_core.specs.Bits.{word_bits}
use Rattle.columns_core.proofs.Words.{ones_word}
use Rattle.read_laws.specs.Step.{bit}
use Rattle.read_state.specs.Reach.{chosen, places}
use Rattle.read_state.proofs.Compared.{length-word, bit-of, heads, tails}

pub places-none : (n place : ℕ) (gs : List Bool) → places place (replicate n false) gs ≡ []
unfolding places
places-none zero place gs = refl
places-none (suc n) place [] = refl
places-none (suc n) place (g ∷ gs) = places-none n (place + bit g) gs

chosen-none : (n : ℕ) (vs : List Bool) → chosen (replicate n false) vs ≡ []
unfolding chosen
chosen-none zero vs = refl
chosen-none (suc n) [] = refl
chosen-none (suc n) (v ∷ vs) = chosen-none n vs

-- ---- words without the low bits
-- how many bits are set from a place on
pub ones-behind : (k w : ℕ) → count_ones (w / 2 ^ k) ≤ count_ones w
ones-behind zero w = let e : w / 2 ^ 0 ≡ w = omega arith in rw e (omega arith)
ones-behind (suc k) w =
    let place : suc k ≡ 1 + k = omega arith in
    let e : w / 2 ^ suc k ≡ w / 2 / 2 ^ k = ap (λ (n : ℕ). w / 2 ^ n) place ∙ sym (shr-shr w 1 k) in
    rw e (omega (arith, ones-behind k (w / 2), ones_step w))

-- how many bits of so many can be set
ones-few : (n w : ℕ) → w < 2 ^ n → count_ones w ≤ n
ones-few zero w h = omega (arith, ones_le_self w, h)
ones-few (suc n) w h = omega (arith, ones_step w, ones-few n (w / 2) (omega (arith, h)))

pub ones-of-word : (w : ℕ) → w < 2 ^ 64 → count_ones w ≤ 64
ones-of-word w h = ones-few 64 w h

next-behind : (w i : ℕ) → w / 2 ^ i / 2 ≡ w / 2 ^ (i + 1)
next-behind w i = shr-shr w i 1

pub places-passed : (k n place place' a g : ℕ) → ((j : ℕ) → j < k → bit_at a j ≡ 0) → place' + count_ones (g / 2 ^ k) ≡ place + count_ones g → places place (word_bits a (k + n)) (word_bits g (k + n)) ≡ places place' (word_bits (a / 2 ^ k) n) (word_bits (g / 2 ^ k) n)
unfolding places
places-passed zero n place place' a g clear e =
    let b : a / 2 ^ 0 ≡ a = omega arith in
    let c : g / 2 ^ 0 ≡ g = omega arith in
    let count : 0 + n ≡ n = omega arith in
    let same : place' ≡ place = omega (arith, rw c at e) in
    rw (b, c, count, same) refl
places-passed (suc k) n place place' a g clear e =
    let count : suc k + n ≡ suc (k + n) = omega arith in
    let step : suc k ≡ 1 + k = omega arith in
    let b : a / 2 ^ suc k ≡ a / 2 / 2 ^ k = ap (λ (m : ℕ). a / 2 ^ m) step ∙ sym (shr-shr a 1 k) in
    let c : g / 2 ^ suc k ≡ g / 2 / 2 ^ k = ap (λ (m : ℕ). g / 2 ^ m) step ∙ sym (shr-shr g 1 k) in
    let low : a % 2 ≡ 0 = sym (bit_at_lowest a) ∙ clear 0 (omega arith) in
    let is : bit (g % 2 == 1) ≡ g % 2 = bit-of (g % 2) (omega arith) in
    let others : place' + count_ones (g / 2 / 2 ^ k) ≡ place + bit (g % 2 == 1) + count_ones (g / 2) = omega (arith, rw c at e, ones_step g, is) in
    rw (count, b, c, low) (places-passed k n (place + bit (g % 2 == 1)) place' (a / 2) (g / 2) (λ j h. sym (bit_at-suc a j) ∙ clear (suc j) (omega (arith, h))) others)

pub places-taken : (n place a g : ℕ) → a % 2 ≡ 1 → places place (word_bits a (suc n)) (word_bits g (suc n)) ≡ place ∷ places (place + g % 2) (word_bits (a / 2) n) (word_bits (g / 2) n)
unfolding places
places-taken n place a g e = rw (e, bit-of (g % 2) (omega arith)) refl

chosen-taken : (n a v : ℕ) → a % 2 ≡ 1 → chosen (word_bits a (suc n)) (word_bits v (suc n)) ≡ (v % 2 == 1) ∷ chosen (word_bits (a / 2) n) (word_bits (v / 2) n)
unfolding chosen
chosen-taken n a v e = rw e refl

-- ---- set bits that stand at their places
-- a word's bits from a place on
bit-shifted : (n i j : ℕ) → bit_at (n / 2 ^ i) j ≡ bit_at n (i + j)
bit-shifted n i j = ap (λ (k : ℕ). k % 2) (shr-shr n i j)

-- a word without its lowest set bit
pub lowest-cleared : (t n : ℕ) → ((j : ℕ) → j < t → bit_at n j ≡ 0) → bit_at n t ≡ 1 → (bit_and n (n - 1) / 2 ^ (t + 1) ≡ n / 2 ^ (t + 1)) × ((j : ℕ) → j < t + 1 → bit_at (bit_and n (n - 1)) j ≡ 0)
lowest-cleared zero n below one =
    let odd : n % 2 ≡ 1 = sym (bit_at_lowest n) ∙ one in
    let half : (n - 1) / 2 ≡ n / 2 = omega (arith, odd) in
    let even : bit_at (n - 1) 0 ≡ 0 = bit_at_lowest (n - 1) ∙ omega (arith, odd) in
    let first : bit_at (bit_and n (n - 1)) 0 ≡ 0 = bit_at_and n (n - 1) 0 ∙ omega (arith, even) in (
      and_shr n (n - 1) 1 ∙ (ap (bit_and (n / 2)) half ∙ and_self (n / 2)),
      λ j h. let z : j ≡ 0 = omega (arith, h) in rw z first,
    )
lowest-cleared (suc t) n below one =
    let even : n % 2 ≡ 0 = sym (bit_at_lowest n) ∙ below 0 (omega arith) in
    let high : bit_at (n / 2) t ≡ 1 = sym (bit_at-suc n t) ∙ one in
    let some : 0 < n / 2 = elim (cases_lt 0 (n / 2)) [
      | inl h ↦ h
      | inr h ↦ let z : n / 2 ≡ 0 = omega (arith, h) in absurd (omega (arith, high, ap (λ (k : ℕ). bit_at k t) z ∙ bit_at-zero t))
    ] in
    let less : (n - 1) / 2 ≡ n / 2 - 1 = omega (arith, even, some) in
    let half : bit_and n (n - 1) / 2 ≡ bit_and (n / 2) (n / 2 - 1) = and_shr n (n - 1) 1 ∙ ap (bit_and (n / 2)) less in
    let rest = lowest-cleared t (n / 2) (λ j h. sym (bit_at-suc n j) ∙ below (suc j) (omega (arith, h))) high in
    let place : 1 + (t + 1) ≡ suc t + 1 = omega arith in
    let first : bit_at (bit_and n (n - 1)) 0 ≡ 0 = bit_at_and n (n - 1) 0 ∙ omega (arith, below 0 (omega arith)) in (
      ap (λ (k : ℕ). bit_and n (n - 1) / 2 ^ k) (sym place) ∙ (sym (shr-shr (bit_and n (n - 1)) 1 (t + 1)) ∙ (ap (λ (k : ℕ). k / 2 ^ (t + 1)) half ∙ (rest.0 ∙ (shr-shr n 1 (t + 1) ∙ ap (λ (k : ℕ). n / 2 ^ k) place)))),
      by first half rest.1,
    )
  where
    by : bit_at (bit_and n (n - 1)) 0 ≡ 0 → bit_and n (n - 1) / 2 ≡ bit_and (n / 2) (n / 2 - 1) → ((j : ℕ) → j < t + 1 → bit_at (bit_and (n / 2) (n / 2 - 1)) j ≡ 0) → (j : ℕ) → j < suc t + 1 → bit_at (bit_and n (n - 1)) j ≡ 0
    by first half others zero h = first
    by first half others (suc j) h = bit_at-suc (bit_and n (n - 1)) j ∙ (ap (λ (k : ℕ). bit_at k j) half ∙ others j (omega (arith, h)))

pub zero-shifted : (i : ℕ) → 0 / 2 ^ i ≡ 0
zero-shifted i = omega (arith, shr_below 0 0 i (pow_pos (0 + i)))

-- The set bits of a word that are left: those from the place i on.
pub record AreLeft (all left : ℕ) : Type 0 where
  pub i : ℕ
  pub few : i ≤ 64
  pub same : left / 2 ^ i ≡ all / 2 ^ i
  pub clear : (j : ℕ) → j < i → bit_at left j ≡ 0

all-left : (all : ℕ) → AreLeft all all
all-left all = record {
  i = 0;
  few = omega arith;
  same = refl;
  clear = λ j h. absurd (omega (arith, h));
}

module _ (all left t : ℕ) (some : 0 < left) (fits : left < 2 ^ 64) (at : t ≡ trailing_zeros w64 left) (p : AreLeft all left) where
  lowest : bit_at left t ≡ 1
  lowest = rw at ((bit_at-trailing_zeros w64 left some fits).1)

  pub inside : t < 64
  inside = rw at ((bit_at-trailing_zeros w64 left some fits).0)

  below : (j : ℕ) → j < t → bit_at left j ≡ 0
  below j h = (bit_at-trailing_zeros w64 left some fits).2 j (rw at at h)

  pub over : p.i ≤ t
  over = elim (cases_lt t p.i) [
    | inl h ↦ absurd (omega (arith, lowest, p.clear t h))
    | inr h ↦ h
  ]

  here : p.i + (t - p.i) ≡ t
  here = omega (arith, over)

  zeros : (j : ℕ) → j < t - p.i → bit_at (all / 2 ^ p.i) j ≡ 0
  zeros j h = ap (λ (k : ℕ). bit_at k j) (sym p.same) ∙ (bit-shifted left p.i j ∙ below (p.i + j) (omega (arith, h, over)))

  odd : all / 2 ^ t % 2 ≡ 1
  odd = ap (λ (k : ℕ). bit_at all k) (sym here) ∙ (sym (bit-shifted all p.i (t - p.i)) ∙ (ap (λ (k : ℕ). bit_at k (t - p.i)) (sym p.same) ∙ (bit-shifted left p.i (t - p.i) ∙ (ap (bit_at left) here ∙ lowest))))

  behind : (w : ℕ) → w / 2 ^ p.i / 2 ^ (t - p.i) ≡ w / 2 ^ t
  behind w = shr-shr w p.i (t - p.i) ∙ ap (λ (k : ℕ). w / 2 ^ k) here

  others : left / 2 ^ (t + 1) ≡ all / 2 ^ (t + 1)
  others = sym (next-behind left t) ∙ (ap (λ (k : ℕ). k / 2) (sym (behind left) ∙ (ap (λ (k : ℕ). k / 2 ^ (t - p.i)) p.same ∙ behind all)) ∙ next-behind all t)

  left-next : AreLeft all (bit_and left (left - 1))
  left-next = record {
    i = t + 1;
    few = omega (arith, inside);
    same = (lowest-cleared t left below lowest).0 ∙ others;
    clear = (lowest-cleared t left below lowest).1;
  }

-- no set bit is left
none-left : (all left : ℕ) → left ≡ 0 → (p : AreLeft all left) → all / 2 ^ p.i ≡ 0
none-left all left z p = sym p.same ∙ (ap (λ (k : ℕ). k / 2 ^ p.i) z ∙ zero-shifted p.i)

-- ---- bits beside set bits, most of which are set: what a word has that another one lacks
missing-bit : (i a b : ℕ) → bit_at (a - bit_and a b) i + min (bit_at a i) (bit_at b i) ≡ bit_at a i
missing-bit zero a b =
    let low : bit_and a b % 2 ≡ min (a % 2) (b % 2) = sym (bit_at_lowest (bit_and a b)) ∙ (bit_at_and a b 0 ∙ (ap (λ (k : ℕ). min k (bit_at b 0)) (bit_at_lowest a) ∙ ap (λ (k : ℕ). min (a % 2) k) (bit_at_lowest b))) in
    let first : (a - bit_and a b) % 2 + min (a % 2) (b % 2) ≡ a % 2 = omega (arith, and_le_l a b, and_le_l (a / 2) (b / 2), and_shr a b 1, low) in
    rw (bit_at_lowest (a - bit_and a b), bit_at_lowest a, bit_at_lowest b) first
missing-bit (suc i) a b =
    let low : bit_and a b % 2 ≡ min (a % 2) (b % 2) = sym (bit_at_lowest (bit_and a b)) ∙ (bit_at_and a b 0 ∙ (ap (λ (k : ℕ). min k (bit_at b 0)) (bit_at_lowest a) ∙ ap (λ (k : ℕ). min (a % 2) k) (bit_at_lowest b))) in
    let next : (a - bit_and a b) / 2 ≡ a / 2 - bit_and (a / 2) (b / 2) = omega (arith, and_le_l a b, and_le_l (a / 2) (b / 2), and_shr a b 1, low) in
    rw (bit_at-suc (a - bit_and a b) i, bit_at-suc a i, bit_at-suc b i, next) (missing-bit i (a / 2) (b / 2))

pub not-missing : (a b i : ℕ) → bit_at (a - bit_and a b) i ≡ 0 → bit_at a i ≡ 1 → bit_at b i ≡ 1
not-missing a b i e f = omega (arith, missing-bit i a b, e, f, bit_at-lt b i)

pub is-missing : (a b i : ℕ) → bit_at (a - bit_and a b) i ≡ 1 → (bit_at a i ≡ 1) × (bit_at b i ≡ 0)
is-missing a b i e = (omega (arith, missing-bit i a b, e, bit_at-lt a i, bit_at-lt b i), omega (arith, missing-bit i a b, e, bit_at-lt a i, bit_at-lt b i))

present-passed : (k n r a v : ℕ) → ((j : ℕ) → j < k → bit_at a j ≡ 1 → bit_at v j ≡ 1) → r + count_ones (a / 2 ^ k) ≡ count_ones a → chosen (word_bits a (k + n)) (word_bits v (k + n)) ≡ replicate r true ++ chosen (word_bits (a / 2 ^ k) n) (word_bits (v / 2 ^ k) n)
unfolding chosen
present-passed zero n r a v full e =
    let b : a / 2 ^ 0 ≡ a = omega arith in
    let c : v / 2 ^ 0 ≡ v = omega arith in
    let count : 0 + n ≡ n = omega arith in
    let none : r ≡ 0 = omega (arith, rw b at e) in
    rw (b, c, count, none) refl
present-passed (suc k) n r a v full e =
    let count : suc k + n ≡ suc (k + n) = omega arith in
    let step : suc k ≡ 1 + k = omega arith in
    let b : a / 2 ^ suc k ≡ a / 2 / 2 ^ k = ap (λ (m : ℕ). a / 2 ^ m) step ∙ sym (shr-shr a 1 k) in
    let c : v / 2 ^ suc k ≡ v / 2 / 2 ^ k = ap (λ (m : ℕ). v / 2 ^ m) step ∙ sym (shr-shr v 1 k) in
    let others = λ (s : ℕ) (f : s + count_ones (a / 2 / 2 ^ k) ≡ count_ones (a / 2)). present-passed k n s (a / 2) (v / 2) (λ j h p. sym (bit_at-suc v j) ∙ full (suc j) (omega (arith, h)) (bit_at-suc a j ∙ p)) f in
    let most : count_ones (a / 2 / 2 ^ k) ≤ count_ones (a / 2) = ones-behind k (a / 2) in
    rw (count, b, c) (by (a % 2) refl (omega arith) r (rw b at e) most others)
  where
    by : (low : ℕ) → a % 2 ≡ low → low < 2 → (r : ℕ) → r + count_ones (a / 2 / 2 ^ k) ≡ count_ones a → count_ones (a / 2 / 2 ^ k) ≤ count_ones (a / 2) → ((s : ℕ) → s + count_ones (a / 2 / 2 ^ k) ≡ count_ones (a / 2) → chosen (word_bits (a / 2) (k + n)) (word_bits (v / 2) (k + n)) ≡ replicate s true ++ chosen (word_bits (a / 2 / 2 ^ k) n) (word_bits (v / 2 / 2 ^ k) n)) → cond (a % 2 == 1) ((v % 2 == 1) ∷ chosen (word_bits (a / 2) (k + n)) (word_bits (v / 2) (k + n))) (chosen (word_bits (a / 2) (k + n)) (word_bits (v / 2) (k + n))) ≡ replicate r true ++ chosen (word_bits (a / 2 / 2 ^ k) n) (word_bits (v / 2 / 2 ^ k) n)
    by zero l h r e most others = rw l (others r (omega (arith, e, l, ones_step a)))
    by (suc zero) l h zero e most others = absurd (omega (arith, e, l, ones_step a, most))
    by (suc zero) l h (suc r) e most others =
        let there : v % 2 ≡ 1 = sym (bit_at_lowest v) ∙ full 0 (omega arith) (bit_at_lowest a ∙ l) in
        rw (l, there) (ap (λ (bs : List Bool). true ∷ bs) (others r (omega (arith, e, l, ones_step a))))
    by (suc (suc low)) l h r e most others = absurd (omega (arith, h))

-- a set bit taken away
pub bit-within : (w n : ℕ) (front bs : List Bool) → word_bits w n ≡ front ++ true ∷ bs → 2 ^ length front ≤ w
bit-within w zero [] bs e = absurd (omega (arith, ap length e))
bit-within w zero (a ∷ front) bs e = absurd (omega (arith, ap length e))
bit-within w (suc n) [] bs e = by (w % 2) refl (heads _ _ _ _ e)
  where
    by : (low : ℕ) → w % 2 ≡ low → (low == 1) ≡ true → 2 ^ length {A = Bool} [] ≤ w
    by zero l f = absurd (true≢false (sym f))
    by (suc low) l f = omega (arith, l)
bit-within w (suc n) (a ∷ front) bs e =
    let half : 2 ^ length front ≤ w / 2 = bit-within (w / 2) n front bs (tails _ _ _ _ e) in
    let p : 2 ^ suc (length front) ≡ 2 ^ length front * 2 = pow-suc 2 (length front) in
    omega (arith, half, p)

pub bit-cleared : (w n : ℕ) (front bs : List Bool) → word_bits w n ≡ front ++ true ∷ bs → word_bits (w - 2 ^ length front) n ≡ front ++ false ∷ bs
bit-cleared w zero [] bs e = absurd (omega (arith, ap length e))
bit-cleared w zero (a ∷ front) bs e = absurd (omega (arith, ap length e))
bit-cleared w (suc n) [] bs e = by (w % 2) refl (omega arith) (heads _ _ _ _ e) (tails _ _ _ _ e)
  where
    by : (low : ℕ) → w % 2 ≡ low → low < 2 → (low == 1) ≡ true → word_bits (w / 2) n ≡ bs → word_bits (w - 1) (suc n) ≡ false ∷ bs
    by zero l h f rest = absurd (true≢false (sym f))
    by (suc low) l h f rest =
        let even : (w - 1) % 2 ≡ 0 = omega (arith, l, h) in
        let half : (w - 1) / 2 ≡ w / 2 = omega (arith, l, h) in
        rw (even, half) (ap (λ (cs : List Bool). false ∷ cs) rest)
bit-cleared w (suc n) (a ∷ front) bs e =
    let within : 2 ^ length front ≤ w / 2 = bit-within (w / 2) n front bs (tails _ _ _ _ e) in
    let p : 2 ^ suc (length front) ≡ 2 ^ length front * 2 = pow-suc 2 (length front) in
    let low : (w - 2 ^ suc (length front)) % 2 ≡ w % 2 = omega (arith, within, p) in
    let half : (w - 2 ^ suc (length front)) / 2 ≡ w / 2 - 2 ^ length front = omega (arith, within, p) in
    rw (low, half) (cons-bits (heads _ _ _ _ e) (bit-cleared (w / 2) n front bs (tails _ _ _ _ e)))
  where
    cons-bits : {b c : Bool} → {xs ys : List Bool} → b ≡ c → xs ≡ ys → b ∷ xs ≡ c ∷ ys
    cons-bits f g = rw (f, g) refl

more-copies : (r n : ℕ) → replicate (r + suc n) true ≡ replicate r true ++ true ∷ replicate n true
more-copies zero n = let e : 0 + suc n ≡ suc n = omega arith in rw e refl
more-copies (suc r) n = let e : suc r + suc n ≡ suc (r + suc n) = omega arith in rw e (ap (λ (bs : List Bool). true ∷ bs) (more-copies r n))

-- what was picked, and what is left of which all may be there
pub record IsPicking (every : List Bool) (pushed there left word : ℕ) : Type 0 where
  pub at : AreLeft (pushed - bit_and pushed there) left
  pub taken : List Bool
  pub word_is : word_bits word (count_ones pushed) ≡ taken ++ replicate (count_ones (pushed / 2 ^ at.i)) true
  pub bits_are : taken ++ chosen (word_bits (pushed / 2 ^ at.i) (64 - at.i)) (word_bits (there / 2 ^ at.i) (64 - at.i)) ≡ every
  pub size : length taken + count_ones (pushed / 2 ^ at.i) ≡ count_ones pushed

pub picking-none : (pushed there : ℕ) → pushed < 2 ^ 64 → IsPicking (chosen (word_bits pushed 64) (word_bits there 64)) pushed there (pushed - bit_and pushed there) (2 ^ 64 - 1)
unfolding all-left
picking-none pushed there h =
    let a : pushed / 2 ^ 0 ≡ pushed = omega arith in
    let b : there / 2 ^ 0 ≡ there = omega arith in
    record {
      at = all-left (pushed - bit_and pushed there);
      taken = [];
      word_is = rw a (ones_word (count_ones pushed) (ones-of-word pushed h));
      bits_are = rw (a, b) refl;
      size = rw a (omega arith);
    }

module _ (every : List Bool) (pushed there left word t : ℕ) (some : 0 < left) (fits : left < 2 ^ 64) (at : t ≡ trailing_zeros w64 left) (p : IsPicking every pushed there left word) where
  all : ℕ
  all = pushed - bit_and pushed there

  gap : ℕ
  gap = t - p.at.i

  from : (w : ℕ) → w / 2 ^ p.at.i / 2 ^ gap ≡ w / 2 ^ t
  unfolding gap all
  from w = behind all left t some fits at p.at w

  lacks : (bit_at pushed t ≡ 1) × (bit_at there t ≡ 0)
  unfolding all
  lacks = is-missing pushed there t (odd all left t some fits at p.at)

  full : (j : ℕ) → j < gap → bit_at (pushed / 2 ^ p.at.i) j ≡ 1 → bit_at (there / 2 ^ p.at.i) j ≡ 1
  unfolding all gap
  full j h e = bit-shifted there p.at.i j ∙ not-missing pushed there (p.at.i + j) (sym (bit-shifted all p.at.i j) ∙ zeros all left t some fits at p.at j h) (sym (bit-shifted pushed p.at.i j) ∙ e)

  -- how many are there before the next that is not
  before : ℕ
  before = count_ones (pushed / 2 ^ p.at.i) - count_ones (pushed / 2 ^ t)

  before-is : before + count_ones (pushed / 2 ^ t) ≡ count_ones (pushed / 2 ^ p.at.i)
  unfolding before
  before-is = omega (arith, ap count_ones (from pushed), ones-behind gap (pushed / 2 ^ p.at.i))

  one-fewer : count_ones (pushed / 2 ^ t) ≡ suc (count_ones (pushed / 2 ^ (t + 1)))
  one-fewer = omega (arith, ones_step (pushed / 2 ^ t), lacks.0, ap count_ones (next-behind pushed t))

  word-here : word_bits word (count_ones pushed) ≡ (p.taken ++ replicate before true) ++ true ∷ replicate (count_ones (pushed / 2 ^ (t + 1))) true
  word-here =
      let e : count_ones (pushed / 2 ^ p.at.i) ≡ before + suc (count_ones (pushed / 2 ^ (t + 1))) = omega (arith, before-is, one-fewer) in
      p.word_is ∙ (ap (λ (k : ℕ). p.taken ++ replicate k true) e ∙ (ap (λ (bs : List Bool). p.taken ++ bs) (more-copies before (count_ones (pushed / 2 ^ (t + 1)))) ∙ sym (append_assoc p.taken (replicate before true) (true ∷ replicate (count_ones (pushed / 2 ^ (t + 1))) true))))

  chosen-here : chosen (word_bits (pushed / 2 ^ p.at.i) (64 - p.at.i)) (word_bits (there / 2 ^ p.at.i) (64 - p.at.i)) ≡ replicate before true ++ false ∷ chosen (word_bits (pushed / 2 ^ (t + 1)) (64 - (t + 1))) (word_bits (there / 2 ^ (t + 1)) (64 - (t + 1)))
  unfolding gap all
  chosen-here =
      let n : ℕ = 64 - (t + 1) in
      let split : 64 - p.at.i ≡ gap + suc n = omega (arith, over all left t some fits at p.at, inside all left t some fits at p.at) in
      let sum : before + count_ones (pushed / 2 ^ p.at.i / 2 ^ gap) ≡ count_ones (pushed / 2 ^ p.at.i) = rw (from pushed) before-is in
      let none : (there / 2 ^ t % 2 == 1) ≡ false = rw lacks.1 refl in
      ap (λ (k : ℕ). chosen (word_bits (pushed / 2 ^ p.at.i) k) (word_bits (there / 2 ^ p.at.i) k)) split
      ∙ (present-passed gap (suc n) before (pushed / 2 ^ p.at.i) (there / 2 ^ p.at.i) full sum
      ∙ ap (λ (bs : List Bool). replicate before true ++ bs) (rw (from pushed, from there, ← next-behind pushed t, ← next-behind there t, ← none) (chosen-taken n (pushed / 2 ^ t) (there / 2 ^ t) lacks.0)))

  rank-is : length (p.taken ++ replicate before true) ≡ count_ones pushed - count_ones (pushed / 2 ^ t)
  rank-is = omega (arith, length-append p.taken (replicate before true), length-replicate before true, p.size, before-is)

  pub pick-within : count_ones (pushed / 2 ^ t) ≤ count_ones pushed
  pick-within = ones-behind t pushed

  pub pick-some : 0 < count_ones (pushed / 2 ^ t)
  pick-some = omega (arith, one-fewer)

  pub pick-set : 2 ^ (count_ones pushed - count_ones (pushed / 2 ^ t)) ≤ word
  pick-set = rw (← rank-is) (bit-within word (count_ones pushed) (p.taken ++ replicate before true) (replicate (count_ones (pushed / 2 ^ (t + 1))) true) word-here)

  pub pick-next : (word' : ℕ) → word' ≡ word - 2 ^ (count_ones pushed - count_ones (pushed / 2 ^ t)) → IsPicking every pushed there (bit_and left (left - 1)) word'
  unfolding left-next all
  pick-next word' w =
      let front : List Bool = p.taken ++ replicate before true in
      let left-ones : ℕ = count_ones (pushed / 2 ^ (t + 1)) in
      let rest : List Bool = chosen (word_bits (pushed / 2 ^ (t + 1)) (64 - (t + 1))) (word_bits (there / 2 ^ (t + 1)) (64 - (t + 1))) in
      let is : word' ≡ word - 2 ^ length front = w ∙ ap (λ (k : ℕ). word - 2 ^ k) (sym rank-is) in
      record {
        at = left-next all left t some fits at p.at;
        taken = front ++ false ∷ [];
        word_is = ap (λ (k : ℕ). word_bits k (count_ones pushed)) is ∙ (bit-cleared word (count_ones pushed) front (replicate left-ones true) word-here ∙ sym (append_assoc front (false ∷ []) (replicate left-ones true)));
        bits_are = append_assoc front (false ∷ []) rest ∙ (append_assoc p.taken (replicate before true) (false ∷ rest) ∙ (ap (λ (bs : List Bool). p.taken ++ bs) (sym chosen-here) ∙ p.bits_are));
        size = omega (arith, length-append front (false ∷ []), rank-is, one-fewer, pick-within);
      }

pub picking-done : (every : List Bool) (pushed there left word : ℕ) → pushed < 2 ^ 64 → left ≡ 0 → IsPicking every pushed there left word → word_bits word (count_ones pushed) ≡ every
unfolding chosen
picking-done every pushed there left word h z p =
    let gone : (pushed - bit_and pushed there) / 2 ^ p.at.i ≡ 0 = none-left (pushed - bit_and pushed there) left z p.at in
    let size : 64 - p.at.i ≡ 64 - p.at.i + 0 = omega arith in
    let top : pushed / 2 ^ p.at.i / 2 ^ (64 - p.at.i) ≡ 0 = shr-shr pushed p.at.i (64 - p.at.i) ∙ (ap (λ (k : ℕ). pushed / 2 ^ k) (let s : p.at.i + (64 - p.at.i) ≡ 64 = omega (arith, p.at.few) in s) ∙ omega (arith, h)) in
    let sum : count_ones (pushed / 2 ^ p.at.i) + count_ones (pushed / 2 ^ p.at.i / 2 ^ (64 - p.at.i)) ≡ count_ones (pushed / 2 ^ p.at.i) = omega (arith, ap count_ones top, ones_le_self 0) in
    let whole = present-passed (64 - p.at.i) 0 (count_ones (pushed / 2 ^ p.at.i)) (pushed / 2 ^ p.at.i) (there / 2 ^ p.at.i) (λ j l e. bit-shifted there p.at.i j ∙ not-missing pushed there (p.at.i + j) (sym (bit-shifted (pushed - bit_and pushed there) p.at.i j) ∙ (ap (λ (k : ℕ). bit_at k j) gone ∙ bit_at-zero j)) (sym (bit-shifted pushed p.at.i j) ∙ e)) sum in
    let all : chosen (word_bits (pushed / 2 ^ p.at.i) (64 - p.at.i)) (word_bits (there / 2 ^ p.at.i) (64 - p.at.i)) ≡ replicate (count_ones (pushed / 2 ^ p.at.i)) true = ap (λ (k : ℕ). chosen (word_bits (pushed / 2 ^ p.at.i) k) (word_bits (there / 2 ^ p.at.i) k)) size ∙ (whole ∙ append-nil (replicate (count_ones (pushed / 2 ^ p.at.i)) true)) in
    p.word_is ∙ (ap (λ (bs : List Bool). p.taken ++ bs) (sym all) ∙ p.bits_are)

-- ---- where all push
chosen-all : (n : ℕ) (vs : List Bool) → length vs ≡ n → chosen (replicate n true) vs ≡ vs
unfolding chosen
chosen-all zero [] e = refl
chosen-all zero (v ∷ vs) e = absurd (omega (arith, e))
chosen-all (suc n) [] e = absurd (omega (arith, e))
chosen-all (suc n) (v ∷ vs) e = ap (λ (bs : List Bool). v ∷ bs) (chosen-all n vs (omega (arith, e)))

-- a word of 64 set bits has 64
ones-full : (n : ℕ) → count_ones (2 ^ n - 1) ≡ n
ones-full zero = omega (arith, ones_le_self (2 ^ 0 - 1))
ones-full (suc n) =
    let p : 2 ^ suc n ≡ 2 ^ n * 2 = pow-suc 2 n in
    let some : 0 < 2 ^ n = pow_pos n in
    let low : (2 ^ suc n - 1) % 2 ≡ 1 = omega (arith, p, some) in
    let high : (2 ^ suc n - 1) / 2 ≡ 2 ^ n - 1 = omega (arith, p, some) in
    omega (arith, ones_step (2 ^ suc n - 1), low, ap count_ones high, ones-full n)

pub picked-all : (pushed there : ℕ) → pushed ≡ 2 ^ 64 - 1 → word_bits there (count_ones pushed) ≡ chosen (word_bits pushed 64) (word_bits there 64)
picked-all pushed there e =
    let size : count_ones pushed ≡ 64 = ap count_ones e ∙ ones-full 64 in
    let all : word_bits pushed 64 ≡ replicate 64 true = ap (λ (k : ℕ). word_bits k 64) e ∙ ones_word 64 (omega arith) in
    ap (word_bits there) size ∙ sym (ap (λ (bs : List Bool). chosen bs (word_bits there 64)) all ∙ chosen-all 64 (word_bits there 64) (length-word there 64))
