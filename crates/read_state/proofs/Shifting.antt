-- A list's places, taken from the set bits of a word that is shifted down to the next one.
use Rattle.std.proofs.Common.{◌≡◌, ℕ, suc, ◌+◌, ◌-◌, ◌/◌, ◌%◌, ◌^◌, ◌<◌, ◌≤◌, Bool, false, count_ones, inl, inr, List, [], ◌∷◌, ◌++◌, replicate, refl, arith, ap, sym, ◌∙◌, append_assoc, append-nil}
use Rattle.std.specs.Int.{bit_at, w64, trailing_zeros}
use Rattle.std.proofs.lemmas.Bool.{cases_lt}
use Rattle.std.proofs.lemmas.Nat.{shr-shr, shr_below, shr_le}
use lib.Count.{ones_step}
use Rattle.std.proofs.lemmas.Nat.Bits.{bit_at-trailing_zeros}
use Rattle.columns_core.specs.Bits.{word_bits}
use Rattle.columns_core.proofs.Words.{zeros_word}
use Rattle.read_state.specs.Reach.{places}
use Rattle.read_state.proofs.Picking.{places-none, places-passed, places-taken, ones-behind, zero-shifted}

-- a set bit lies below a bound of the word
bit-below : (w n t : ℕ) → w < 2 ^ n → bit_at w t ≡ 1 → t < n
bit-below w n t h one = elim (cases_lt t n) [
  | inl l ↦ l
  | inr l ↦
      let size : 0 + n ≡ n = omega arith in
      let gone : w / 2 ^ n ≡ 0 = omega (arith, shr_below w 0 n (rw size h)) in
      let place : t ≡ n + (t - n) = omega (arith, l) in
      let none : w / 2 ^ t ≡ 0 = ap (λ (k : ℕ). w / 2 ^ k) place ∙ (sym (shr-shr w n (t - n)) ∙ (ap (λ (k : ℕ). k / 2 ^ (t - n)) gone ∙ zero-shifted (t - n))) in
      absurd (omega (arith, sym one ∙ ap (λ (k : ℕ). k % 2) none))
]

-- the places that were pushed, and those of the bits that are left
pub record IsShifting (end : ℕ) (all starts : List ℕ) (left above len cap : ℕ) : Type 0 where
  pub n : ℕ
  pub few : n ≤ 64
  pub below : left < 2 ^ n
  pub place : ℕ
  pub ends : place + count_ones above ≡ end
  pub starts_are : starts ++ places place (word_bits left n) (word_bits above n) ≡ all
  pub room : len + n ≤ cap

pub shifting-none : (first end : ℕ) (starts : List ℕ) (pushed grown len cap : ℕ) → pushed < 2 ^ 64 → end ≡ first + count_ones grown → len + 64 ≤ cap → IsShifting end (starts ++ places first (word_bits pushed 64) (word_bits grown 64)) starts pushed grown len cap
shifting-none first end starts pushed grown len cap fits e room = record {
  n = 64;
  few = omega arith;
  below = fits;
  place = first;
  ends = sym e;
  starts_are = refl;
  room = room;
}

module _ (end : ℕ) (all starts : List ℕ) (left above len cap t : ℕ) (some : 0 < left) (fits : left < 2 ^ 64) (at : t ≡ trailing_zeros w64 left) (p : IsShifting end all starts left above len cap) where
  lowest : bit_at left t ≡ 1
  lowest = rw at ((bit_at-trailing_zeros w64 left some fits).1)

  clear : (j : ℕ) → j < t → bit_at left j ≡ 0
  clear j h = (bit_at-trailing_zeros w64 left some fits).2 j (rw at at h)

  pub inside : t < p.n
  inside = bit-below left p.n t p.below lowest

  -- what comes before a place is not behind it
  pub shift-within : count_ones (above / 2 ^ t) ≤ end
  shift-within = omega (arith, ones-behind t above, p.ends)

  pub shift-room : len < cap
  shift-room = omega (arith, p.room, inside)

  pub shift-next : (starts' : List ℕ) (len' cap' : ℕ) → starts' ≡ starts ++ (end - count_ones (above / 2 ^ t)) ∷ [] → len' ≤ len + 1 → cap ≤ cap' → IsShifting end all starts' (left / 2 ^ t / 2) (above / 2 ^ t / 2) len' cap'
  shift-next starts' len' cap' s l k =
      let here : ℕ = end - count_ones (above / 2 ^ t) in
      let m : ℕ = p.n - (t + 1) in
      let split : p.n ≡ t + suc m = omega (arith, inside) in
      let sum : here + count_ones (above / 2 ^ t) ≡ p.place + count_ones above = omega (arith, shift-within, p.ends) in
      let rest : List ℕ = places (here + above / 2 ^ t % 2) (word_bits (left / 2 ^ t / 2) m) (word_bits (above / 2 ^ t / 2) m) in
      let on : places p.place (word_bits left p.n) (word_bits above p.n) ≡ here ∷ rest = ap (λ (k : ℕ). places p.place (word_bits left k) (word_bits above k)) split ∙ (places-passed t (suc m) p.place here left above clear sum ∙ places-taken m here (left / 2 ^ t) (above / 2 ^ t) lowest) in
      let size : p.n ≡ suc m + t = omega (arith, inside) in
      let below : left / 2 ^ t < 2 ^ suc m = shr_below left (suc m) t (rw size at p.below) in
      record {
        n = m;
        few = omega (arith, p.few);
        below = shr_below (left / 2 ^ t) m 1 (let one : m + 1 ≡ suc m = omega arith in rw one below);
        place = here + above / 2 ^ t % 2;
        ends = omega (arith, shift-within, ones_step (above / 2 ^ t));
        starts_are = ap (λ (xs : List ℕ). xs ++ rest) s ∙ (append_assoc starts (here ∷ []) rest ∙ (ap (λ (xs : List ℕ). starts ++ xs) (sym on) ∙ p.starts_are));
        room = omega (arith, p.room, l, k, inside);
      }

  pub shift-less : left / 2 ^ t / 2 < left
  shift-less = omega (arith, some, shr_le left t)

pub shifting-done : (end : ℕ) (all starts : List ℕ) (left above len cap : ℕ) → left ≡ 0 → IsShifting end all starts left above len cap → starts ≡ all
shifting-done end all starts left above len cap z p =
    let none : word_bits left p.n ≡ replicate p.n false = ap (λ (k : ℕ). word_bits k p.n) z ∙ zeros_word p.n in
    sym (append-nil starts) ∙ (ap (λ (xs : List ℕ). starts ++ xs) (sym (ap (λ (bs : List Bool). places p.place bs (word_bits above p.n)) none ∙ places-none p.n p.place (word_bits above p.n))) ∙ p.starts_are)
