-- How many pairs of a block push to a part that only counts them, by the set bits of a word.
use Rattle.std.proofs.Common.{◌≡◌, ℕ, zero, suc, ◌+◌, ◌/◌, ◌%◌, ◌^◌, ◌<◌, ◌==◌, Bool, cond, None, List, [], ◌∷◌, length, arith, ap, sym, ◌∙◌}
use Rattle.std.proofs.Common.{count_ones}
use Rattle.std.proofs.lemmas.Nat.{ones_le_self}
use lib.Count.{ones_step}
use Rattle.columns_core.specs.Bits.{word_bits}
use Rattle.read_laws.specs.State.{Kept, kept_leaf, kept_struct}
use Rattle.read_laws.specs.Step.{bit, pushed, growth, is_there}
use Rattle.read_laws.specs.Block.{Mark, marks_part, grows_by, pushed_all}
use Rattle.std.proofs.Common.{map}
use Rattle.read_state.proofs.Blocks.{leaf-cond, struct-cond}
use Rattle.read_state.proofs.Compared.{heads, tails, bit-of}

-- what keeps only how many push to it
module _ (part : ℕ → Kept) (one : (p : Bool) (x place g : ℕ) (v : Bool) → cond p (pushed (part x) place g v 1) (part x) ≡ part (x + bit p)) where
  counted : (n w : ℕ) (ms : List Mark) (c place depth def : ℕ) → w < 2 ^ n → word_bits w n ≡ map (marks_part depth def) ms → pushed_all (part c) place depth def ms ≡ part (c + count_ones w)
  counted zero w [] c place depth def h e =
      let z : c ≡ c + count_ones w = omega (arith, ones_le_self w, h) in
      ap part z
  counted zero w (m ∷ ms) c place depth def h e = absurd (omega (arith, ap length e))
  counted (suc n) w [] c place depth def h e = absurd (omega (arith, ap length e))
  counted (suc n) w (m ∷ ms) c place depth def h e =
      let p : Bool = marks_part depth def m in
      let g : ℕ = grows_by (part c) depth def m in
      let here : (w % 2 == 1) ≡ p = heads _ _ _ _ e in
      let low : bit p ≡ w % 2 = ap bit (sym here) ∙ bit-of (w % 2) (omega arith) in
      let sum : c + bit p + count_ones (w / 2) ≡ c + count_ones w = omega (arith, low, ones_step w) in
      let rest = counted n (w / 2) ms (c + bit p) (place + g) depth def (omega (arith, h)) (tails _ _ _ _ e) in
      ap (λ (k : Kept). pushed_all k (place + g) depth def ms) (one p c place (growth m.repetition m.definition (part c) depth def) (is_there (part c) m.definition def)) ∙ (rest ∙ ap part sum)

pub leaf-counted : (nullable : Bool) (w : ℕ) (ms : List Mark) (c place depth def : ℕ) → w < 2 ^ 64 → word_bits w 64 ≡ map (marks_part depth def) ms → pushed_all (kept_leaf nullable c) place depth def ms ≡ kept_leaf nullable (c + count_ones w)
leaf-counted nullable w ms c place depth def h e = counted (kept_leaf nullable) (λ p x place' g v. leaf-cond p nullable x) 64 w ms c place depth def h e

pub struct-counted : (w : ℕ) (ms : List Mark) (c place depth def : ℕ) → w < 2 ^ 64 → word_bits w 64 ≡ map (marks_part depth def) ms → pushed_all (kept_struct None c) place depth def ms ≡ kept_struct None (c + count_ones w)
struct-counted w ms c place depth def h e = counted (kept_struct None) (λ p x place' g v. struct-cond p x) 64 w ms c place depth def h e
