-- Worked examples.
use Rattle.std.proofs.Common.{ℕ, ◌+◌, ◌*◌, ◌^◌, ◌<◌, ◌≤◌, [], ◌∷◌, refl, inl, inr, arith}
use Rattle.pq_numbers.specs.Bits.{IsWidth}
use Rattle.pq_numbers.specs.Examples.{AreWorked}
use Rattle.pq_numbers.specs.Varint.{IsNumber, varint_up_to, digits}
use Rattle.pq_numbers.proofs.Bytes.{width-least}

-- a number of one byte
pub one_byte : (n : ℕ) → n < 128 → IsNumber (n ∷ []) n
one_byte n h = record { digits = inl (h, refl, refl); short = omega arith; below = omega (arith, h) }

cut_is_none : (n : ℕ) → IsNumber (172 ∷ []) n → ⊥
cut_is_none n h = elim h.digits [ inl p ↦ omega (arith, p.0) | inr p ↦ p.3 ]

is_width : (max w : ℕ) → max < 2 ^ w → 2 ^ w ≤ 2 * max + 1 → IsWidth max w
is_width max w h le = record { holds = h; least = λ v lt. width-least max w v le lt }

pub are_worked : AreWorked
unfolding varint_up_to digits
are_worked = record {
  spelled = record { digits = inr (omega arith, 2, refl, inl (omega arith, refl, refl)); short = omega arith; below = omega arith };
  padded = record { digits = inr (omega arith, 2, refl, inr (omega arith, 0, refl, inl (omega arith, refl, refl))); short = omega arith; below = omega arith };
  read = refl;
  written = refl;
  cut = cut_is_none;
  unread = refl;
  long = refl;
  large = refl;
  zero_up = (refl, refl, refl, refl);
  back = (refl, refl, refl, refl);
  signed = record { n = 3; number = one_byte 3 (omega arith); fits = omega arith; is = refl };
  little = refl;
  packed = refl;
  sixth = refl;
  no_bits = refl;
  sizes = (refl, refl, refl, refl);
  widths = (is_width 0 0 (omega arith) (omega arith), is_width 1 1 (omega arith) (omega arith), is_width 255 8 (omega arith) (omega arith), is_width 256 9 (omega arith) (omega arith));
  too_wide = λ h. let p : 9 ≤ 8 = h.least 8 (omega arith) in omega (arith, p);
}
