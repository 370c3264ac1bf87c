use Rattle.std.proofs.Common.{◌≡◌, ◌∙◌, ℕ, Option, Some, ap, inl, inr, arith}
use Rattle.joined_statistics.proofs.Texts.{twice_32, twice_64, unsigned_text}
use Rattle.joined_statistics.proofs.numbers.unsigned_number.Goals as goal

pub returns-in-Some : goal.returns-in-Some
returns-in-Some c = λ p w n h.
    elim (unsigned_text p w n c.args.text.now h) [
      | inl e ↦ absurd (omega (arith, e.1, c.if-text-ge8.true))
      | inr e ↦ ap (λ (m : ℕ). Some m) (c.cast_unsigned.ensures ∙ twice_64 n c.in-Some.number _ e.0 c.in-Some.ensures.gives e.2)
    ]

pub returns-in-Some-read_i32_le : goal.returns-in-Some-read_i32_le
returns-in-Some-read_i32_le c = λ p w n h.
    elim (unsigned_text p w n c.args.text.now h) [
      | inl e ↦ ap (λ (m : ℕ). Some m) (c.cast_unsigned-in-Some-read_i32_le.ensures ∙ twice_32 n c.in-Some-read_i32_le.number _ e.0 c.in-Some-read_i32_le.ensures.gives e.2)
      | inr e ↦ absurd (omega (arith, e.1, c.if-text-ge8.false))
    ]
