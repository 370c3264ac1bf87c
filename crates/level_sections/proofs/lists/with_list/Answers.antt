use Rattle.std.proofs.Common.{◌<◌, ◌∙◌, arith, w64}
use Rattle.std.proofs.lemmas.Nat.Bits.{bit_at_clear_same, bit_at_clear_other}
use Rattle.level_sections.proofs.Repeats.{numbers-more}
use Rattle.level_sections.proofs.lists.with_list.Goals as goal

pub returns-clause-open : goal.returns-clause-open
returns-clause-open c =
    let within : c.args.starts.count < 64 = omega (arith, c.requires.some, c.requires.room) in
    record {
      few = c.requires.room;
      ones = λ i l h. bit_at_clear_other w64 c.args.starts.word c.args.starts.count within i h (λ e. absurd (omega (arith, e, l, c.requires.some))) ∙ c.requires.open.ones i (omega (arith, l)) h;
    }

pub returns-clause-levels : goal.returns-clause-levels
returns-clause-levels c =
    let within : c.args.starts.count < 64 = omega (arith, c.requires.some, c.requires.room) in
    λ depth.
    numbers-more depth c.args.starts.word _ c.args.starts.count c.args.pairs c.requires.some
    (λ i h. bit_at_clear_other w64 c.args.starts.word c.args.starts.count within i (omega (arith, h, within)) (λ e. absurd (omega (arith, e, h))))
    (bit_at_clear_same w64 c.args.starts.word c.args.starts.count within)
    (λ i l h. bit_at_clear_other w64 c.args.starts.word c.args.starts.count within i (omega (arith, h, c.requires.room)) (λ e. absurd (omega (arith, e, l))) ∙ c.requires.open.ones i (omega (arith, l)) (omega (arith, h, c.requires.room)))
