use Rattle.std.proofs.Common.{◌<◌, ◌/◌, ◌^◌, ◌∙◌, ap, arith, w64, ℕ}
use Rattle.std.specs.Int.{bit_at, trailing_zeros}
use Rattle.std.proofs.lemmas.Nat.Bits.{bit_at-zero, bit_at-trailing_zeros}
use Rattle.pq_runs.proofs.BitNumbers.{alike_bits, first_same}
use Rattle.pq_runs.proofs.words.stretch_end.Goals as goal

pub returns-then-others-eq0-clause-alike : goal.returns-then-others-eq0-clause-alike
returns-then-others-eq0-clause-alike c =
    alike_bits c.args.word c.others_of-others.result c.args.at c.args.count (omega (arith, c.requires.few)) c.others_of-others.ensures (λ j h. ap (λ (w : ℕ). bit_at w j) c.if-others-eq0.true ∙ bit_at-zero j)

pub returns-clause-after : goal.returns-clause-after
returns-clause-after c =
    let others = c.others_of-others.result in
    let t = bit_at-trailing_zeros w64 others (omega (arith, c.if-others-eq0.false)) c.others_of-others.type_inv in
    let some : 0 < trailing_zeros w64 others = first_same (c.args.word / 2 ^ c.args.at) others (trailing_zeros w64 others) (c.others_of-others.ensures 0 (omega arith)) t.1 in
    omega (arith, c.min.ensures, some, c.requires.some)

pub returns-clause-alike : goal.returns-clause-alike
returns-clause-alike c =
    let others = c.others_of-others.result in
    let t = bit_at-trailing_zeros w64 others (omega (arith, c.if-others-eq0.false)) c.others_of-others.type_inv in
    alike_bits c.args.word others c.args.at c.min.result (omega (arith, c.min.ensures, c.requires.few)) c.others_of-others.ensures (λ j h. t.2 j (omega (arith, h, c.min.ensures)))
