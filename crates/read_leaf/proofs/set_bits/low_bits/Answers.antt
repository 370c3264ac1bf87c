use Rattle.std.proofs.Common.{◌≡◌, ◌*◌, ◌%◌, ◌^◌, ℕ, arith, ap, ◌∙◌}
use Rattle.std.proofs.lemmas.Nat.{shl_whole}
use Rattle.columns_core.specs.Bits.{word_bits}
use Rattle.read_leaf.proofs.SetBits.{same-low}
use Rattle.read_leaf.proofs.set_bits.low_bits.Goals as goal

pub returns-else-count-eq64-clause-same : goal.returns-else-count-eq64-clause-same
returns-else-count-eq64-clause-same c =
    let whole : 1 * 2 ^ c.args.count % 2 ^ 64 ≡ 1 * 2 ^ c.args.count = shl_whole 1 1 c.args.count 64 (omega arith) (omega (arith, c.requires, c.if-count-eq64.false)) in
    let one : 1 * 2 ^ c.args.count ≡ 2 ^ c.args.count = omega arith in
    ap (λ (k : ℕ). word_bits (c.args.word % k) c.args.count) (whole ∙ one) ∙ same-low c.args.count c.args.word
