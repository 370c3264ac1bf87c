use Rattle.std.proofs.Common.{◌≡◌, ◌∙◌, ap, arith, replicate, sym, ℕ}
use Rattle.pq_runs.proofs.HeldBits.{no_bits, all_bits}
use Rattle.pq_runs.proofs.words.copies_of.Goals as goal

pub returns-then-number-eq0-clause-copies : goal.returns-then-number-eq0-clause-copies
returns-then-number-eq0-clause-copies c = no_bits c.args.count ∙ ap (λ (n : ℕ). replicate c.args.count n) (sym c.if-number-eq0.true)

pub returns-else-number-eq0-clause-copies : goal.returns-else-number-eq0-clause-copies
returns-else-number-eq0-clause-copies c =
    let one : 1 ≡ c.args.number = omega (arith, c.if-number-eq0.false, c.requires.bit) in
    all_bits c.args.count c.requires.few ∙ ap (λ (n : ℕ). replicate c.args.count n) one
