use Rattle.std.proofs.Common.{◌≡◌, ◌+◌, ◌-◌, ◌/◌, ◌^◌, ◌∙◌, ap, arith, ℕ}
use Rattle.std.proofs.lemmas.Nat.{shr-shr}
use Rattle.pq_runs.proofs.words.high_bits.Goals as goal

pub returns : goal.returns
returns c =
    let e : c.args.from - 1 + 1 ≡ c.args.from = omega (arith, c.requires.some) in
    shr-shr c.args.word (c.args.from - 1) 1 ∙ ap (λ (k : ℕ). c.args.word / 2 ^ k) e
