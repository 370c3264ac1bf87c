use Rattle.std.proofs.Common.{◌≡◌, ◌∙◌, ◌∷◌, [], ap, arith, rules, ℤ}
use Rattle.std.proofs.lemmas.List.{take_more_set}
use Rattle.std.specs.Int.{w64, cast_signed}
use Rattle.pq_delta_reads.specs.Blocks.{signed}
use Rattle.pq_delta_reads.proofs.decoder.put_first.Goals as goal

pub returns : goal.returns
returns c =
    let back : cast_signed w64 c.cast_unsigned.result ≡ c.args.number = search rules in
    ap signed (take_more_set c.args.numbers.now 0 c.cast_unsigned.result (omega arith)) ∙ ap (λ (z : ℤ). z ∷ []) back
