use Rattle.std.proofs.Common.{◌++◌, ◌∙◌, ap, arith, List, ℕ}
use Rattle.pq_runs.proofs.BitNumbers.{first_bits}
use Rattle.pq_runs.proofs.block.append_spelled.Goals as goal

pub returns : goal.returns
returns c =
    let is = first_bits c.numbers_of.result c.front.result.now c.args.low c.args.word c.args.count 32 (omega arith) (omega arith) c.requires.few c.front.ensures c.numbers_of.ensures c.requires.low in
    c.append.ensures ∙ ap (λ (t : List ℕ). c.args.others.now ++ t) is
