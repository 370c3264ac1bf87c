use Rattle.std.proofs.Common.{◌++◌, ◌∙◌, ap, take, List, ℕ}
use Rattle.pq_runs.proofs.SpreadBits.{numbers-front}
use Rattle.pq_runs.proofs.block.append_narrow_spelled.Goals as goal

pub returns : goal.returns
returns c =
    let is = c.narrow_front.ensures ∙ (ap (take c.args.count) c.narrow_numbers_of.ensures ∙ numbers-front c.args.low c.args.word c.args.count c.requires.few) in
    c.append.ensures ∙ ap (λ (t : List ℕ). c.args.narrow.now ++ t) is
