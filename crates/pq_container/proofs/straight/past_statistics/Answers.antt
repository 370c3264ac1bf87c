use Rattle.std.proofs.Common.{ℕ, ◌∷◌, ◌∙◌, ap}
use Rattle.std.proofs.lemmas.Option.{IfSome_then}
use Rattle.pq_container.proofs.Fronts.{some_last}
use Rattle.pq_container.proofs.straight.past_statistics.Goals as goal

pub returns : goal.returns
returns c =
    let front = c.in_ok-head.ensures ∙ ap (λ (b : ℕ). b ∷ c.in_ok-head.rest.now) c.if-head-ne28.false in
    IfSome_then c.behind.result c.behind.ensures (λ rest z. some_last c.args.bytes.now c.in_ok-head.rest.now c.in_ok-rest.rest.now rest.now front c.in_ok-rest.ensures z)
