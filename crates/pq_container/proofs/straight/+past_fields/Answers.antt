use Rattle.std.proofs.Common.{ℕ, ◌∷◌, ◌<◌, ◌≤◌, ◌∙◌, ap, rules, Fits, w8, arith}
use Rattle.std.proofs.lemmas.Int.{ints}
use Rattle.std.proofs.lemmas.Option.{IfSome_then}
use Rattle.pq_container.proofs.Fronts.{ends_here, goes_on}
use Rattle.pq_container.proofs.straight.+past_fields.Goals as goal

pub returns-then-head-eq0 : goal.returns-then-head-eq0
returns-then-head-eq0 t c = ends_here c.args.last 1 c.args.bytes.now c.in_ok-head.rest.now (c.in_ok-head.ensures ∙ ap (λ (b : ℕ). b ∷ c.in_ok-head.rest.now) c.if-head-eq0.true)

pub returns : goal.returns
returns t c =
    let near : c.args.last ≤ 100 = omega (arith, c.if-last-gt100.false) in
    let low : 16 ≤ c.in_ok-head.head = omega (arith, c.if-head-lt16.false) in
    let fits : Fits w8 c.in_ok-head.head = search rules in
    let high : c.in_ok-head.head < 256 = omega (arith, ints, fits) in
    IfSome_then c.past_fields.result c.past_fields.ensures (λ rest f. goes_on c.args.last c.in_ok-head.head c.args.bytes.now c.in_ok-head.rest.now c.in_ok-rest.rest.now rest.now near low high c.in_ok-head.ensures c.in_ok-rest.ensures f)
