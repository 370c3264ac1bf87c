use Rattle.std.proofs.Common.{ℕ, ◌∷◌, ◌∙◌, ap, Some, None}
use Rattle.std.proofs.lemmas.Option.{IfSome_then}
use Rattle.pq_container.proofs.FooterFronts.{no_creator, some_creator}
use Rattle.pq_container.proofs.footer_bytes.created.Goals as goal

pub returns-then-head-eq0 : goal.returns-then-head-eq0
returns-then-head-eq0 c = (None, no_creator c.args.bytes.now c.in_ok-head.rest.now (c.in_ok-head.ensures ∙ ap (λ (b : ℕ). b ∷ c.in_ok-head.rest.now) c.if-head-eq0.true))

pub returns : goal.returns
returns c =
    let front = c.in_ok-head.ensures ∙ ap (λ (b : ℕ). b ∷ c.in_ok-head.rest.now) c.if-head-ne40.false in
    let name = c.in_ok-rest.ensures in
    IfSome_then c.behind.result c.behind.ensures (λ rest z. (Some name.0, some_creator name.0 c.args.bytes.now c.in_ok-head.rest.now c.in_ok-rest.rest.now rest.now front name.1 z))
