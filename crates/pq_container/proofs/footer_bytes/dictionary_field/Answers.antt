use Rattle.std.proofs.Common.{ℕ, ◌∷◌, ◌∙◌, ap, rules, SFits, w64, to_z-of_z}
use Rattle.pq_container.proofs.FooterFronts.{no_place, some_place}
use Rattle.pq_container.proofs.footer_bytes.dictionary_field.Goals as goal

pub returns-then-head-eq0 : goal.returns-then-head-eq0
returns-then-head-eq0 c = no_place c.args.bytes.now c.in_ok-head.rest.now (c.in_ok-head.ensures ∙ ap (λ (b : ℕ). b ∷ c.in_ok-head.rest.now) c.if-head-eq0.true)

pub returns : goal.returns
returns c =
    let fits : SFits w64 c.in_ok-place.place = search rules in
    simp to_z-of_z (some_place c.in_ok-place.place c.args.bytes.now c.in_ok-place.rest.now c.in_ok-rest.rest.now c.in_ok-place.ensures c.in_ok-rest.ensures)
