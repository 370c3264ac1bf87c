use Rattle.std.proofs.Common.{ℕ, ◌∷◌, List, sym, ap, ap₂, ◌∙◌, inl, inr}
use Rattle.pq_pages.specs.declared.place.Place.{Place}
use Rattle.pq_pages.specs.Outcomes.{Outcome}
use Rattle.pq_tree.specs.Views.{typed_view}
use Rattle.pq_pages.specs.Reading.{outcome_in, pages_in}
use Rattle.pq_pages.proofs.Named.{named}
use Rattle.pq_pages.proofs.Steps.{stepped, not_next, not_placed}
use Rattle.pq_pages.proofs.reader.find_page.Goals as goal

pub returns-in-Err-clause-refused : goal.returns-in-Err-clause-refused
returns-in-Err-clause-refused c =
    elim c.in-Err.ensures.refused [
      | inl m ↦ inl m
      | inr e ↦ inr (λ levels. not_next c.args.max_header_size levels c.args.place c.args.left c.args.bytes.now c.in-Err.error c.requires.some e)
    ]

pub returns-in-Some-clause-refused : goal.returns-in-Some-clause-refused
returns-in-Some-clause-refused c =
    inr (λ levels. not_placed c.args.max_header_size levels c.args.place c.args.left c.args.bytes.now _ _ c.in-Some.error c.requires.some c.in-Ok.ensures.ok (sym c.in-Some.ensures))

pub returns-clause-named : goal.returns-clause-named
returns-clause-named c = named c.args.place c.args.left c.in-Ok.raw.header (sym c.in_default.ensures)

pub returns-clause-ok : goal.returns-clause-ok
returns-clause-ok c = λ levels.
    stepped c.args.max_header_size levels c.args.place c.args.left c.args.bytes.now _ _ c.requires.some c.in-Ok.ensures.ok (sym c.in_default.ensures)
    ∙ ap (λ (os : List Outcome). outcome_in levels (typed_view c.in-Ok.raw.header) c.in-Ok.raw.body.now ∷ os)
    (ap₂ (λ (place : Place) (left : ℕ). pages_in c.args.max_header_size levels place left c.in-Ok.raw.behind.now) (sym c.place_of-place.ensures) (sym c.left_of-left.ensures))
