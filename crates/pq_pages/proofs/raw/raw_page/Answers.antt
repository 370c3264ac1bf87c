use Rattle.std.proofs.Common.{List, ℕ, Ok, sym, ap, ap₂, ◌∙◌, inl, inr}
use Rattle.pq_tree.specs.Views.{page_header_view, typed_view}
use Rattle.pq_pages.specs.Headers.{header_at}
use Rattle.pq_pages.proofs.NextPages.{by_error, by_body, by_cut}
use Rattle.pq_pages.proofs.raw.raw_page.Goals as goal

pub returns-in-Err-clause-refused : goal.returns-in-Err-clause-refused
returns-in-Err-clause-refused c =
    elim c.in-Err.ensures.reads [
      | inl m ↦ inl m
      | inr e ↦ inr (by_error c.args.max_header_size c.args.bytes.now c.in-Err.error (ap header_at (sym c.front_of.ensures) ∙ e))
    ]

pub returns-in-Some-clause-ok : goal.returns-in-Some-clause-ok
returns-in-Some-clause-ok c =
    let b = c.in-Some.ensures in
    let h = ap header_at (sym c.front_of.ensures) ∙ c.in-Ok.ensures.reads in
    let n = by_body c.args.max_header_size c.args.bytes.now (page_header_view c.in-Ok.read.0) c.in-Ok.read.1 h b.0 in
    n ∙ ap₂ (λ (x y : List ℕ). Ok (record { header = typed_view c.in-Ok.read.0.header; body = x }, y)) (sym b.1) (sym b.2)

pub returns-in-None-clause-refused : goal.returns-in-None-clause-refused
returns-in-None-clause-refused c =
    let h = ap header_at (sym c.front_of.ensures) ∙ c.in-Ok.ensures.reads in
    inr (by_cut c.args.max_header_size c.args.bytes.now (page_header_view c.in-Ok.read.0) c.in-Ok.read.1 h c.in-None.ensures)
