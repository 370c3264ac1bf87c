use Rattle.std.proofs.Common.{◌≡◌, inr, ◌++◌, ◌∙◌, List, ℕ, length, refl, ap, subst, arith}
use Rattle.std.specs.Io.KnownBytes.{Appends}
use Rattle.std.proofs.KnownBytes.{Appends-trans}
use Rattle.std.proofs.lemmas.List.{length-append}
use Rattle.pq_pages.specs.HeaderValue.{body_of}
use Rattle.write_file.proofs.Headed.{page_some}
use Rattle.write_file.proofs.push.push_headed.Goals as goal

pub returns-clause-ok : goal.returns-clause-ok
returns-clause-ok g c =
    let body = body_of c.args.page in
    let h = c.in_ok-write_page_header.ensures.ok in
    let head : c.write_page_header.new.out.items ≡ h.text = h.parts ∙ ap (λ (t : List ℕ). t ++ h.text) c.new-head.ensures.items in
    let first : Appends (g.W.Sink.taken c.args.sink.now) (g.W.Sink.taken c.push_all.new.sink) h.text = subst (λ (t : List ℕ). Appends (g.W.Sink.taken c.args.sink.now) (g.W.Sink.taken c.push_all.new.sink) t) (c.deref-3.ensures.value ∙ head) c.in_ok-push_all.ensures.ok in
    let second : Appends (g.W.Sink.taken c.push_all.new.sink) (g.W.Sink.taken c.push_owned.new.sink) body = subst (λ (t : List ℕ). Appends (g.W.Sink.taken c.push_all.new.sink) (g.W.Sink.taken c.push_owned.new.sink) t) c.into_body-body.ensures c.in_ok-push_owned.ensures.ok in (
      h.text ++ body,
      Appends-trans _ _ _ h.text body first second,
      omega (arith, c.in-Ok.ensures.ok, ap length (c.deref.ensures.value ∙ head), ap length (c.deref-2.ensures.value ∙ c.into_body-body.ensures), length-append h.text body),
      record { head = h.text; parts = refl; is = h.is },
    )

pub returns-clause-some : goal.returns-clause-some
returns-clause-some g c =
    let body = body_of c.args.page in
    let h = c.in_ok-write_page_header.ensures.ok in
    let head : c.write_page_header.new.out.items ≡ h.text = h.parts ∙ ap (λ (t : List ℕ). t ++ h.text) c.new-head.ensures.items in
    omega (arith, c.in-Ok.ensures.ok, ap length (c.deref.ensures.value ∙ head), ap length (c.deref-2.ensures.value ∙ c.into_body-body.ensures), length-append h.text body, page_some c.args.page (h.text ++ body) (record { head = h.text; parts = refl; is = h.is }))

pub returns-in-Err-clause-refused : goal.returns-in-Err-clause-refused
returns-in-Err-clause-refused g c =
    let body = body_of c.args.page in
    let h = c.in_ok-write_page_header.ensures.ok in
    let head : c.write_page_header.new.out.items ≡ h.text = h.parts ∙ ap (λ (t : List ℕ). t ++ h.text) c.new-head.ensures.items in
    inr (inr (
      c.in-Err.ensures.err.0,
      inr (
        h.text ++ body,
        record { head = h.text; parts = refl; is = h.is },
        omega (arith, c.in-Err.ensures.err.1, ap length (c.deref.ensures.value ∙ head), ap length (c.deref-2.ensures.value ∙ c.into_body-body.ensures), length-append h.text body),
      ),
    ))
