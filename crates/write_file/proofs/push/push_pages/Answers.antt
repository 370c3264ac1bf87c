use Rattle.std.proofs.Common.{inl, inr, ◌∙◌, [], refl, subst, arith, Some}
use Rattle.std.proofs.KnownBytes.{Appends-nil}
use Rattle.std.specs.Prelude.{Result}
use Rattle.columns_base.specs.declared.error.Error.{Error}
use Rattle.pq_pages.specs.DataPages.{DataPageValue}
use Rattle.write_file.proofs.Going.{going_on, counted_as}
use Rattle.write_file.proofs.Passed.{page_passes, sums_pass}
use Rattle.write_file.proofs.Reasons.{last}
use Rattle.write_file.specs.Pages.{GivesNext}
use Rattle.write_file.proofs.push.push_pages.Goals as goal

pub pages-init : goal.pages-init
pages-init g c = record {
  going = λ version leaf k h. record {
    done = [];
    rest = k;
    whole = refl;
    entries = refl;
    still = h;
    text = [];
    gained = Appends-nil _;
    bytes_are = c.zero.ensures;
    pairs_are = c.zero-2.ensures;
    pages_are = c.zero-3.ensures;
    are = refl;
  };
  few = omega (arith, c.zero.ensures, c.zero-3.ensures);
  later = omega arith;
  refusals = λ e h. h;
}

pub pages-preserved : goal.pages-preserved
pages-preserved g c =
    let v = c.pages.invariant in
    let n = c.in-Ok.ensures.ok in
    let s = c.in-Ok-with_page.ensures.ok in
    record {
      going = λ version leaf k h.
          let old = v.going version leaf k h in
          let next = subst (λ (r : Result DataPageValue Error). GivesNext g.P.ChunkPages.gives version leaf old.rest (Some r) c.next_page.new.self) c.in_ok-page.was (c.in-Some.ensures.page version leaf old.rest old.still) in
          let page = n.3 version leaf old.rest.entries next.0 next.3 in
          counted_as _ _ _ _ _ _ _ _ _ _ _ _ _
          (going_on g.P.ChunkPages.gives version leaf k c.pages.pages c.next_page.new.self _ _ _ c.pages.pushed.bytes c.pages.pushed.pairs c.pages.pushed.pages c.in-Ok.next.bytes c.in-Ok.next.pairs next.0 next.1 n.0 old next.2 next.4 n.1 n.2 page.0 page.1)
          s.0 s.1 (s.2 ∙ omega (arith, c.in-Ok.ensures.one));
      few = omega (arith, v.few, s.0, s.2, c.in-Ok.ensures.one, c.in-Ok.ensures.some);
      later = omega (arith, v.later, c.push_page.ensures.later);
      refusals = λ e h. v.refusals e (c.next_page.ensures.later e h);
    }

pub with_page-requires-clause-few : goal.with_page-requires-clause-few
with_page-requires-clause-few g c = c.pages.invariant.few

pub returns-clause-few : goal.returns-clause-few
returns-clause-few g c = c.pages.invariant.few

-- the next page does not fit behind those before
pub returns-in-Err-clause-refused : goal.returns-in-Err-clause-refused
returns-in-Err-clause-refused g c = last (λ h. (
  h.0,
  λ version leaf k dictionary gives has.
      let old = c.pages.invariant.going version leaf k gives in
      let next = subst (λ (r : Result DataPageValue Error). GivesNext g.P.ChunkPages.gives version leaf old.rest (Some r) c.next_page.new.self) c.in_ok-page.was (c.in-Some.ensures.page version leaf old.rest old.still) in
      page_passes g.P.ChunkPages.gives version leaf k _ _ _ _ _ _ next.0 next.1 old next.2 dictionary has (h.1 version leaf old.rest.entries next.0 next.3),
)) c.in-Err.ensures.refused

pub returns-in-Err-with_page-clause-refused : goal.returns-in-Err-with_page-clause-refused
returns-in-Err-with_page-clause-refused g c = inr (inr (inl (
  c.in-Err-with_page.ensures.refused.0,
  λ version leaf k dictionary gives has.
      let old = c.pages.invariant.going version leaf k gives in
      let next = subst (λ (r : Result DataPageValue Error). GivesNext g.P.ChunkPages.gives version leaf old.rest (Some r) c.next_page.new.self) c.in_ok-page.was (c.in-Some.ensures.page version leaf old.rest old.still) in
      let n = c.in-Ok.ensures.ok in
      let page = n.3 version leaf old.rest.entries next.0 next.3 in
      sums_pass g.P.ChunkPages.gives version leaf k _ _ _ _ _ _ _ _ next.0 next.1 n.0 old next.2 dictionary has n.2 page.0 page.1 c.in-Err-with_page.ensures.refused.1,
)))
