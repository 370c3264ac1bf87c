use Rattle.std.proofs.Common.{◌-◌, ◌+◌, ◌<◌, ◌∙◌, List, arith, inl, inr, refl, subst, sym}
use Rattle.leaf_iters.specs.Nulls.{TakenWhile, values_of}
use Rattle.leaf_iters.proofs.Values.{failed_more, none_taken, one_more}
use Rattle.pq_pages.specs.Outcomes.{Outcome}
use Rattle.leaf_iters.proofs.nulls.see_values.Goals as goal

pub pages-init : goal.pages-init
pages-init g c = (
  record { few = c.requires.few; seen = refl; error = refl },
  (c.args.left - c.args.unseen, none_taken c.args.wanted (c.args.left - c.args.unseen) _, omega (arith, c.requires.few)),
)

pub pages-preserved : goal.pages-preserved
pages-preserved g c =
    let old = c.pages.invariant in
    let took = rw c.in-Ok-Some.field-0-is at c.in-Ok-Some.ensures.ok in
    let before = c.args.left - c.args.unseen in
    let now = old.1.0 in
    let front = subst (λ (os : List Outcome). TakenWhile c.args.wanted before (g.I.Pages.outcomes c.args.pages.now) now os) took.first old.1.1 in
    let few : now < c.args.wanted = omega (arith, c.pages-test.true, old.1.2, c.requires.within) in (
      record {
        few = omega (arith, old.0.few, c.saturating_sub-hidden.ensures);
        seen = omega (arith, old.0.few, old.0.seen, took.values, c.saturating_sub-hidden.ensures);
        error = sym took.error ∙ old.0.error;
      },
      (now + values_of took.outcome, one_more c.args.wanted before (g.I.Pages.outcomes c.args.pages.now) now took.outcome (g.I.Pages.outcomes c.take_values.new.pages) front few, omega (arith, old.1.2, took.count, c.saturating_sub-hidden.ensures)),
    )

pub returns-in-Err-clause-taken : goal.returns-in-Err-clause-taken
returns-in-Err-clause-taken g c =
    let old = c.pages.invariant in
    let before = c.args.left - c.args.unseen in
    let now = old.1.0 in
    elim c.in-Err.ensures.err [
      | inl memory ↦ (now, subst (λ (os : List Outcome). TakenWhile c.args.wanted before (g.I.Pages.outcomes c.args.pages.now) now os) (sym memory.1) old.1.1)
      | inr f ↦ (now, failed_more c.args.wanted before (g.I.Pages.outcomes c.args.pages.now) now c.in-Err.error (g.I.Pages.outcomes c.take_values.new.pages) (subst (λ (os : List Outcome). TakenWhile c.args.wanted before (g.I.Pages.outcomes c.args.pages.now) now os) f.2 old.1.1) (omega (arith, c.pages-test.true, old.1.2, c.requires.within)))
    ]
