use Rattle.std.proofs.Common.{◌-◌, ◌^◌, ◌<◌, ◌∙◌, ℕ, All, drop, take, subst, sym, arith}
use Rattle.std.proofs.lemmas.List.{drop_all}
use Rattle.pq_runs.proofs.Packs.{kept_then}
use Rattle.level_sections.proofs.Bytes.{bytes-step}
use Rattle.level_sections.proofs.Walked.{goes_on, goes_end}
use Rattle.level_sections.proofs.told_levels.push_told.Goals as goal

pub push_some-requires-clause-holds : goal.push_some-requires-clause-holds
push_some-requires-clause-holds c = subst (λ (w : ℕ). All (λ v. v < 2 ^ w) c.args.bytes.now) (sym c.loop-at.invariant.width) c.requires.holds

pub loop-at-preserved : goal.loop-at-preserved
loop-at-preserved c =
    let h = c.loop-at.invariant in
    let e = c.in_ok-at.ensures in
    record {
      before = e.after.1;
      width = e.width ∙ h.width;
      kept = kept_then c.args.out.now.items c.loop-at.out.items c.push_some.new.out.items h.kept e.kept;
      added = λ start xs k. goes_on start c.loop-at.out.items c.push_some.new.out.items c.loop-at.writer c.push_some.new.writer _ (take (c.in_ok-at.at - c.loop-at.at) (drop c.loop-at.at c.args.bytes.now)) _ _ (bytes-step c.args.bytes.now c.loop-at.at c.in_ok-at.at (omega (arith, e.after.0))) e.added (h.added start xs k);
    }

pub returns-clause-added : goal.returns-clause-added
returns-clause-added c = λ start xs k. goes_end start c.loop-at.out.items c.loop-at.writer _ _ (drop_all c.loop-at.at c.args.bytes.now (omega (arith, c.loop-at-test.false))) (c.loop-at.invariant.added start xs k)
