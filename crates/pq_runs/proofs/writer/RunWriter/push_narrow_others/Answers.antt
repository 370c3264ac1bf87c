use Rattle.std.proofs.Common.{List, ℕ, ◌++◌, ◌∙◌, subst}
use Rattle.std.proofs.lemmas.List.{take_all}
use Rattle.pq_runs.specs.Writing.{Keeps}
use Rattle.pq_runs.proofs.Packs.{kept_then}
use Rattle.pq_runs.proofs.Kept.{numbers_on}
use Rattle.pq_runs.proofs.writer.RunWriter.push_narrow_others.Goals as goal

pub loop-number-preserved : goal.loop-number-preserved
loop-number-preserved c = record {
  width = c.in_ok-push_some.ensures.width ∙ c.loop-number.invariant.width;
  kept = kept_then c.args.out.now.items c.loop-number.out.items c.push_some.new.out.items c.loop-number.invariant.kept c.in_ok-push_some.ensures.kept;
  added = λ start xs k. numbers_on start c.push_some.new.out.items c.push_some.new.self xs c.args.numbers.now c.loop-number.number-index c.from.result c.loop-number-test.true c.from.ensures (c.in_ok-push_some.ensures.added start _ (c.loop-number.invariant.added start xs k));
}

pub returns-clause-added : goal.returns-clause-added
returns-clause-added c = λ start xs k. subst (λ (t : List ℕ). Keeps start c.loop-number.out.items c.loop-number.self (xs ++ t)) (take_all c.loop-number.number-index c.args.numbers.now c.loop-number-test.false) (c.loop-number.invariant.added start xs k)
