use Rattle.std.proofs.Common.{◌<◌, All, List, ℕ, arith, subst, sym, take}
use Rattle.std.proofs.lemmas.List.{take_all, take_more}
use Rattle.std.proofs.lemmas.List.Elements.{All-push}
use Rattle.pq_runs.proofs.narrow.are_narrow.Goals as goal

pub loop-number-preserved : goal.loop-number-preserved
loop-number-preserved c =
    subst (λ (t : List ℕ). All (λ v. v < 256) t) (sym (take_more c.args.numbers.now c.loop-number.number-index 0 c.loop-number-test.true))
    (All-push (λ v. v < 256) (take c.loop-number.number-index c.args.numbers.now) _ c.loop-number.invariant (omega (arith, c.if-number-gt255.false)))

pub returns : goal.returns
returns c = λ yes. subst (λ (t : List ℕ). All (λ v. v < 256) t) (take_all c.loop-number.number-index c.args.numbers.now c.loop-number-test.false) c.loop-number.invariant
