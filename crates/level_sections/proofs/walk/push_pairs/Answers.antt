use Rattle.std.proofs.Common.{◌++◌, ◌-◌, ◌∙◌, List, ℕ, replicate, subst, sym, ap, append_assoc}
use Rattle.pq_runs.proofs.Steps.{finished}
use Rattle.pq_runs.specs.Writing.{Keeps}
use Rattle.level_sections.proofs.Walked.{definitions-like, repetitions-like}
use Rattle.level_sections.proofs.walk.push_pairs.Goals as goal

pub returns-in-Definition-clause-added : goal.returns-in-Definition-clause-added
returns-in-Definition-clause-added c =
    let e = definitions-like c.args.level c.args.above.rep c.args.above.depth c.args.above.def c.args.count c.in-Definition.is in
    finished c.push.result (λ f start xs k. subst (λ (ys : List ℕ). Keeps start c.push.new.out.items c.push.new.self (xs ++ ys)) (sym e) (f start xs k)) c.push.ensures.added

pub returns-in_ok-push-in-Repetition-clause-added : goal.returns-in_ok-push-in-Repetition-clause-added
returns-in_ok-push-in-Repetition-clause-added c =
    let e = repetitions-like c.args.level c.args.above.rep c.args.above.depth c.args.above.def c.args.count c.in-Repetition.is c.requires.some in
    finished c.push-in-Repetition-2.result
    (λ f start xs k. subst (λ (ys : List ℕ). Keeps start c.push-in-Repetition-2.new.out.items c.push-in-Repetition-2.new.self ys)
    (append_assoc xs (replicate 1 c.args.above.rep) (replicate (c.args.count - 1) c.args.above.depth) ∙ ap (λ (ys : List ℕ). xs ++ ys) (sym e))
    (f start (xs ++ replicate 1 c.args.above.rep) (c.in_ok-push-in-Repetition.ensures.added start xs k)))
    c.push-in-Repetition-2.ensures.added
