use Rattle.std.proofs.Common.{◌++◌, ◌∙◌, ℕ, List, ap, drop, sym}
use Rattle.std.proofs.lemmas.List.{take-append-drop}
use Rattle.pq_runs.proofs.group.first_eight.Goals as goal

pub returns-clause-front : goal.returns-clause-front
returns-clause-front c = sym (take-append-drop 8 c.args.numbers.now) ∙ ap (λ (t : List ℕ). t ++ drop 8 c.args.numbers.now) (sym c.copy_from_slice.ensures.after)
