use Rattle.std.proofs.Common.{◌≡◌, ◌+◌, ◌-◌, ◌≤◌, ◌∙◌, ℕ, List, ap, arith, drop, length, take}
use Rattle.std.proofs.lemmas.List.{length-drop}
use Rattle.pq_runs.specs.Stretches.{stretches}
use Rattle.pq_runs.proofs.Changing.{back-most, front-most}
use Rattle.pq_runs.proofs.changes.are_mixed_ends.Goals as goal

pub returns : goal.returns
returns c =
    let xs = c.args.numbers.now in
    let from : ℕ = length c.args.numbers.now - 33 in
    let size : length (drop from xs) ≡ 33 = length-drop from xs ∙ omega (arith, c.requires) in
    let first : c.changes_in.result + 1 ≤ stretches xs = omega (arith, c.changes_in.ensures.value, front-most 33 xs (omega arith) c.requires) in
    let behind : c.changes_in-2.result + 1 ≡ stretches (take 33 (drop from xs)) = c.changes_in-2.ensures.value ∙ ap (λ (t : List ℕ). stretches (take 33 t)) c.last_of.ensures in
    let last : c.changes_in-2.result + 1 ≤ stretches xs = omega (arith, behind, front-most 33 (drop from xs) (omega arith) (omega (arith, size)), back-most from xs (omega arith)) in
    λ yes. omega (arith, first, last, c.max.ensures, c.if-max-numbers.false)
