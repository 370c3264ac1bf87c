use Rattle.std.proofs.Common.{List, ℕ, sym, subst, subst₂}
use Rattle.pq_files.specs.Levels.{IsBehindLength}
use Rattle.pq_pages.proofs.Behind.{behind_same}
use Rattle.pq_pages.proofs.split.split_v1.Goals as goal

pub returns-in_default-behind_length : goal.returns-in_default-behind_length
returns-in_default-behind_length c =
    λ s h.
    let max = c.greatest_levels-max_repetition.result in
    let first = subst (λ (n : ℕ). IsBehindLength n c.args.body.now s.repetition h.behind) (sym c.greatest_levels-max_repetition.ensures.repetition) h.repetition in
    let same = behind_same max.0 c.args.body.now s.repetition c.in-Some.repetition.now h.behind c.in-Some.behind.now first c.in-Some.ensures in
    c.in_default-behind_length.ensures s.definition s.values (subst₂ (λ (n : ℕ) (x : List ℕ). IsBehindLength n x s.definition s.values) (sym c.greatest_levels-max_repetition.ensures.definition) same.1 h.definition)
