use Rattle.std.proofs.Common.{◌≡◌, ℕ, ◌-◌, length}
use Rattle.leaf_iters.specs.Nulls.{IsSeen, TakenWhile}
use Rattle.leaf_iters.proofs.nulls.see_values.Given as goal

abbrev pub invariant-pages : goal.invariant-pages
invariant-pages g l =
    IsSeen l.left l.unseen (g.I.Pages.outcomes l.initial.pages) (g.I.Pages.outcomes l.pages) l.hidden
    × ((now : ℕ) × TakenWhile l.wanted (l.left - l.unseen) (g.I.Pages.outcomes l.initial.pages) now (g.I.Pages.outcomes l.pages) × (l.hidden ≡ l.left - now))

abbrev pub decreases-pages : goal.decreases-pages
decreases-pages g l = length (g.I.Pages.outcomes l.pages)
