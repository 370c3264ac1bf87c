-- A source of pages as contracts see it.
use Rattle.std.specs.Prelude.{List, Option}
use Rattle.pq_pages.specs.Outcomes.{Outcome}

-- what it still gives, and the page taken last that it lends, or shows
pub record Source : Type 0 where
  pub outcomes : List Outcome
  pub lent : Option Outcome
  pub shown : Option Outcome
