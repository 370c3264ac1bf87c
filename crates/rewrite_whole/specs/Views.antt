-- What a view is shown, and what it tells of it.
use Rattle.std.specs.Prelude.{◌≡◌, ◌++◌, List, Option, Some, None, ⊤}
use Rattle.pq_headline.specs.Rows.{Seen}

-- a view that tells what it has seen has seen these besides
abbrev pub Sees : Option (List (List Seen)) → Option (List (List Seen)) → List (List Seen) → Type 0
Sees None now more = ⊤
Sees (Some old) now more = now ≡ Some (old ++ more)

-- its list begins with what it held
abbrev pub Grows : Option (List (List Seen)) → Option (List (List Seen)) → Type 0
Grows before now = (more : List (List Seen)) × Sees before now more
