-- How many rows stand in a page. The Parquet format leaves it to the writer ("Data Pages").
use Rattle.std.specs.Prelude.{ℕ, Option, Some, None, List, length}
use Rattle.shredding.specs.Cut.{cut}
use Rattle.shredding.specs.Slot.{Slot}
use Rattle.pq_files.specs.Layout.{rows_per_page}

-- the page limit that is asked for, in bytes of values, or the usual one
abbrev pub page_limit : Option ℕ → ℕ
page_limit None = 1048576
page_limit (Some n) = n

-- the rows in pieces by the row rule, where their values have so many plain bytes
abbrev pub pieces_by_rule : Option ℕ → ℕ → List Slot → List (List Slot)
pieces_by_rule limit size rows = cut rows (Some (rows_per_page (page_limit limit) size (length rows)))
