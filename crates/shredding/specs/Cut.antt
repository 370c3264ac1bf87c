-- Rows in pieces, as row groups and arrays of a bounded number of rows hold them.
use Rattle.std.specs.Prelude.{ℕ, zero, suc, List, [], ◌∷◌, take, drop, length, Option, Some, None}

-- pieces of n rows, the last shorter, and no piece of no rows: the first number bounds the pieces
abbrev pub pieces : {A : Type 0} → ℕ → ℕ → List A → List (List A)
pieces zero n rows = []
pieces (suc fuel) n [] = []
pieces (suc fuel) n (row ∷ rows) = take n (row ∷ rows) ∷ pieces fuel n (drop n (row ∷ rows))

-- all rows as one piece, and no piece where there are no rows
abbrev pub whole : {A : Type 0} → List A → List (List A)
whole [] = []
whole (row ∷ rows) = (row ∷ rows) ∷ []

-- the pieces of n rows, or without n the whole
abbrev pub cut : {A : Type 0} → List A → Option ℕ → List (List A)
cut rows None = whole rows
cut rows (Some n) = pieces (length rows) n rows
