-- Indices of a dictionary's entries (Parquet format, Encodings, "Dictionary Encoding").
use Rattle.std.specs.Prelude.{ℕ, Bool, false, List, [], ◌∷◌, nat_lt}

-- the width in front of the runs is more than 32 bits
abbrev pub is_too_wide : List ℕ → Bool
is_too_wide [] = false
is_too_wide (width ∷ runs) = nat_lt 32 width
