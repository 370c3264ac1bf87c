-- Byte strings of one width (Arrow columnar format, "Fixed-Size Primitive Layout").
use Rattle.std.specs.Prelude.{◌≡◌, ℕ, ◌/◌, ◌%◌, ◌<◌, List, length}
use Rattle.columns_core.specs.Tree.{TypeTree, t_fixed_size_binary}

-- the width of a type's strings, and 0 where it has none
abbrev pub fixed_width : TypeTree → ℕ
fixed_width (t_fixed_size_binary n) = n
fixed_width t = 0

-- how many strings so many bytes are
abbrev pub fixed_count : TypeTree → List ℕ → ℕ
fixed_count t bs = length bs / fixed_width t

-- a width from 1, and whole strings of it
abbrev pub AreWhole : TypeTree → List ℕ → Type 0
AreWhole t bs = (0 < fixed_width t) × (length bs % fixed_width t ≡ 0)
