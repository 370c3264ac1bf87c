-- Reading a source to its end, or to one byte past a limit.
use Rattle.std.specs.Prelude.{◌≡◌, ◌+◌, ◌≤◌, ℕ, List, Option, length}
use Rattle.std.specs.Io.KnownBytes.{Consumes, IsAtEnd}

-- The source gave these bytes, at most as many as the limit, and has no more.
pub record GaveAll (limit : ℕ) (held left : Option (List ℕ)) (bytes : List ℕ) : Type 0 where
  pub given : Consumes held left bytes
  pub end : IsAtEnd left
  pub within : length bytes ≤ limit

-- The source gave some bytes, at most one more than the limit.
abbrev pub GaveSome : ℕ → Option (List ℕ) → Option (List ℕ) → Type 0
GaveSome limit held left = (bytes : List ℕ) × Consumes held left bytes × (length bytes ≤ limit + 1)

-- The source gave one byte more than the limit.
abbrev pub GavePast : ℕ → Option (List ℕ) → Option (List ℕ) → Type 0
GavePast limit held left = (bytes : List ℕ) × Consumes held left bytes × (length bytes ≡ limit + 1)
