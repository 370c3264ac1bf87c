-- The first of two options that is there.
use Rattle.std.specs.Prelude.{Option, Some, None}

abbrev pub or_else : {A : Type 0} → Option A → Option A → Option A
or_else (Some a) other = Some a
or_else None other = other
