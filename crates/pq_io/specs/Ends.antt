-- What a sink takes of a piece, where it tells its bytes.
use Rattle.std.specs.Prelude.{◌≤◌, ◌<◌, ℕ, List, Result, Option, length, IfOk, take}
use Rattle.std.specs.Io.KnownBytes.{Appends}

-- A sink takes at least one byte of a piece that has one, and at most all.
abbrev pub TakesSome : {E : Type 0} → Result ℕ E → List ℕ → Type 0
TakesSome r piece = IfOk r (λ n. (n ≤ length piece) × (0 < length piece → 0 < n))

-- Known bytes grow by a front part of the text.
abbrev pub AppendsFront : Option (List ℕ) → Option (List ℕ) → List ℕ → Type 0
AppendsFront old new text = (n : ℕ) × (n ≤ length text) × Appends old new (take n text)
