-- The dictionary spelling: indices of entries (Parquet format, Encodings, "Dictionary Encoding").
use Rattle.std.specs.Prelude.{◌≡◌, ℕ, ◌≤◌, List, [], ◌∷◌, Some, slice_get}
use Rattle.std.specs.List.{AllZip}
use Rattle.shredding.specs.Slot.{Value}
use Rattle.pq_runs.specs.Runs.{Runs}

-- a byte with the width, and runs of that width; no bytes spell no indices
abbrev pub IsIndices : List ℕ → List ℕ → Type 0
IsIndices [] ns = ns ≡ []
IsIndices (w ∷ runs) ns = (w ≤ 32) × Runs w runs ns

-- the values are the entries at the indices
abbrev pub IsIndexed : List Value → List ℕ → List Value → Type 0
IsIndexed entries text vs = (ns : List ℕ) × IsIndices text ns × AllZip (λ n v. slice_get entries n ≡ Some v) ns vs
