-- Values spelled by deltas (Parquet format, Encodings, "Delta Encoding" and "Delta-length byte array").
use Rattle.std.specs.Prelude.{◌≡◌, ℕ, ◌^◌, ◌<◌, ℤ, pos, List, ◌++◌, length, map, flat_map, true, false, All}
use Rattle.std.specs.Int.{Width, w32}
use Rattle.shredding.specs.Slot.{Value, number, bytes}
use Rattle.pq_runs.specs.Delta.{IsDelta}

-- numbers, whose last miniblock may be cut behind its last needed byte
abbrev pub AreDeltas : Width → List ℕ → List Value → Type 0
AreDeltas w text vs = (zs : List ℤ) × IsDelta w true text zs × (vs ≡ map number zs)

-- byte strings: their lengths, and then all bytes in one piece
pub record AreDeltaLengths (text : List ℕ) (vs : List Value) : Type 0 where
  pub strings : List (List ℕ)
  pub short : All (λ s. length s < 2 ^ 31) strings
  pub head : List ℕ
  pub lengths : IsDelta w32 false head (map (λ s. pos (length s)) strings)
  pub parts : text ≡ head ++ flat_map (λ s. s) strings
  pub are : vs ≡ map bytes strings
