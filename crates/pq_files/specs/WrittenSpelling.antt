-- Values as they are written (Parquet format, Encodings): of what readers take, the one spelling that a writer chooses.
use Rattle.std.specs.Prelude.{◌≡◌, ◌≢◌, ◌⊎◌, ℕ, ◌^◌, ◌<◌, ◌≤◌, ℤ, pos, List, ◌∷◌, ◌++◌, length, map, flat_map, All, Option, Some, None, slice_get}
use Rattle.std.specs.List.{AllZip}
use Rattle.std.specs.Int.{Width, w32, w64}
use Rattle.shredding.specs.Slot.{Value, number, bytes}
use Rattle.pq_tree.specs.Physical.{boolean, int32, int64, byte_array}
use Rattle.pq_tree.specs.Tree.{Leaf}
use Rattle.pq_runs.specs.Packing.{IsLeastWidth}
use Rattle.pq_runs.specs.WrittenDelta.{IsWrittenDelta}
use Rattle.pq_runs.specs.WrittenRuns.{WrittenRuns}
use Rattle.pq_files.specs.Page.{Encoding, plain, dictionary, delta, delta_length}
use Rattle.pq_files.specs.Plain.{IsPlain}

-- A byte with the least width that holds the indices, and written runs of them. Where there is none, that is the byte 0 alone.
pub record AreWrittenIndices (text ns : List ℕ) : Type 0 where
  pub width : ℕ
  pub runs : List ℕ
  pub parts : text ≡ width ∷ runs
  pub is_width : IsLeastWidth width ns
  pub fits : width ≤ 32
  pub are : WrittenRuns width runs ns

-- the values are the entries at the indices
abbrev pub IsWrittenIndexed : List Value → List ℕ → List Value → Type 0
IsWrittenIndexed entries text vs = (ns : List ℕ) × AreWrittenIndices text ns × AllZip (λ n v. slice_get entries n ≡ Some v) ns vs

-- numbers of the width as written deltas
abbrev pub AreWrittenDeltas : Width → List ℕ → List Value → Type 0
AreWrittenDeltas w text vs = (zs : List ℤ) × IsWrittenDelta w text zs × (vs ≡ map number zs)

-- byte strings: the written deltas of their lengths, and then all bytes in one piece
pub record AreWrittenDeltaLengths (text : List ℕ) (vs : List Value) : Type 0 where
  pub strings : List (List ℕ)
  pub short : All (λ s. length s < 2 ^ 31) strings
  pub head : List ℕ
  pub lengths : IsWrittenDelta w32 head (map (λ s. pos (length s)) strings)
  pub parts : text ≡ head ++ flat_map (λ s. s) strings
  pub are : vs ≡ map bytes strings

-- the spelling of the values that is written, for a column with these dictionary entries
abbrev pub IsWrittenSpelled : Encoding → Leaf → Option (List Value) → List ℕ → List Value → Type 0
IsWrittenSpelled plain l entries text vs = IsPlain l.physical text vs
IsWrittenSpelled dictionary l None text vs = ⊥
IsWrittenSpelled dictionary l (Some entries) text vs = (l.physical ≢ boolean) × IsWrittenIndexed entries text vs
IsWrittenSpelled delta l entries text vs = ((l.physical ≡ int32) × AreWrittenDeltas w32 text vs) ⊎ ((l.physical ≡ int64) × AreWrittenDeltas w64 text vs)
IsWrittenSpelled delta_length l entries text vs = (l.physical ≡ byte_array) × AreWrittenDeltaLengths text vs
