-- A decoder of delta packing as its callers see it.
use Rattle.std.specs.Prelude.{◌≡◌, ℕ, suc, ◌+◌, ◌-◌, ◌<◌, ◌≤◌, ℤ, List, [], ◌∷◌, ◌++◌, length, take, Result, Ok, Err, Option, Some, None}
use Rattle.columns_base.specs.declared.error.Error.{Error}
use Rattle.pq_runs.specs.DeltaReading.{Head, all, head_at, numbers_of}
use Rattle.pq_runs.specs.Hybrid.{fault}
use Rattle.pq_delta_reads.specs.Blocks.{signed}
use Rattle.pq_delta_reads.specs.declared.state.State.{State}
use Rattle.pq_delta_reads.specs.Reading.{items, left_of, taken, total, zeroed, zeros_then}

-- what still comes, how many numbers are left by the header's count, and the bytes that were taken so far and will have been in the end
pub record Decoding : Type 0 where
  pub items : List (Result ℤ Error)
  pub left : ℕ
  pub taken : ℕ
  pub total : ℕ

unfoldable pub decoding : State → Decoding
decoding s = record { items = items s; left = left_of s; taken = taken s; total = total s }

-- a decoder to which nothing was asked yet, behind a header of so many bytes
pub record IsBegun (h : Head) (size : ℕ) (d : Decoding) : Type 0 where
  pub items : d.items ≡ (numbers_of h).items
  pub left : d.left ≡ h.count
  pub taken : d.taken ≡ size
  pub total : d.total ≡ size + (numbers_of h).taken

-- a decoder of the bytes, which begin with a header, to which nothing was asked yet
abbrev pub IsDecoderOf : List ℕ → Decoding → Type 0
IsDecoderOf bytes d = (h : Head) × (head_at bytes ≡ Some h) × IsBegun h (length bytes - length h.body) d

-- One item after another. Behind an error comes nothing. Where nothing comes, all bytes were taken.
abbrev pub Steps : Decoding → Option (Result ℤ Error) → Decoding → Type 0
Steps d None d' = (d.items ≡ []) × (d.left ≡ 0) × (d.taken ≡ d.total) × (d' ≡ d)
Steps d (Some (Ok z)) d' = (d.items ≡ Ok z ∷ d'.items) × (d.left ≡ suc d'.left) × (d'.total ≡ d.total)
Steps d (Some (Err e)) d' = (e ≡ fault) × (d.items ≡ Err e ∷ []) × (d'.items ≡ []) × (d'.left ≡ 0) × (d'.total ≡ d.total)

-- So many items at once, which are the first of a list.
abbrev pub StepsBlock : Decoding → Option (Result ℕ Error) → List ℕ → Decoding → Type 0
StepsBlock d None ns d' = Steps d None d'
StepsBlock d (Some (Ok n)) ns d' = (0 < n) × (n ≤ 32) × (d.items ≡ all (signed (take n ns)) ++ d'.items) × (d.left ≡ n + d'.left) × (d'.total ≡ d.total)
StepsBlock d (Some (Err e)) ns d' = Steps d (Some (Err e)) d'

-- So many items at once, whose numbers are not told.
abbrev pub PassesBlock : Decoding → Option (Result ℕ Error) → Decoding → Type 0
PassesBlock d None d' = Steps d None d'
PassesBlock d (Some (Ok n)) d' = (0 < n) × (zeroed d.items ≡ zeros_then n (zeroed d'.items)) × (d.left ≡ n + d'.left) × (d'.total ≡ d.total)
PassesBlock d (Some (Err e)) d' = Steps d (Some (Err e)) d'
