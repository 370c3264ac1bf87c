-- The run at the front of the bytes.
use Rattle.std.specs.Prelude.{◌≡◌, ◌⊎◌, ℕ, ◌+◌, ◌*◌, ◌<◌, ◌≤◌, List, length, take, drop, Some, None}
use Rattle.pq_runs.specs.declared.run.Run.{Run}
use Rattle.pq_runs.specs.declared.run.Run.TheVariants.{Packed, Repeated}
use Rattle.pq_numbers.specs.Bits.{bytes_for}
use Rattle.pq_numbers.specs.Varint.{varint_at}

-- the bytes of packed numbers as far as there are any
pub record IsPackedRun (w : ℕ) (bytes body rest : List ℕ) : Type 0 where
  pub groups : ℕ
  pub tail : List ℕ
  pub head : varint_at bytes ≡ Some (2 * groups + 1, tail)
  pub is : body ≡ take (w * groups) tail
  pub behind : rest ≡ drop (w * groups) tail

pub record IsRepeatedRun (w : ℕ) (bytes value : List ℕ) (m : ℕ) (rest : List ℕ) : Type 0 where
  pub tail : List ℕ
  pub head : varint_at bytes ≡ Some (2 * m, tail)
  pub long : bytes_for w ≤ length tail
  pub is : value ≡ take (bytes_for w) tail
  pub behind : rest ≡ drop (bytes_for w) tail

abbrev pub IsRun : ℕ → List ℕ → Run → List ℕ → Type 0
IsRun w bytes (Packed body) rest = IsPackedRun w bytes body.now rest
IsRun w bytes (Repeated value m) rest = IsRepeatedRun w bytes value.now m rest

-- no header, or copies of what is not there
abbrev pub NoRun : ℕ → List ℕ → Type 0
NoRun w bytes = (varint_at bytes ≡ None) ⊎ ((m : ℕ) × (tail : List ℕ) × (varint_at bytes ≡ Some (2 * m, tail)) × (length tail < bytes_for w))
