-- What is left to read of delta packing.
use Rattle.std.specs.Prelude.{◌≡◌, ◌⊎◌, ℕ, ◌+◌, ◌-◌, ◌*◌, ◌^◌, ◌<◌, ◌≤◌, ℤ, pos, ◌+ℤ◌, List, [], ◌∷◌, ◌++◌, length, replicate, Result, Ok, Err, Bool, true, false, if◌then◌else◌, slice_index}
use Rattle.std.specs.Int.{w64}
use Rattle.columns_base.specs.declared.error.Error.{Error}
use Rattle.pq_numbers.specs.Bits.{unpacked}
use Rattle.pq_runs.specs.Delta.{wrapped}
use Rattle.pq_runs.specs.DeltaReading.{Out, all, above, failed, minis_at, blocks_at}
use Rattle.pq_delta_reads.specs.declared.head.Head.{Head}
use Rattle.pq_delta_reads.specs.declared.state.State.{State}
use Rattle.pq_runs.specs.DeltaReading as reading

-- a header, and the bytes behind it
abbrev pub head_of : Head → List ℕ → reading.Head
head_of h body = record { size = h.size; miniblocks = h.miniblocks; count = h.count; first = h.first; body = body }

-- each number is the one before plus the delta, modulo 2 ^ 64
abbrev pub stepped : ℤ → List (Result ℤ Error) → List (Result ℤ Error)
stepped z [] = []
stepped z (Ok d ∷ items) = Ok (wrapped w64 (z +ℤ d)) ∷ stepped (wrapped w64 (z +ℤ d)) items
stepped z (Err e ∷ items) = Err e ∷ []

-- the same items, with 0 in the place of each number
abbrev pub zeroed : List (Result ℤ Error) → List (Result ℤ Error)
zeroed [] = []
zeroed (Ok z ∷ items) = Ok (pos 0) ∷ zeroed items
zeroed (Err e ∷ items) = Err e ∷ zeroed items

-- so many numbers and then others, where each number is 0
abbrev pub zeros_then : ℕ → List (Result ℤ Error) → List (Result ℤ Error)
zeros_then n items = replicate n (Ok (pos 0)) ++ items

-- the deltas behind the miniblock that is being read
abbrev pub later_of : Bool → ℕ → ℕ → ℤ → List ℕ → ℕ → List ℕ → Out
later_of cut m q least widths left bytes = if cut then failed else minis_at (blocks_at (length bytes) m q) q least widths left bytes

unfoldable pub later : State → Out
later s = later_of s.cut s.miniblocks s.groups s.least s.widths.now s.left s.bytes.now

-- all that comes: what waits, what stands in the miniblock, and what comes behind it
unfoldable pub items : State → List (Result ℤ Error)
items s = stepped s.latest (all (above s.least (s.buffer ++ unpacked s.width s.standing s.packed.now)) ++ (later s).items)

-- how many numbers are wanted
abbrev pub left_of : State → ℕ
left_of s = length s.buffer + s.standing + s.left

-- the bytes of what has begun
abbrev pub taken : State → ℕ
taken s = s.length - length s.bytes.now + s.missing

-- those of all that is read in the end
unfoldable pub total : State → ℕ
total s = taken s + (later s).taken

pub record IsState (s : State) : Type 0 where
  pub some_miniblocks : 0 < s.miniblocks
  pub some_groups : 0 < s.groups
  pub few_groups : 8 * s.groups < 2 ^ 64
  pub fits : s.width ≤ 64
  pub few : length s.buffer + s.standing + s.left < 2 ^ 64
  pub within : length s.bytes.now ≤ s.length
  pub lacks : s.missing < 2 ^ 70
  pub last : (s.missing ≡ 0) ⊎ (s.left ≡ 0)
  pub wanted : s.cut ≡ true → 0 < s.left
  pub are : (k : ℕ) → slice_index s.packed.now k < 256

-- the same comes
pub record Keeps (s t : State) : Type 0 where
  pub items : items t ≡ items s
  pub total : total t ≡ total s
  pub left : left_of t ≡ left_of s

-- nothing waits or stands there, and more is wanted
pub record IsIdle (s : State) : Type 0 where
  pub empty : length s.buffer ≡ 0
  pub none : s.standing ≡ 0
  pub whole : s.cut ≡ false
  pub some : 0 < s.left
