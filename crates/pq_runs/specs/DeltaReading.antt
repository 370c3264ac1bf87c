-- What is read of delta packing: each number that is there, and an error in the place of the first that isn't.
use Rattle.std.specs.Prelude.{ℕ, zero, suc, ◌+◌, ◌-◌, ◌*◌, ◌/◌, ◌%◌, min, ℤ, pos, ◌+ℤ◌, List, [], ◌∷◌, ◌++◌, length, take, drop, map, Option, Some, None, Result, Ok, Err, Bool, ◌&&◌, nat_lt, nat_eq, if◌then◌else◌}
use Rattle.std.specs.Int.{w64}
use Rattle.columns_base.specs.declared.error.Error.{Error}
use Rattle.pq_numbers.specs.Bits.{unpacked}
use Rattle.pq_numbers.specs.Varint.{varint_at}
use Rattle.pq_numbers.specs.Zigzag.{unzigzag}
use Rattle.pq_runs.specs.Delta.{wrapped}
use Rattle.pq_runs.specs.Hybrid.{fault}

-- what comes, and how many bytes it takes
pub record Out : Type 0 where
  pub items : List (Result ℤ Error)
  pub taken : ℕ

abbrev pub all : List ℤ → List (Result ℤ Error)
all zs = map Ok zs

abbrev pub gives : List ℤ → ℕ → Out → Out
gives ds n o = record { items = all ds ++ o.items; taken = n + o.taken }

abbrev pub ends : Out
ends = record { items = []; taken = 0 }

abbrev pub failed : Out
failed = record { items = Err fault ∷ []; taken = 0 }

-- from so many deltas that are wanted and the bytes
abbrev pub DeltaReader : Type 0
DeltaReader = ℕ → List ℕ → Out

abbrev pub above : ℤ → List ℕ → List ℤ
above least ns = map (λ m. least +ℤ pos m) ns

-- how many of 8 q packed numbers stand in a body, which may be cut
abbrev pub there : ℕ → ℕ → List ℕ → ℕ
there w q body = if nat_eq w 0 then 8 * q else min (8 * q) (8 * length body / w)

-- a miniblock: the last one that is wanted may be cut behind the last wanted number
abbrev pub mini_part : DeltaReader → ℕ → ℤ → ℕ → ℕ → List ℕ → List ℕ → Out
mini_part others q least w k body rest =
    if nat_lt (there w q body) (min k (8 * q)) then gives (above least (unpacked w (there w q body) body)) 0 failed
    else gives (above least (unpacked w (min k (8 * q)) body)) (w * q) (others (k - 8 * q) rest)

abbrev pub mini_at : DeltaReader → ℕ → ℤ → ℕ → DeltaReader
mini_at others q least w k bytes = mini_part others q least w k (take (w * q) bytes) (drop (w * q) bytes)

-- the miniblocks of a block, by their widths
unfoldable pub minis_at : DeltaReader → ℕ → ℤ → List ℕ → DeltaReader
minis_at others q least [] k bytes = others k bytes
minis_at others q least (w ∷ ws) k bytes = if nat_eq k 0 then ends else (if nat_lt 64 w then failed else mini_at (minis_at others q least ws) q least w k bytes)

abbrev pub block_part : DeltaReader → ℕ → ℕ → ℕ → ℕ → Option (ℕ × List ℕ) → Out
block_part others m q k size None = failed
block_part others m q k size (Some head) =
    if nat_lt (length head.1) m then failed
    else gives [] (size - length head.1 + m) (minis_at others q (unzigzag head.0) (take m head.1) k (drop m head.1))

-- the first number bounds the blocks: that of the bytes is always enough, since each block has a byte
unfoldable pub blocks_at : ℕ → ℕ → ℕ → DeltaReader
blocks_at zero m q k bytes = if nat_eq k 0 then ends else failed
blocks_at (suc fuel) m q k bytes = if nat_eq k 0 then ends else block_part (blocks_at fuel m q) m q k (length bytes) (varint_at bytes)

-- each number is the one before plus the delta
abbrev pub running : ℤ → List (Result ℤ Error) → List (Result ℤ Error)
running z [] = Ok (wrapped w64 z) ∷ []
running z (Ok d ∷ items) = Ok (wrapped w64 z) ∷ running (z +ℤ d) items
running z (Err e ∷ items) = Ok (wrapped w64 z) ∷ Err e ∷ []

-- ---- the header

pub record Head : Type 0 where
  pub size : ℕ
  pub miniblocks : ℕ
  pub count : ℕ
  pub first : ℤ
  pub body : List ℕ

-- blocks of a multiple of 128, in miniblocks of a multiple of 32
abbrev pub is_good : ℕ → ℕ → Bool
is_good size miniblocks = nat_lt 0 size && (nat_eq (size % 128) 0 && (nat_lt 0 miniblocks && (nat_eq (size % miniblocks) 0 && nat_eq (size / miniblocks % 32) 0)))

abbrev pub first_after : ℕ → ℕ → ℕ → Option (ℕ × List ℕ) → Option Head
first_after size miniblocks count None = None
first_after size miniblocks count (Some first) =
    if is_good size miniblocks then Some (record { size = size; miniblocks = miniblocks; count = count; first = unzigzag first.0; body = first.1 }) else None

abbrev pub count_after : ℕ → ℕ → Option (ℕ × List ℕ) → Option Head
count_after size miniblocks None = None
count_after size miniblocks (Some count) = first_after size miniblocks count.0 (varint_at count.1)

abbrev pub miniblocks_after : ℕ → Option (ℕ × List ℕ) → Option Head
miniblocks_after size None = None
miniblocks_after size (Some miniblocks) = count_after size miniblocks.0 (varint_at miniblocks.1)

abbrev pub size_after : Option (ℕ × List ℕ) → Option Head
size_after None = None
size_after (Some size) = miniblocks_after size.0 (varint_at size.1)

abbrev pub head_at : List ℕ → Option Head
head_at bytes = size_after (varint_at bytes)

-- ---- all numbers

abbrev pub deltas_of : Head → ℕ → Out
deltas_of h k = blocks_at (length h.body) h.miniblocks (h.size / h.miniblocks / 8) k h.body

abbrev pub numbers_after : ℕ → Head → Out
numbers_after zero h = ends
numbers_after (suc k) h = record { items = running h.first (deltas_of h k).items; taken = (deltas_of h k).taken }

abbrev pub numbers_of : Head → Out
numbers_of h = numbers_after h.count h
