-- Delta packing on the way.
use Rattle.std.specs.Prelude.{◌≡◌, ◌⊎◌, ℕ, ◌+◌, ◌*◌, ◌≤◌, ℤ, pos, ◌+ℤ◌, List, [], ◌∷◌, ◌++◌, length, take, drop, All, FitsSigned, Option, Some, None}
use Rattle.std.specs.Int.{Width}
use Rattle.pq_numbers.specs.Varint.{varint}
use Rattle.pq_numbers.specs.Zigzag.{zigzag}
use Rattle.pq_runs.specs.Delta.{IsSums, sums, wrapped}
use Rattle.pq_runs.specs.Packing.{IsLeastWidth}
use Rattle.pq_runs.specs.WrittenDelta.{WrittenBlocks, IsWrittenDelta}

-- What is appended is the written deltas of the numbers, in little more than nine bytes a number.
pub record AppendsDelta (v : Width) (start out : List ℕ) (zs : List ℤ) : Type 0 where
  pub text : List ℕ
  pub parts : out ≡ start ++ text
  pub is : IsWrittenDelta v text zs
  pub size : length text ≤ 11 * length zs + 310

-- each miniblock of 32 numbers has the least width that holds them, and there are no others
abbrev pub AreWidths : List ℕ → List ℕ → Type 0
AreWidths [] ns = ns ≡ []
AreWidths (w ∷ ws) ns = (w ≤ 64) × IsLeastWidth w (take 32 ns) × AreWidths ws (drop 32 ns)

-- a block of these deltas: the last one, or a full one before others
pub record IsBlock (v : Width) (text : List ℕ) (ds : List ℤ) : Type 0 where
  pub before : (rest : List ℕ) (more : List ℤ) → (more ≡ []) ⊎ (length ds ≡ 128) → WrittenBlocks v rest more → WrittenBlocks v (text ++ rest) (ds ++ more)
  pub size : length text ≤ 8 * length ds + 262

-- What has been written since the start is whole full blocks of all deltas but those that are pending.
pub record Blocked (v : Width) (start out : List ℕ) (pending ds : List ℤ) : Type 0 where
  pub text : List ℕ
  pub done : List ℤ
  pub parts : out ≡ start ++ text
  pub all : done ++ pending ≡ ds
  pub fit : All (FitsSigned v) pending
  pub closed : (rest : List ℕ) (more : List ℤ) → WrittenBlocks v rest more → WrittenBlocks v (text ++ rest) (done ++ more)
  pub size : length text ≤ 11 * length done

-- the sum behind the deltas
abbrev pub after : ℤ → List ℤ → ℤ
after z [] = z
after z (d ∷ ds) = after (z +ℤ d) ds

-- the first number and deltas of the numbers so far, the last of which is the given one
pub record Going (v : Width) (start out : List ℕ) (pending : List ℤ) (latest : ℤ) (zs : List ℤ) : Type 0 where
  pub first : ℤ
  pub ds : List ℤ
  pub fits : FitsSigned v first
  pub blocked : Blocked v (start ++ varint (zigzag first)) out pending ds
  pub are : zs ≡ sums v first ds
  pub ends : latest ≡ wrapped v (after first ds)

abbrev pub Begun : Width → List ℕ → List ℕ → List ℤ → Option ℤ → List ℤ → Type 0
Begun v start out pending None zs = (out ≡ start) × (pending ≡ []) × (zs ≡ [])
Begun v start out pending (Some latest) zs = Going v start out pending latest zs

-- the deltas of all numbers, in blocks behind the first number
pub record Deltas (v : Width) (start out : List ℕ) (zs : List ℤ) : Type 0 where
  pub first : ℤ
  pub ds : List ℤ
  pub text : List ℕ
  pub fits : FitsSigned v first
  pub none : zs ≡ [] → first ≡ pos 0
  pub parts : out ≡ start ++ (varint (zigzag first) ++ text)
  pub blocks : WrittenBlocks v text ds
  pub are : IsSums v first ds zs
  pub size : length text ≤ 11 * length zs + 262
