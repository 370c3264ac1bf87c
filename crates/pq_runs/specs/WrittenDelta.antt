-- Delta packing as it is written: of what readers take, the one spelling that a writer chooses (Parquet format, Encodings, "Delta Encoding").
use Rattle.std.specs.Prelude.{◌≡◌, ◌⊎◌, ℕ, ◌*◌, ◌^◌, ◌<◌, ◌≤◌, ℤ, pos, ◌+ℤ◌, List, [], ◌∷◌, ◌++◌, length, map, replicate, Bool, All, Contains, FitsSigned}
use Rattle.std.specs.Int.{Width}
use mir.Val.{bits}
use Rattle.pq_numbers.specs.Bits.{unpacked}
use Rattle.pq_numbers.specs.Varint.{varint}
use Rattle.pq_numbers.specs.Zigzag.{zigzag}
use Rattle.pq_runs.specs.Delta.{IsDelta, IsSums}
use Rattle.pq_runs.specs.Packing.{IsLeastWidth}

-- The numbers of one block in miniblocks of 32, with a width each. A miniblock that has numbers is whole and has the least width that holds them,
-- which is no more than most; what the last one lacks is filled up with zeros. One that has none has width 0 and no body.
pub data WrittenMiniblocks (most : ℕ) : List ℕ → List ℕ → List ℕ → Type 0 where
  no_more : (n : ℕ) → WrittenMiniblocks most (replicate n 0) [] []
  miniblock : (w k : ℕ) (widths body rest ns more : List ℕ) →
      0 < length ns → w ≤ most → IsLeastWidth w ns → length body ≡ 4 * w → unpacked w 32 body ≡ ns ++ replicate k 0 →
      (k ≡ 0) ⊎ (more ≡ []) → WrittenMiniblocks most widths rest more →
      WrittenMiniblocks most (w ∷ widths) (body ++ rest) (ns ++ more)

-- Blocks of 128 differences, of which the last may have fewer. Each has its least difference, without padding, and 4 miniblocks. The differences
-- are signed numbers of the width v, so no miniblock's width passes v.
pub data WrittenBlocks (v : Width) : List ℕ → List ℤ → Type 0 where
  no_more : WrittenBlocks v [] []
  block : (widths body rest : List ℕ) (least : ℤ) (ns : List ℕ) (more : List ℤ) →
      FitsSigned v least → All (FitsSigned v) (map (λ m. least +ℤ pos m) ns) → Contains ns 0 → length widths ≡ 4 →
      WrittenMiniblocks (bits v) widths body ns → (more ≡ []) ⊎ (length ns ≡ 128) → WrittenBlocks v rest more →
      WrittenBlocks v (varint (zigzag least) ++ (widths ++ (body ++ rest))) (map (λ m. least +ℤ pos m) ns ++ more)

-- The text spells the numbers of the width v, and nothing else. The head says 128 numbers a block, 4 miniblocks, the count and the first number (0
-- where there is none), each without padding, and the blocks follow. Differences are taken modulo 2 to the width.
pub record IsWrittenDelta (v : Width) (text : List ℕ) (zs : List ℤ) : Type 0 where
  pub first : ℤ
  pub deltas : List ℤ
  pub body : List ℕ
  pub parts : text ≡ varint 128 ++ (varint 4 ++ (varint (length zs) ++ (varint (zigzag first) ++ body)))
  pub few : length zs < 2 ^ 64
  pub fits : FitsSigned v first
  pub none : zs ≡ [] → first ≡ pos 0
  pub blocks : WrittenBlocks v body deltas
  pub are : IsSums v first deltas zs

-- what is written is read, also where a last miniblock may not be cut
abbrev pub WrittenDeltasAreDeltas : Type 0
WrittenDeltasAreDeltas = (v : Width) (may_be_cut : Bool) (text : List ℕ) (zs : List ℤ) → bits v ≤ 64 → IsWrittenDelta v text zs → IsDelta v may_be_cut text zs
