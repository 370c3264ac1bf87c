-- Delta packing (Parquet format, Encodings, "Delta Encoding", DELTA_BINARY_PACKED).
use Rattle.std.specs.Prelude.{◌≡◌, ◌⊎◌, ℕ, ◌*◌, ◌%◌, ◌^◌, ◌<◌, ◌≤◌, ℤ, pos, ◌+ℤ◌, List, [], ◌∷◌, ◌++◌, length, map, Bool, true}
use Rattle.std.specs.Int.{Width, cast_signed, int_rem_euclid}
use mir.Val.{bits}
use Rattle.std.specs.Int.RustNames.{unsigned_abs}
use Rattle.pq_numbers.specs.Bits.{unpacked}
use Rattle.pq_numbers.specs.Varint.{IsNumber}
use Rattle.pq_numbers.specs.Zigzag.{IsSigned}

-- The packed numbers of one block, in miniblocks of n numbers with a width each. A miniblock that isn't needed has no body.
-- The last needed one ends with its n-th number, or else, where it may be cut, behind the last needed byte.
pub data Miniblocks (may_be_cut : Bool) (n : ℕ) : List ℕ → List ℕ → List ℕ → Type 0 where
  no_more : (widths : List ℕ) → Miniblocks may_be_cut n widths [] []
  whole : (w : ℕ) (widths body rest ns : List ℕ) → w ≤ 64 → 8 * length body ≡ w * n → Miniblocks may_be_cut n widths rest ns →
      Miniblocks may_be_cut n (w ∷ widths) (body ++ rest) (unpacked w n body ++ ns)
  last : (w k : ℕ) (widths body : List ℕ) → w ≤ 64 → 0 < k → k ≤ n → w * k ≤ 8 * length body → 8 * length body ≤ w * n →
      (may_be_cut ≡ true) ⊎ (8 * length body ≡ w * n) →
      Miniblocks may_be_cut n (w ∷ widths) body (unpacked w k body)

-- Each block has its least delta in zigzag, a byte with the width of each miniblock, and the miniblocks. All but the last are full.
pub data Blocks (may_be_cut : Bool) (miniblocks n : ℕ) : List ℕ → List ℤ → Type 0 where
  no_more : Blocks may_be_cut miniblocks n [] []
  block : (head widths body rest : List ℕ) (least : ℤ) (ns : List ℕ) (more : List ℤ) →
      IsSigned (2 ^ 64) head least → length widths ≡ miniblocks → 0 < length ns →
      Miniblocks may_be_cut n widths body ns → (more ≡ []) ⊎ (length ns ≡ miniblocks * n) →
      Blocks may_be_cut miniblocks n rest more →
      Blocks may_be_cut miniblocks n (head ++ (widths ++ (body ++ rest))) (map (λ m. least +ℤ pos m) ns ++ more)

-- modulo 2 to the width, as a signed number of that width
abbrev pub wrapped : Width → ℤ → ℤ
wrapped w z = cast_signed w (unsigned_abs (int_rem_euclid z (pos (2 ^ bits w))))

-- each number is the one before plus the delta
abbrev pub sums : Width → ℤ → List ℤ → List ℤ
sums w z [] = wrapped w z ∷ []
sums w z (d ∷ ds) = wrapped w z ∷ sums w (z +ℤ d) ds

-- the first number and the deltas, of which there are none where there is no number
abbrev pub IsSums : Width → ℤ → List ℤ → List ℤ → Type 0
IsSums w first ds [] = ds ≡ []
IsSums w first ds zs = zs ≡ sums w first ds

-- The text spells the numbers. Its head has the numbers in a block, the miniblocks in a block, the count of numbers and the first number.
pub record IsDelta (w : Width) (may_be_cut : Bool) (text : List ℕ) (zs : List ℤ) : Type 0 where
  pub size : ℕ
  pub miniblocks : ℕ
  pub count : ℕ
  pub first : ℤ
  pub size_text : List ℕ
  pub miniblocks_text : List ℕ
  pub count_text : List ℕ
  pub first_text : List ℕ
  pub body : List ℕ
  pub parts : text ≡ size_text ++ (miniblocks_text ++ (count_text ++ (first_text ++ body)))
  pub has_size : IsNumber size_text size
  pub has_miniblocks : IsNumber miniblocks_text miniblocks
  pub has_count : IsNumber count_text count
  pub has_first : IsSigned (2 ^ 64) first_text first
  pub size_fits : (0 < size) × (size % 128 ≡ 0)
  -- so many numbers stand in each miniblock
  pub n : ℕ
  pub divides : miniblocks * n ≡ size
  pub n_fits : (0 < n) × (n % 32 ≡ 0)
  pub counts : count ≡ length zs
  pub deltas : List ℤ
  pub blocks : Blocks may_be_cut miniblocks n body deltas
  pub are : IsSums w first deltas zs
