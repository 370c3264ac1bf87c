-- What decoders give of delta packing is what stands there.
use Rattle.std.specs.Prelude.{◌≡◌, ◌↔◌, ℕ, ◌+◌, ◌-◌, ◌*◌, ◌%◌, ◌^◌, ◌<◌, ◌≤◌, ℤ, List, ◌++◌, length, drop, map, Some, Bool, true, false}
use Rattle.std.specs.Int.{w32, w64}
use Rattle.pq_numbers.specs.Texts.{Begins}
use Rattle.pq_numbers.specs.Varint.{IsNumber}
use Rattle.pq_numbers.specs.Zigzag.{IsSigned}
use Rattle.pq_runs.specs.Delta.{IsDelta, wrapped}
use Rattle.pq_runs.specs.WrittenDelta.{IsWrittenDelta}
use Rattle.pq_runs.specs.DeltaReading.{Head, all, head_at, numbers_of}

-- A decoder of the bytes gives all of these numbers and no error, and takes so many bytes.
pub record IsRead (bytes : List ℕ) (size : ℕ) (zs : List ℤ) : Type 0 where
  pub head : Head
  pub found : head_at bytes ≡ Some head
  pub counts : head.count ≡ length zs
  pub items : (numbers_of head).items ≡ all zs
  pub taken : size ≡ length bytes - length head.body + (numbers_of head).taken

-- the text of so many bytes at the front spells the numbers
pub record BeginsOf (may_be_cut : Bool) (bytes : List ℕ) (size : ℕ) (zs : List ℤ) : Type 0 where
  pub begins : Begins (λ text ys. IsDelta w64 may_be_cut text ys) bytes zs
  pub is : length begins.text ≡ size

-- Where the last miniblock may be cut, numbers stand at the front exactly where they are read. Where it may not, the bytes that are taken are there.
-- A column of 32 bits has the low 32 bits of them.
pub record DeltasAreRead : Type 0 where
  pub cut : (bytes : List ℕ) (zs : List ℤ) → Begins (λ text ys. IsDelta w64 true text ys) bytes zs ↔ ((size : ℕ) × IsRead bytes size zs)
  pub whole : (bytes : List ℕ) (size : ℕ) (zs : List ℤ) → BeginsOf false bytes size zs ↔ (IsRead bytes size zs × (size ≤ length bytes))
  pub narrow : (may_be_cut : Bool) (text : List ℕ) (zs : List ℤ) → IsDelta w32 may_be_cut text zs ↔ ((ys : List ℤ) × IsDelta w64 may_be_cut text ys × (zs ≡ map (wrapped w32) ys))

-- The bytes begin with a header: the numbers in a block, a multiple of 128, the miniblocks in a block, of a multiple of 32 numbers each, the count of
-- all numbers and the first one.
pub record HasHead (bytes : List ℕ) (h : Head) : Type 0 where
  pub size_text : List ℕ
  pub miniblocks_text : List ℕ
  pub count_text : List ℕ
  pub first_text : List ℕ
  pub parts : bytes ≡ size_text ++ (miniblocks_text ++ (count_text ++ (first_text ++ h.body)))
  pub has_size : IsNumber size_text h.size
  pub has_miniblocks : IsNumber miniblocks_text h.miniblocks
  pub has_count : IsNumber count_text h.count
  pub has_first : IsSigned (2 ^ 64) first_text h.first
  pub size_fits : (0 < h.size) × (h.size % 128 ≡ 0)
  pub n : ℕ
  pub divides : h.miniblocks * n ≡ h.size
  pub n_fits : (0 < n) × (n % 32 ≡ 0)

abbrev pub HeadsAreRead : Type 0
HeadsAreRead = (bytes : List ℕ) (h : Head) → HasHead bytes h ↔ (head_at bytes ≡ Some h)

-- what stands behind so many lengths that are read
abbrev pub IsBehind : ℕ → List ℕ → List ℕ → Type 0
IsBehind count section behind = (size : ℕ) × (zs : List ℤ) × IsRead section size zs × (size ≤ length section) × (length zs ≡ count) × (behind ≡ drop size section)

-- what is written is read again, whatever stands behind it
abbrev pub WrittenDeltasAreRead : Type 0
WrittenDeltasAreRead = (text rest : List ℕ) (zs : List ℤ) → IsWrittenDelta w64 text zs → IsRead (text ++ rest) (length text) zs
