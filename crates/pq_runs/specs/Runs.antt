-- The hybrid of run lengths and packed bits (Parquet format, Encodings, "Run Length Encoding / Bit-Packing Hybrid").
-- A section that stands alone has no length in front: whoever stores it knows where it ends.
use Rattle.std.specs.Prelude.{◌≡◌, ℕ, ◌+◌, ◌*◌, ◌<◌, ◌≤◌, List, [], ◌∷◌, ◌++◌, length, replicate}
use Rattle.pq_numbers.specs.Bits.{bytes_for, unpacked}
use Rattle.pq_numbers.specs.Texts.{number_of}
use Rattle.pq_numbers.specs.Varint.{IsNumber}

-- The bytes are runs of numbers of w bits that spell the list, with no byte behind the last one that the list needs.
-- A run's header is a varint. An even one, 2 m, says that the next number, in whole bytes, stands m times.
-- An odd one, 2 g + 1, says that g groups of eight packed numbers follow.
-- The last run may spell more numbers than are needed, and a last packed one may end behind the last needed byte.
pub data Runs (w : ℕ) : List ℕ → List ℕ → Type 0 where
  no_more : Runs w [] []
  no_bits : (n : ℕ) → w ≡ 0 → Runs w [] (replicate n 0)
  copies : (m : ℕ) (head value rest : List ℕ) (v : ℕ) (vs : List ℕ) →
      IsNumber head (2 * m) → length value ≡ bytes_for w → Runs w rest (v ∷ vs) →
      Runs w (head ++ (value ++ rest)) (replicate m (number_of value) ++ v ∷ vs)
  last_copies : (m n : ℕ) (head value : List ℕ) →
      IsNumber head (2 * m) → length value ≡ bytes_for w → 0 < n → n ≤ m →
      Runs w (head ++ value) (replicate n (number_of value))
  groups : (g : ℕ) (head body rest : List ℕ) (v : ℕ) (vs : List ℕ) →
      IsNumber head (2 * g + 1) → length body ≡ w * g → Runs w rest (v ∷ vs) →
      Runs w (head ++ (body ++ rest)) (unpacked w (8 * g) body ++ v ∷ vs)
  last_groups : (g n : ℕ) (head body : List ℕ) →
      IsNumber head (2 * g + 1) → 0 < n → n ≤ 8 * g → w * n ≤ 8 * length body → length body ≤ w * g →
      Runs w (head ++ body) (unpacked w n body)
