-- The hybrid of run lengths and packed bits as it is written, one exact spelling of each run (Parquet format, Encodings,
-- "Run Length Encoding / Bit-Packing Hybrid"). Level sections, dictionary indices and truth values share it.
use Rattle.std.specs.Prelude.{◌≡◌, ℕ, ◌+◌, ◌*◌, ◌^◌, ◌<◌, ◌≤◌, List, [], ◌++◌, length, replicate}
use Rattle.pq_numbers.specs.Bits.{bytes_for, unpacked}
use Rattle.pq_numbers.specs.Texts.{number_of}
use Rattle.pq_numbers.specs.Varint.{varint}
use Rattle.pq_runs.specs.Runs.{Runs}

-- The bytes are runs of numbers of w bits that spell the list, and nothing else. Headers have no padding, and no run is empty. A repeated run has
-- exactly the copies that stand in the list. Packed runs are whole groups of eight. The last one may have fewer numbers than its groups hold, by
-- less than eight, and the surplus ones are 0. Where the numbers have no bits there is no byte.
pub data WrittenRuns (w : ℕ) : List ℕ → List ℕ → Type 0 where
  no_more : WrittenRuns w [] []
  no_bits : (n : ℕ) → w ≡ 0 → WrittenRuns w [] (replicate n 0)
  copies : (m v : ℕ) (value rest vs : List ℕ) →
      0 < w → 0 < m → m < 2 ^ 63 → length value ≡ bytes_for w → number_of value ≡ v → v < 2 ^ w → WrittenRuns w rest vs →
      WrittenRuns w (varint (2 * m) ++ (value ++ rest)) (replicate m v ++ vs)
  groups : (g : ℕ) (body rest vs : List ℕ) →
      0 < w → 0 < g → g < 2 ^ 63 → length body ≡ w * g → WrittenRuns w rest vs →
      WrittenRuns w (varint (2 * g + 1) ++ (body ++ rest)) (unpacked w (8 * g) body ++ vs)
  last_groups : (g k : ℕ) (body xs : List ℕ) →
      0 < w → 0 < g → g < 2 ^ 63 → k < 8 → length body ≡ w * g → unpacked w (8 * g) body ≡ xs ++ replicate k 0 →
      WrittenRuns w (varint (2 * g + 1) ++ body) xs

-- ---- laws

-- what is written is read
abbrev pub WrittenRunsAreRuns : Type 0
WrittenRunsAreRuns = (w : ℕ) (text xs : List ℕ) → WrittenRuns w text xs → Runs w text xs

-- Runs that are written take at most the bytes of each number and one more, and what fills a group up: up to 8 bits 2 n + 7 bytes, up to 32 bits
-- 5 n + 28.
abbrev pub WrittenRunsAreShort : Type 0
WrittenRunsAreShort = (w : ℕ) (text xs : List ℕ) → WrittenRuns w text xs → length text ≤ (bytes_for w + 1) * length xs + 7 * bytes_for w
