-- Runs and deltas as the standard spells them, and texts that spell none.
use Rattle.std.specs.Prelude.{◌≡◌, ℕ, ℤ, pos, negsuc, List, [], ◌∷◌, true, false}
use Rattle.std.specs.Int.{w32, w64}
use Rattle.pq_runs.specs.Delta.{IsDelta}
use Rattle.pq_runs.specs.Runs.{Runs}
use Rattle.pq_runs.specs.Spelled.{Spelled}
use Rattle.pq_runs.specs.Stretches.{stretches}
use Rattle.pq_runs.specs.WrittenDelta.{IsWrittenDelta}
use Rattle.pq_runs.specs.WrittenRuns.{WrittenRuns}

-- the standard's example of bit packing: 0 to 7 in three bits each
abbrev pub packed : List ℕ
packed = 136 ∷ 198 ∷ 250 ∷ []

pub record RunsAreWorked : Type 0 where
  -- one group of eight
  pub group : Runs 3 (3 ∷ packed) (0 ∷ 1 ∷ 2 ∷ 3 ∷ 4 ∷ 5 ∷ 6 ∷ 7 ∷ [])
  -- surplus numbers are ignored, and a last group may end behind the last needed byte
  pub fewer : Runs 1 (3 ∷ 2 ∷ []) (0 ∷ 1 ∷ 0 ∷ 0 ∷ 0 ∷ [])
  pub cut : Runs 3 (3 ∷ 136 ∷ []) (0 ∷ 1 ∷ [])
  pub copies_of_one : Runs 1 (8 ∷ 1 ∷ []) (1 ∷ 1 ∷ 1 ∷ 1 ∷ [])
  -- two copies of 5, and a group behind them
  pub both : Runs 3 (4 ∷ 5 ∷ 3 ∷ packed) (5 ∷ 5 ∷ 0 ∷ 1 ∷ 2 ∷ 3 ∷ 4 ∷ 5 ∷ 6 ∷ 7 ∷ [])
  -- a repeated number stands in whole bytes, lowest first
  pub two_bytes : Runs 9 (2 ∷ 0 ∷ 1 ∷ []) (256 ∷ [])
  pub four_bytes : Runs 32 (4 ∷ 1 ∷ 0 ∷ 0 ∷ 128 ∷ []) (2147483649 ∷ 2147483649 ∷ [])
  pub no_bits : Runs 0 [] (0 ∷ 0 ∷ 0 ∷ [])
  pub nothing : Runs 7 [] []
  -- what isn't there
  pub group_cut : (xs : List ℕ) → Spelled 3 3 (3 ∷ 136 ∷ []) xs → ⊥
  pub no_number : (xs : List ℕ) → Spelled 1 1 (8 ∷ []) xs → ⊥
  pub number_cut : (xs : List ℕ) → Spelled 32 1 (4 ∷ 1 ∷ 0 ∷ 0 ∷ []) xs → ⊥
  pub too_few : (xs : List ℕ) → Spelled 1 5 (8 ∷ 1 ∷ []) xs → ⊥
  pub no_header : (xs : List ℕ) → Spelled 1 1 (128 ∷ []) xs → ⊥
  pub only_zeros : Spelled 0 1 [] (1 ∷ []) → ⊥
  pub other : Spelled 1 2 (8 ∷ 1 ∷ []) (1 ∷ 0 ∷ []) → ⊥
  -- equal numbers side by side are one stretch
  pub three_stretches : stretches (5 ∷ 5 ∷ 2 ∷ 2 ∷ 2 ∷ 5 ∷ []) ≡ 3
  pub one_stretch : stretches (0 ∷ 0 ∷ []) ≡ 1
  pub no_stretch : stretches [] ≡ 0

-- runs as they are written, and spellings that are read and not written
pub record WrittenRunsAreWorked : Type 0 where
  pub group : WrittenRuns 3 (3 ∷ packed) (0 ∷ 1 ∷ 2 ∷ 3 ∷ 4 ∷ 5 ∷ 6 ∷ 7 ∷ [])
  -- five numbers, and zeros that fill their group up
  pub filled : WrittenRuns 1 (3 ∷ 2 ∷ []) (0 ∷ 1 ∷ 0 ∷ 0 ∷ 0 ∷ [])
  pub copies_of_one : WrittenRuns 1 (8 ∷ 1 ∷ []) (1 ∷ 1 ∷ 1 ∷ 1 ∷ [])
  pub both : WrittenRuns 3 (4 ∷ 5 ∷ 3 ∷ packed) (5 ∷ 5 ∷ 0 ∷ 1 ∷ 2 ∷ 3 ∷ 4 ∷ 5 ∷ 6 ∷ 7 ∷ [])
  pub no_bits : WrittenRuns 0 [] (0 ∷ 0 ∷ 0 ∷ [])
  pub nothing : WrittenRuns 7 [] []
  -- a group that is cut behind its last needed byte
  pub cut : (xs : List ℕ) → WrittenRuns 3 (3 ∷ 136 ∷ []) xs → ⊥
  -- runs of nothing
  pub no_copy : (xs : List ℕ) → WrittenRuns 1 (0 ∷ 1 ∷ []) xs → ⊥
  pub no_group : (xs : List ℕ) → WrittenRuns 1 (1 ∷ []) xs → ⊥
  -- a surplus bit that is set
  pub surplus : WrittenRuns 1 (3 ∷ 34 ∷ []) (0 ∷ 1 ∷ 0 ∷ 0 ∷ 0 ∷ []) → ⊥
  -- a header with a byte of padding
  pub padded : (xs : List ℕ) → WrittenRuns 1 (136 ∷ 0 ∷ 1 ∷ []) xs → ⊥
  -- a copy and a group more than there are numbers
  pub needless_copy : WrittenRuns 1 (8 ∷ 1 ∷ []) (1 ∷ 1 ∷ 1 ∷ []) → ⊥
  pub needless_group : WrittenRuns 1 (5 ∷ 2 ∷ 0 ∷ []) (0 ∷ 1 ∷ 0 ∷ 0 ∷ 0 ∷ []) → ⊥

-- blocks of 128 in 4 miniblocks, eight numbers, the first is 7; the least delta is -2, and seven deltas stand in two bits each
abbrev pub deltas : List ℕ
deltas = 128 ∷ 1 ∷ 4 ∷ 8 ∷ 14 ∷ 3 ∷ 2 ∷ 0 ∷ 0 ∷ 0 ∷ 192 ∷ 63 ∷ []

abbrev pub numbers : List ℤ
numbers = pos 7 ∷ pos 5 ∷ pos 3 ∷ pos 1 ∷ pos 2 ∷ pos 3 ∷ pos 4 ∷ pos 5 ∷ []

pub record DeltasAreWorked : Type 0 where
  pub spelled : IsDelta w64 true deltas numbers
  pub narrow : IsDelta w32 true deltas numbers
  -- no numbers
  pub none : IsDelta w64 false (128 ∷ 1 ∷ 4 ∷ 0 ∷ 0 ∷ []) []
  -- one number and no block
  pub one : IsDelta w64 false (128 ∷ 1 ∷ 4 ∷ 1 ∷ 1 ∷ []) (negsuc 0 ∷ [])
  -- from 2 ^ 31 - 1 one further, which wraps in 32 bits
  pub wraps : IsDelta w32 true (128 ∷ 1 ∷ 4 ∷ 2 ∷ 254 ∷ 255 ∷ 255 ∷ 255 ∷ 15 ∷ 2 ∷ 0 ∷ 0 ∷ 0 ∷ 0 ∷ []) (pos 2147483647 ∷ negsuc 2147483647 ∷ [])
  -- three times 2 ^ 31 - 1 further, which wraps once and again
  pub wraps_again : IsDelta w32 true (128 ∷ 1 ∷ 4 ∷ 4 ∷ 0 ∷ 254 ∷ 255 ∷ 255 ∷ 255 ∷ 15 ∷ 0 ∷ 0 ∷ 0 ∷ 0 ∷ []) (pos 0 ∷ pos 2147483647 ∷ negsuc 1 ∷ pos 2147483645 ∷ [])
  -- what isn't there: the last byte, a miniblock's other bytes where it may not be cut, the header, blocks of 128
  pub last_byte : (zs : List ℤ) → IsDelta w64 true (128 ∷ 1 ∷ 4 ∷ 8 ∷ 14 ∷ 3 ∷ 2 ∷ 0 ∷ 0 ∷ 0 ∷ 192 ∷ []) zs → ⊥
  pub not_whole : (zs : List ℤ) → IsDelta w64 false deltas zs → ⊥
  pub no_bytes : (zs : List ℤ) → IsDelta w64 true [] zs → ⊥
  pub block_of_64 : (zs : List ℤ) → IsDelta w64 true (64 ∷ 4 ∷ 0 ∷ 0 ∷ []) zs → ⊥

-- Deltas as they are written, and spellings that are read and not written: eight numbers, of which seven differences stand in w bits each.
abbrev pub eight_from : ℕ → List ℕ → List ℕ
eight_from w body = 128 ∷ 1 ∷ 4 ∷ 8 ∷ 14 ∷ 3 ∷ w ∷ 0 ∷ 0 ∷ 0 ∷ body

pub record WrittenDeltasAreWorked : Type 0 where
  pub spelled : IsWrittenDelta w64 (eight_from 2 (192 ∷ 63 ∷ 0 ∷ 0 ∷ 0 ∷ 0 ∷ 0 ∷ 0 ∷ [])) numbers
  pub none : IsWrittenDelta w64 (128 ∷ 1 ∷ 4 ∷ 0 ∷ 0 ∷ []) []
  -- from 2 ^ 31 - 1 one further, which wraps in 32 bits
  pub wraps : IsWrittenDelta w32 (128 ∷ 1 ∷ 4 ∷ 2 ∷ 254 ∷ 255 ∷ 255 ∷ 255 ∷ 15 ∷ 2 ∷ 0 ∷ 0 ∷ 0 ∷ 0 ∷ []) (pos 2147483647 ∷ negsuc 2147483647 ∷ [])
  -- a miniblock that is cut behind its last needed byte
  pub cut : (zs : List ℤ) → IsWrittenDelta w64 (eight_from 2 (192 ∷ 63 ∷ [])) zs → ⊥
  -- a surplus number that is not 0
  pub surplus : (zs : List ℤ) → IsWrittenDelta w64 (eight_from 2 (192 ∷ 63 ∷ 0 ∷ 0 ∷ 0 ∷ 0 ∷ 0 ∷ 64 ∷ [])) zs → ⊥
  -- a bit more than the numbers need
  pub too_wide : (zs : List ℤ) → IsWrittenDelta w64 (eight_from 3 (0 ∷ 182 ∷ 13 ∷ 0 ∷ 0 ∷ 0 ∷ 0 ∷ 0 ∷ 0 ∷ 0 ∷ 0 ∷ 0 ∷ [])) zs → ⊥
  -- a count with a byte of padding
  pub padded : (zs : List ℤ) → IsWrittenDelta w64 (128 ∷ 1 ∷ 4 ∷ 136 ∷ 0 ∷ 14 ∷ 3 ∷ 2 ∷ 0 ∷ 0 ∷ 0 ∷ 192 ∷ 63 ∷ 0 ∷ 0 ∷ 0 ∷ 0 ∷ 0 ∷ 0 ∷ []) zs → ⊥

pub record AreWorked : Type 0 where
  pub runs : RunsAreWorked
  pub written_runs : WrittenRunsAreWorked
  pub deltas : DeltasAreWorked
  pub written_deltas : WrittenDeltasAreWorked
