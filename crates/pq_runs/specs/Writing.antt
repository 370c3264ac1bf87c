-- Runs on the way.
use Rattle.std.specs.Prelude.{◌≡◌, ℕ, ◌+◌, ◌*◌, ◌<◌, ◌≤◌, ◌^◌, List, ◌++◌, length, replicate, All}
use Rattle.pq_numbers.specs.Bits.{bytes_for}
use Rattle.pq_numbers.specs.Texts.{number_of}
use Rattle.pq_runs.specs.Stretches.{IsShort, Spent}
use Rattle.pq_runs.specs.WrittenRuns.{WrittenRuns}

-- what stood there still stands in front
pub record Extends (old new : List ℕ) : Type 0 where
  pub text : List ℕ
  pub parts : new ≡ old ++ text

-- What is appended is written runs of the list, in little more than w bits a number (one byte for 504 of them, and the last group's surplus and
-- its header), and equal numbers are repeated.
pub record AppendsRuns (w : ℕ) (start out xs : List ℕ) : Type 0 where
  pub text : List ℕ
  pub parts : out ≡ start ++ text
  pub runs : WrittenRuns w text xs
  pub size : 504 * length text ≤ (63 * w + 1) * length xs + 441 * w + 504
  pub short : IsShort w text xs

-- ---- what a writer keeps

-- whole runs, behind which any runs may follow
abbrev pub Closed : ℕ → List ℕ → List ℕ → Type 0
Closed w text xs = (rest vs : List ℕ) → WrittenRuns w rest vs → WrittenRuns w (text ++ rest) (xs ++ vs)

-- What has been written since the start is whole runs of all the numbers but those that are pending.
pub record Wrote (w : ℕ) (start out pending xs : List ℕ) : Type 0 where
  pub text : List ℕ
  pub done : List ℕ
  pub parts : out ≡ start ++ text
  pub all : done ++ pending ≡ xs
  pub closed : Closed w text done

-- the bytes of one number
pub record IsWhole (w v : ℕ) (text : List ℕ) : Type 0 where
  pub size : length text ≡ bytes_for w
  pub value : number_of text ≡ v

-- so many copies of a number are all that has not been written and is not pending
pub record Encoded (w : ℕ) (start out pending : List ℕ) (number count : ℕ) (xs : List ℕ) : Type 0 where
  pub settled : List ℕ
  pub all : settled ++ replicate count number ≡ xs
  pub wrote : Wrote w start out pending settled

-- What a writer keeps back: numbers that are to be packed, and copies of a number that wait for the next one.
pub record Waiting : Type 0 where
  pub width : ℕ
  pub block : List ℕ
  pub number : ℕ
  pub count : ℕ

-- its numbers have as many bits as the width says, from 1 to 32, and the block has room for one more
pub record IsReady (w : Waiting) : Type 0 where
  pub some : 1 ≤ w.width
  pub most : w.width ≤ 32
  pub room : length w.block < 504
  pub below : All (λ v. v < 2 ^ w.width) w.block
  pub fits : w.number < 2 ^ w.width
  pub few : w.count < 2 ^ 61

-- Text of so many bytes behind start holds so many numbers of w bits, in little more than w bits each: one byte for 504 of them.
abbrev pub IsTight : ℕ → ℕ → ℕ → ℕ → Type 0
IsTight w start out done = 504 * out ≤ (63 * w + 1) * done + 504 * start

-- What has been written since the start, and what waits, are all the numbers. Of what waits the copies are no new stretch.
pub record Keeps (start out : List ℕ) (w : Waiting) (xs : List ℕ) : Type 0 where
  pub encoded : Encoded w.width start out w.block w.number w.count xs
  pub done : ℕ
  pub split : done + length w.block + w.count ≡ length xs
  pub tight : IsTight w.width (length start) (length out) done
  pub spent : Spent w.width start out w.block w.count xs
