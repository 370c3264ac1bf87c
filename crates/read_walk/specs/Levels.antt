-- What is left of the levels of a page.
use Rattle.std.specs.Prelude.{◌≡◌, ℕ, ◌-◌, ◌<◌, ◌≤◌, false, List, ◌++◌, length}
use Rattle.read_walk.specs.LevelRuns.{runs_left, IsReading}
use Rattle.read_walk.specs.Pairs.{Item, block_items, behind}
use Rattle.read_walk.specs.declared.levels.Levels.{Levels}
use Rattle.read_walk.specs.declared.runs.LevelRuns.{LevelRuns}

unfoldable pub levels_left : Levels → List Item
levels_left l = block_items l.rep_block l.def_block l.at (l.end - l.at) ++ behind l.max_rep l.max_def l.failed (runs_left l.reps) (runs_left l.defs)

pub record IsLevels (l : Levels) : Type 0 where
  pub ordered : l.at ≤ l.end
  pub within : l.end ≤ 64
  pub rep_size : length l.rep_block ≡ 64
  pub def_size : length l.def_block ≡ 64
  pub reps : IsReading l.reps
  pub defs : IsReading l.defs

-- No unpacked pair is left, the next 64 repetition levels are 0 in copies, and so many rows are wanted.
pub record IsFlatNext (l : Levels) (rows : ℕ) : Type 0 where
  pub used : l.end ≤ l.at
  pub goes_on : l.failed ≡ false
  pub copies : 64 ≤ l.reps.copies
  pub zeros : l.reps.number ≡ 0
  pub wanted : 64 ≤ rows

-- No unpacked pair is left, no fault stands behind them, and the greatest levels are not below those of a way.
pub record IsUsedUp (l : Levels) (lists top : ℕ) : Type 0 where
  pub used : l.end ≤ l.at
  pub goes_on : l.failed ≡ false
  pub rep_most : lists ≤ l.max_rep
  pub def_most : top ≤ l.max_def

-- 64 levels stand packed, of one bit each from a whole byte on, or of two or three bits each
pub record ArePacked (r : LevelRuns) : Type 0 where
  pub none : r.copies ≡ 0
  pub there : 64 ≤ r.standing
  pub some : 1 ≤ r.runs.num_bits
  pub narrow : r.runs.num_bits ≤ 3
  pub whole : r.runs.num_bits < 2 → r.shift ≡ 0
