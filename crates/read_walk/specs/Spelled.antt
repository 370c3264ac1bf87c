-- The pairs of a page by the grammar of its level sections (Parquet format, "Nested Encoding" and Encodings).
use Rattle.std.specs.Prelude.{◌≡◌, ◌↔◌, ℕ, ◌≤◌, List, [], ◌∷◌, length, ⊤}
use Rattle.pq_numbers.specs.Texts.{Begins}
use Rattle.pq_runs.specs.Runs.{Runs}
use Rattle.read_walk.specs.Pairs.{page_items, pair_items}

-- no level is above the greatest
unfoldable pub NoneAbove : (max : ℕ) → List ℕ → Type 0
NoneAbove max [] = ⊤
NoneAbove max (level ∷ levels) = (level ≤ max) × NoneAbove max levels

-- the section begins with runs of the levels, none of which is above the greatest
pub record HasLevels (max width : ℕ) (section levels : List ℕ) : Type 0 where
  pub runs : Begins (Runs width) section levels
  pub within : NoneAbove max levels

-- A page gives exactly these pairs, as many as are called for, where its sections have these levels, and else a fault stands among its items.
abbrev pub PairsAreRead : Type 0
PairsAreRead =
    (max_rep rep_width max_def def_width n : ℕ) (rep_section def_section reps defs : List ℕ) → length reps ≡ n → length defs ≡ n →
    (HasLevels max_rep rep_width rep_section reps × HasLevels max_def def_width def_section defs)
    ↔ (page_items max_rep rep_width max_def def_width n rep_section def_section ≡ pair_items reps defs)
