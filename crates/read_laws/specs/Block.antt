-- A block of pairs taken part by part: each part goes over all pairs before the part beneath it does.
use Rattle.std.specs.Prelude.{◌≡◌, ℕ, ◌+◌, Bool, cond, ◌&&◌, List, [], ◌∷◌, map}
use Rattle.read_laws.specs.State.{Kept, count, StateFits}
use Rattle.read_laws.specs.Step.{bit, pushes, pushed, gain, is_list, is_there, hides, growth, step}

-- a pair, and whether it pushes beneath a struct's null
pub record Mark : Type 0 where
  pub repetition : ℕ
  pub definition : ℕ
  pub hidden : Bool

abbrev pub marks_part : ℕ → ℕ → Mark → Bool
marks_part depth def m = pushes m.repetition m.definition m.hidden depth def

-- the same pair for the part beneath
abbrev pub beneath : Kept → ℕ → ℕ → Mark → Mark
beneath k depth def m = record { repetition = m.repetition; definition = m.definition; hidden = marks_part depth def m && hides k m.definition def }

-- by how much the part beneath grows
abbrev pub grows_by : Kept → ℕ → ℕ → Mark → ℕ
grows_by k depth def m = bit (marks_part (depth + bit (is_list k)) (def + gain k) (beneath k depth def m))

-- what the pairs make of one part, where the part beneath has so many slots before them
abbrev pub pushed_all : Kept → ℕ → ℕ → ℕ → List Mark → Kept
pushed_all k place depth def [] = k
pushed_all k place depth def (m ∷ ms) =
    pushed_all (cond (marks_part depth def m) (pushed k place (growth m.repetition m.definition k depth def) (is_there k m.definition def) 1) k) (place + grows_by k depth def m) depth def ms

-- what the pairs make of all parts
abbrev pub block : List Mark → ℕ → ℕ → List Kept → List Kept
block ms depth def [] = []
block ms depth def (k ∷ ks) = pushed_all k (count ks) depth def ms ∷ block (map (beneath k depth def) ms) (depth + bit (is_list k)) (def + gain k) ks

-- pair by pair
abbrev pub walk : List Mark → List Kept → List Kept
walk [] ks = ks
walk (m ∷ ms) ks = walk ms (step 1 m.repetition m.definition m.hidden 0 0 ks)

-- each state on the way fits
abbrev pub AllFit : List Mark → List Kept → Type 0
AllFit [] ks = Unit {0}
AllFit (m ∷ ms) ks = StateFits ks × AllFit ms (step 1 m.repetition m.definition m.hidden 0 0 ks)

-- a block part by part is the block pair by pair
abbrev pub BlocksAreWalks : Type 0
BlocksAreWalks = (ms : List Mark) (ks : List Kept) → AllFit ms ks → block ms 0 0 ks ≡ walk ms ks
