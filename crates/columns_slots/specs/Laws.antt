-- The laws of arrays.
use Rattle.std.specs.Prelude.{◌≡◌, ℕ, true, ◌+◌, ◌-◌, ◌*◌, ◌≤◌, List, length, take, drop, All}
use Rattle.shredding.specs.Shape.{IsOf}
use Rattle.columns_core.specs.Shapes.{type_shape}
use Rattle.columns_slots.specs.Tree.{ArrayTree}
use Rattle.columns_slots.specs.Slots.{slots, tree_len, type_of, cut, IsSound, mask_of, is_masked, nulls_in, null_slots}
use Rattle.columns_slots.specs.Loose.{loose}
use Rattle.columns_slots.specs.Bytes.{pieces, chunks}

-- an array has a slot for each position
abbrev pub SlotsAreCounted : Type 0
SlotsAreCounted = (a : ArrayTree) → length (slots a) ≡ tree_len a

-- what a cut of a sound array is
pub record IsCut (a : ArrayTree) (o n : ℕ) : Type 0 where
  pub slots_are : slots (cut a o n) ≡ take n (drop o (slots a))
  pub sound : IsSound (cut a o n)
  pub len : tree_len (cut a o n) ≡ n
  pub typed : type_of (cut a o n) ≡ type_of a

-- a cut stands for the cut of the slots, and is an array of the same type
abbrev pub CutsAreOfSlots : Type 0
CutsAreOfSlots = (a : ArrayTree) (o n : ℕ) → IsSound a → o + n ≤ tree_len a → IsCut a o n

-- a cut of a cut is one cut
abbrev pub CutsOfCuts : Type 0
CutsOfCuts = (a : ArrayTree) (o n p m : ℕ) → p + m ≤ n → cut (cut a o n) p m ≡ cut a (o + p) m

-- the slots are of the type, where each part counts as nullable
abbrev pub SlotsAreOfType : Type 0
SlotsAreOfType = (a : ArrayTree) → IsSound a → All (IsOf (loose (type_shape true (type_of a)))) (slots a)

-- cut offsets give the cut strings
abbrev pub PiecesOfCuts : Type 0
PiecesOfCuts = (os bs : List ℕ) (o n : ℕ) → o + n ≤ length os - 1 → pieces (take (n + 1) (drop o os)) bs ≡ take n (drop o (pieces os bs))

-- strings of a width, cut
abbrev pub ChunksOfCuts : Type 0
ChunksOfCuts = (width count o n : ℕ) (bs : List ℕ) → o + n ≤ count → chunks width n (take (n * width) (drop (o * width) bs)) ≡ take n (drop o (chunks width count bs))

-- the null slots are counted by the mask, where the array has its own
abbrev pub NullsAreMasked : Type 0
NullsAreMasked = (a : ArrayTree) → IsSound a → is_masked a ≡ true → null_slots a ≡ nulls_in (mask_of a)
