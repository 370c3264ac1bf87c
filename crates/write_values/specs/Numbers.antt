-- Values by position, and the physical types of numbers.
use Rattle.std.specs.Prelude.{◌≡◌, ◌≢◌, ℕ, List, Bool, true, false, slice_index_or}
use Rattle.std.proofs.Common.{true≢false, sym}
use Rattle.shredding.specs.Slot.{Value, truth}
use Rattle.pq_tree.specs.Physical.{Physical, boolean, int32, int64, int96, float, double, byte_array, fixed}

-- numbers of 32 or 64 bits
abbrev pub is_number : Physical → Bool
is_number int32 = true
is_number int64 = true
is_number p = false

-- what stands at a position of a list of values, and false past the end
abbrev pub at_place : List Value → ℕ → Value
at_place vs i = slice_index_or vs i (truth false)

-- ---- spelled one behind the other, and not as bits

pub numbers_in_a_row : (p : Physical) → is_number p ≡ true → p ≢ boolean
numbers_in_a_row boolean e = absurd (true≢false (sym e))
numbers_in_a_row int32 e = λ h. cc
numbers_in_a_row int64 e = λ h. cc
numbers_in_a_row int96 e = absurd (true≢false (sym e))
numbers_in_a_row float e = absurd (true≢false (sym e))
numbers_in_a_row double e = absurd (true≢false (sym e))
numbers_in_a_row byte_array e = absurd (true≢false (sym e))
numbers_in_a_row (fixed n) e = absurd (true≢false (sym e))

pub strings_in_a_row : byte_array ≢ boolean
strings_in_a_row = λ e. cc

pub fixed_in_a_row : (n : ℕ) → fixed n ≢ boolean
fixed_in_a_row n = λ e. cc
