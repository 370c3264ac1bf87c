-- One key of a dictionary.
use Rattle.std.specs.Prelude.{◌≡◌, ℕ, ℤ, pos, ◌<◌, List, true, slice_index_or}
use Rattle.shredding.specs.Parts.{keeps}
use Rattle.columns_core.specs.Rising.{IsWhole}
use Rattle.columns_slots.specs.Tree.{Mask}
use Rattle.columns_slots.specs.Slots.{entry_at}

-- the key at a position, if it is not null, numbers one of n entries
abbrev pub IsKey : Mask → List ℤ → ℕ → ℕ → Type 0
IsKey m ks n i = keeps m i ≡ true → IsWhole (slice_index_or ks i (pos 0)) × (entry_at ks i < n)
