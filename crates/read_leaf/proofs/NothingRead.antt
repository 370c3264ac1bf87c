-- Nothing is a value of a type without values.
use Rattle.std.proofs.Common.{inl, inr, ℕ, zero, suc, ◌/◌, ◌<◌, ◌≤◌, None, List, [], map, length, drop, refl, arith}
use Rattle.columns_base.specs.declared.error.Error.TheVariants.{OutOfSpec}
use Rattle.columns_base.specs.declared.error.S.TheVariants.{S6, S7}
use Rattle.shredding.specs.Slot.{Slot}
use Rattle.read_walk.specs.Values.{Stored, CannotDecode, IsOneOutside}
use Rattle.read_leaf.specs.Numbers.{loaded_value, plain_numbers, stored_numbers}
use Rattle.read_leaf.specs.PlainValues.{spelled_32}
use Rattle.read_leaf.proofs.NumberSlots.{too-few}

abbrev nothing_in : List ℕ → List Stored
nothing_in text = stored_numbers (λ z. None) spelled_32 4 text

pub missing : (n : ℕ) (text : List ℕ) (slots : List Slot) → length text / 4 < n → CannotDecode 1 n (nothing_in text) slots (OutOfSpec S6)
missing n text slots h = inr (inl (refl, too-few (λ z. None) spelled_32 4 n text h))

first-outside : (k n : ℕ) (text : List ℕ) → 0 < n → n ≤ k → IsOneOutside n (map (loaded_value (λ z. None)) (plain_numbers spelled_32 4 k text))
first-outside zero n text some h = absurd (omega (arith, some, h))
first-outside (suc k) n text some h = record { values = []; rest = map (loaded_value (λ z. None)) (plain_numbers spelled_32 4 k (drop 4 text)); next = refl; within = some }

pub present : (n : ℕ) (text : List ℕ) (slots : List Slot) → 0 < n → n ≤ length text / 4 → CannotDecode 1 n (nothing_in text) slots (OutOfSpec S7)
present n text slots some h = inr (inr (inl (refl, first-outside (length text / 4) n text some h)))
