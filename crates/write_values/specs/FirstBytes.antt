-- Byte strings by their first bytes.
use Rattle.std.specs.Prelude.{◌≡◌, ℕ, zero, suc, ◌+◌, ◌*◌, ◌^◌, ◌<◌, List, [], ◌∷◌, length}
use Rattle.std.specs.List.{AllByRecursion}
use Rattle.shredding.specs.Slot.{Value, bytes}
use Rattle.columns_slots.specs.Bytes.{pieces_values}
use Rattle.page_statistics.specs.declared.seen.Extremes.{Extremes}
use Rattle.write_values.specs.Numbers.{at_place}
use Rattle.write_values.specs.declared.fronts.Front.{Front}
use Rattle.write_values.specs.declared.fronts.Fronts.{Fronts}

-- the number of the first n bytes, the first one the highest, with zeros behind a shorter list
abbrev pub front : ℕ → List ℕ → ℕ
front zero s = 0
front (suc n) [] = 0
front (suc n) (b ∷ s) = b * 256 ^ n + front n s

-- the number of the first 16 bytes of a string
pub record IsFront (n : ℕ) (v : Value) : Type 0 where
  pub text : List ℕ
  pub value_is : v ≡ bytes text
  pub small : AllByRecursion (λ b. b < 256) text
  pub is : n ≡ front 16 text

-- that of the string at a place
pub record IsFrontAt (os bs : List ℕ) (f : Front) : Type 0 where
  pub within : f.place + 1 < length os
  pub is : IsFront f.front (at_place (pieces_values os bs) f.place)

-- those of two strings
pub record AreFronts (os bs : List ℕ) (f : Fronts) : Type 0 where
  pub least : IsFrontAt os bs f.least
  pub greatest : IsFrontAt os bs f.greatest

-- their places
abbrev pub places_of : Fronts → Extremes
places_of f = record { least = f.least.place; greatest = f.greatest.place }
