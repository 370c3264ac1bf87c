-- Where the entries of a dictionary page stand (Parquet format, "Dictionary Page").
use Rattle.std.specs.Prelude.{◌≡◌, ℕ, ◌+◌, ◌*◌, ◌<◌, ◌≤◌, Some, List, [], ◌∷◌, ◌++◌, map, length, take, drop, slice_get, All}
use Rattle.std.specs.List.{AllZip}
use Rattle.shredding.specs.Slot.{Value}
use Rattle.read_pieces.specs.Leaves.{IsValue}
use Rattle.read_walk.specs.Values.{Stored}
use Rattle.read_column.specs.Dictionary.{IsPlaceIn, Texts, all_of, text_at}
use Rattle.read_column.specs.declared.entries.Place.{Place}

-- the places of values from the front on, up to an end
pub record ArePlacesTo (stored : List ℕ → List Stored) (body : List ℕ) (places : List Place) (end : ℕ) : Type 0 where
  pub within : All (IsPlaceIn (length body)) places
  pub last : end ≤ length body
  pub values : List Value
  pub are : AllZip (IsValue stored) (map (text_at body) places) values
  pub parts : all_of (map (text_at body) places) ≡ take end body
  pub read : stored body ≡ map Some values ++ stored (drop end body)

-- of so many
pub record ArePlaces (stored : List ℕ → List Stored) (body : List ℕ) (places : List Place) (n : ℕ) : Type 0 where
  pub count : length places ≡ n
  pub end : ℕ
  pub to : ArePlacesTo stored body places end

-- it lies in so many bytes, with 32 behind it
abbrev pub IsPadded : ℕ → Place → Type 0
IsPadded n p = (p.start ≤ p.end) × (p.end + 32 ≤ n)

-- from a place on each entry has so many bytes, one behind the other
abbrev pub AreInRow : ℕ → ℕ → List Place → Type 0
AreInRow n start [] = Unit {0}
AreInRow n start (p ∷ ps) = (p.start ≡ start) × (p.end ≡ start + n) × AreInRow n (start + n) ps

-- each entry has so many bytes, and they stand one behind the other at the front of the body
abbrev pub AreEven : ℕ → List ℕ → Texts → Type 0
AreEven n body texts = (i : ℕ) → i < length texts → (n * i + n ≤ length body) × (slice_get texts i ≡ Some (take n (drop (n * i) body)))
