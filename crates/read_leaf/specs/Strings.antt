-- Plain byte strings, and what is decoded of them (Parquet format, Encodings, "Plain"; Arrow columnar format, "Variable-size Binary Layout").
use Rattle.std.specs.Prelude.{◌≡◌, ℕ, zero, suc, ◌+◌, ◌<◌, ◌≤◌, Bool, true, false, ◌&&◌, ◌⊎◌, nat_lt, Option, Some, None, List, [], ◌∷◌, ◌++◌, map, length, take, drop, slice_index, if◌then◌else◌, IsUtf8}
use Rattle.shredding.specs.Slot.{bytes, Slot, null, value}
use Rattle.columns_core.specs.Rising.{last_place}
use Rattle.columns_slots.specs.Bytes.{pieces}
use Rattle.pq_numbers.specs.Texts.{number_of}
use Rattle.columns_base.specs.declared.error.Error.{Error}
use Rattle.columns_base.specs.declared.error.Error.TheVariants.{Memory, OutOfSpec, Overflow}
use Rattle.columns_base.specs.declared.error.S.TheVariants.{S6, S7}
use Rattle.columns_base.specs.declared.error.V.TheVariants.{V1}
use Rattle.read_walk.specs.Values.{Stored, bytes_in, ones, spread, CannotDecode}

-- ---- stored strings

-- The string at the front and the bytes behind it: four bytes with its length, lowest first, and as many bytes. None where any of them is cut.
abbrev pub string_at : List ℕ → Option (List ℕ × List ℕ)
string_at text =
    if nat_lt (length text) 4 then None
    else if nat_lt (length (drop 4 text)) (number_of (take 4 text)) then None
    else Some (take (number_of (take 4 text)) (drop 4 text), drop (number_of (take 4 text)) (drop 4 text))

-- each string as far as they stand; the first number bounds them, and that of the bytes is always enough, since each string has four
abbrev pub strings_behind : (List ℕ → List (List ℕ)) → Option (List ℕ × List ℕ) → List (List ℕ)
strings_behind others None = []
strings_behind others (Some s) = s.0 ∷ others s.1

unfoldable pub strings_in : ℕ → List ℕ → List (List ℕ)
strings_in zero text = []
strings_in (suc fuel) text = strings_behind (strings_in fuel) (string_at text)

abbrev pub all_strings : List ℕ → List (List ℕ)
all_strings text = strings_in (length text) text

-- UTF-8. It stands for itself, so that the search does not look into it.
unfoldable pub IsText : List ℕ → Type 0
IsText s = IsUtf8 s

-- a stored string as a value of the leaf, where it is one
abbrev pub loaded_string : (List ℕ → Bool) → List ℕ → Stored
loaded_string is_value s = if is_value s then Some (bytes s) else None

abbrev pub stored_strings : (List ℕ → Bool) → List ℕ → List Stored
stored_strings is_value text = map (loaded_string is_value) (all_strings text)

-- ---- decoded strings

abbrev pub total_bytes : List (List ℕ) → ℕ
total_bytes [] = 0
total_bytes (s ∷ ss) = length s + total_bytes ss

-- strings of these lengths, one after another, off the front of the bytes
abbrev pub cut_off : List ℕ → List ℕ → List (List ℕ)
cut_off [] text = []
cut_off (n ∷ ns) text = take n text ∷ cut_off ns (drop n text)

-- Offsets and bytes of strings: the offsets end at the end of the bytes, and the strings between them have all the bytes.
pub record IsLaid (offsets content : List ℕ) : Type 0 where
  pub some : 0 < length offsets
  pub last : last_place offsets ≡ length content
  pub below : (i : ℕ) → slice_index offsets i ≤ length content
  pub all : total_bytes (pieces offsets content) ≡ length content

-- strings and which of them are there, as slots
abbrev pub string_slots : List (List ℕ) → List Bool → List Slot
string_slots (s ∷ ss) (b ∷ bs) = (if b then value (bytes s) else null) ∷ string_slots ss bs
string_slots _ _ = []

-- ---- strings of a stretch

-- the string of a slot where one is wanted: the next one that stands in the bytes, and what lies behind it; else an empty one
abbrev pub IsNext : Bool → List ℕ → List ℕ → List ℕ → Type 0
IsNext true text s behind = string_at text ≡ Some (s, behind)
IsNext false text s behind = (s ≡ []) × (behind ≡ text)

-- a string for each bit
abbrev pub StandIn : List Bool → List (List ℕ) → List ℕ → List ℕ → Type 0
StandIn [] [] text rest = rest ≡ text
StandIn [] (s ∷ ss) text rest = ⊥
StandIn (b ∷ bs) [] text rest = ⊥
StandIn (b ∷ bs) (s ∷ ss) text rest = (behind : List ℕ) × IsNext b text s behind × StandIn bs ss behind rest

-- all their bytes
abbrev pub joined : List (List ℕ) → List ℕ
joined [] = []
joined (s ∷ ss) = s ++ joined ss

-- the bytes of strings for so many bits, whose lengths are these
pub record TookBytes (bits : List Bool) (text rest lengths old new : List ℕ) : Type 0 where
  pub strings : List (List ℕ)
  pub stand : StandIn bits strings text rest
  pub sizes : map length strings ≡ lengths
  pub bytes : new ≡ old ++ joined strings

-- an error for which strings for so many bits cannot be taken, whatever they say
abbrev pub IsFault : List Bool → List ℕ → Error → Type 0
IsFault bits text e = (e ≡ Memory) ⊎ ((e ≡ OutOfSpec S6) × (length (all_strings text) < ones bits))

-- whether each string is a value of the leaf
abbrev pub is_each : (List ℕ → Bool) → List (List ℕ) → Bool
is_each allows [] = true
is_each allows (s ∷ ss) = allows s && is_each allows ss

-- an error for which strings of these lengths cannot be laid out behind those before, where what came before them was at fault
abbrev pub CannotLay : ℕ → (List ℕ → Bool) → List ℕ → List ℕ → List ℕ → Option Error → Error → Type 0
CannotLay limit allows offsets strings lengths fault e =
    ((e ≡ OutOfSpec S7) × (is_each allows (cut_off lengths strings) ≡ false))
    ⊎ ((is_each allows (cut_off lengths strings) ≡ true) × ((e ≡ Memory) ⊎ (fault ≡ Some e) ⊎ ((e ≡ Overflow V1) × (fault ≡ None) × (0 < limit) × (limit ≤ last_place offsets + length strings))))

-- each string is a value of the leaf
abbrev pub AreAllowed : (List ℕ → Bool) → List (List ℕ) → Type 0
AreAllowed allows [] = Unit {0}
AreAllowed allows (s ∷ ss) = (allows s ≡ true) × AreAllowed allows ss

-- as many strings as validities, and nulls have no bytes
pub record AreStrings (ss : List (List ℕ)) (bs : List Bool) : Type 0 where
  pub even : length ss ≡ length bs
  pub all : bytes_in (string_slots ss bs) ≡ total_bytes ss

-- a string for each bit: the next one that stands in the bytes where it is set, else an empty one
pub record TookStrings (allows : List ℕ → Bool) (bits : List Bool) (text rest : List ℕ) (old new : List (List ℕ)) : Type 0 where
  pub strings : List (List ℕ)
  pub count : length strings ≡ ones bits
  pub taken : stored_strings allows text ≡ map Some (map bytes strings) ++ stored_strings allows rest
  pub among : List (List ℕ)
  pub are : AreStrings among bits
  pub allowed : AreAllowed allows among
  pub stand : string_slots among bits ≡ spread bits (map bytes strings)
  pub pushed : new ≡ old ++ among

-- an error for which the next n cannot be taken behind strings
abbrev pub CannotTake : ℕ → ℕ → List Stored → List (List ℕ) → Error → Type 0
CannotTake limit n left strings e = (slots : List Slot) → bytes_in slots ≡ total_bytes strings → CannotDecode limit n left slots e
