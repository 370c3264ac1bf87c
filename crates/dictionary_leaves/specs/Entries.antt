-- The entries of a dictionary page, decoded, and as an array (Parquet format, "Dictionary Page"; Encodings, "Plain").
use Rattle.std.specs.Prelude.{◌≡◌, ◌⊎◌, ℕ, ◌<◌, ◌≤◌, Bool, true, false, Some, List, ◌++◌, map, length}
use Rattle.columns_base.specs.declared.error.Error.{Error}
use Rattle.columns_base.specs.declared.error.Error.TheVariants.{Memory, Overflow}
use Rattle.columns_base.specs.declared.error.V.TheVariants.{V1}
use Rattle.columns_core.specs.Tree.{TypeTree}
use Rattle.columns_slots.specs.Tree.{ArrayTree}
use Rattle.read_column.specs.Dictionary.{CannotHold}
use Rattle.read_types.specs.Arrays.{IsLeafArray}
use Rattle.read_walk.specs.Values.{Stored, bytes_of}
use Rattle.shredding.specs.Slot.{Slot, Value, value}

-- the bytes begin with these values, so many
pub record BeginWith (stored : List ℕ → List Stored) (n : ℕ) (body : List ℕ) (vs : List Value) : Type 0 where
  pub count : length vs ≡ n
  pub rest : List Stored
  pub parts : stored body ≡ map Some vs ++ rest

-- ---- decoded

-- slots of the values that the body begins with, so many
pub record AreDecoded (stored : List ℕ → List Stored) (n : ℕ) (body : List ℕ) (slots : List Slot) : Type 0 where
  pub values : List Value
  pub begin : BeginWith stored n body values
  pub are : slots ≡ map value values

-- the first of the values, at most so many, have as many bytes as the limit says or more
pub record PassesLimit (stored : List ℕ → List Stored) (limit n : ℕ) (body : List ℕ) : Type 0 where
  pub values : List Value
  pub rest : List Stored
  pub parts : stored body ≡ map Some values ++ rest
  pub few : length values ≤ n
  pub some : 0 < limit
  pub long : limit ≤ bytes_of values

-- an error for which so many values are not decoded, with its cause: the body has not so many, or they are too long
abbrev pub CannotDecodeAll : (List ℕ → List Stored) → ℕ → ℕ → List ℕ → Error → Type 0
CannotDecodeAll stored limit n body e = (e ≡ Memory) ⊎ CannotHold stored n body e ⊎ ((e ≡ Overflow V1) × PassesLimit stored limit n body)

abbrev pub is_overflow : Error → Bool
is_overflow (Overflow v) = true
is_overflow e = false

-- ---- as an array

-- an array of this type of the values that the body begins with, so many
pub record HasEntries (stored : List ℕ → List Stored) (n : ℕ) (body : List ℕ) (t : TypeTree) (a : ArrayTree) : Type 0 where
  pub values : List Value
  pub begin : BeginWith stored n body values
  pub is : IsLeafArray t (map value values) a

-- the values that the body begins with have as many bytes as the limit says or more
pub record AreLong (stored : List ℕ → List Stored) (limit n : ℕ) (body : List ℕ) : Type 0 where
  pub values : List Value
  pub begin : BeginWith stored n body values
  pub some : 0 < limit
  pub long : limit ≤ bytes_of values

-- an error for which the entries are no array, with its cause: the body has not so many, or they are too long
abbrev pub CannotEnter : (List ℕ → List Stored) → ℕ → ℕ → List ℕ → Error → Type 0
CannotEnter stored limit n body e = CannotHold stored n body e ⊎ ((e ≡ Overflow V1) × AreLong stored limit n body)
