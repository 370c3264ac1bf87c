-- The stored values of a page, and what a decoder makes of them.
use Rattle.std.specs.Prelude.{◌≡◌, ◌⊎◌, refl, ℕ, ◌+◌, ◌<◌, ◌≤◌, Bool, true, false, Option, Some, None, List, [], ◌∷◌, ◌++◌, map, length}
use Rattle.columns_base.specs.declared.error.Error.{Error}
use Rattle.columns_base.specs.declared.error.Error.TheVariants.{OutOfSpec, Overflow, Memory}
use Rattle.columns_base.specs.declared.error.S.TheVariants.{S6, S7}
use Rattle.columns_base.specs.declared.error.V.TheVariants.{V1}
use Rattle.shredding.specs.Slot.{Value, truth, bytes, Slot, null, value}
use Rattle.read_laws.specs.Step.{bit}

-- A stored value as a value of the leaf; none where it is no value of the leaf's Arrow type.
abbrev pub Stored : Type 0
Stored = Option Value

-- so many values decoded, each as a slot
pub record Decodes (n : ℕ) (left left' : List Stored) (slots slots' : List Slot) : Type 0 where
  pub values : List Value
  pub size : length values ≡ n
  pub taken : left ≡ map Some values ++ left'
  pub pushed : slots' ≡ slots ++ map value values

-- ---- values among nulls

-- how many bits are set
abbrev pub ones : List Bool → ℕ
ones [] = 0
ones (b ∷ bs) = bit b + ones bs

-- a slot for each bit: the next value where it is set, null elsewhere
abbrev pub spread : List Bool → List Value → List Slot
spread [] vs = []
spread (false ∷ bs) vs = null ∷ spread bs vs
spread (true ∷ bs) [] = []
spread (true ∷ bs) (v ∷ vs) = value v ∷ spread bs vs

-- the second of three slots is null
worked : spread (true ∷ false ∷ true ∷ []) (truth true ∷ truth false ∷ []) ≡ value (truth true) ∷ null ∷ value (truth false) ∷ []
worked = refl

-- as many values decoded as bits are set, and a slot for each bit
pub record DecodesMixed (bits : List Bool) (left left' : List Stored) (slots slots' : List Slot) : Type 0 where
  pub values : List Value
  pub size : length values ≡ ones bits
  pub taken : left ≡ map Some values ++ left'
  pub pushed : slots' ≡ slots ++ spread bits values

-- the next n are values of the leaf
pub record AreThere (n : ℕ) (left : List Stored) : Type 0 where
  pub values : List Value
  pub rest : List Stored
  pub next : left ≡ map Some values ++ rest
  pub size : length values ≡ n

-- ---- why values cannot be decoded

-- fewer than so many are stored
abbrev pub AreTooFew : ℕ → List Stored → Type 0
AreTooFew n left = length left < n

-- one of the next n is no value of the leaf's type
pub record IsOneOutside (n : ℕ) (left : List Stored) : Type 0 where
  pub values : List Value
  pub rest : List Stored
  pub next : left ≡ map Some values ++ (None ∷ rest)
  pub within : length values < n

-- the bytes of a text or byte string; a number has none
abbrev pub byte_size : Value → ℕ
byte_size (bytes s) = length s
byte_size _ = 0

abbrev pub bytes_of : List Value → ℕ
bytes_of [] = 0
bytes_of (v ∷ vs) = byte_size v + bytes_of vs

abbrev pub slot_size : Slot → ℕ
slot_size (value v) = byte_size v
slot_size _ = 0

abbrev pub bytes_in : List Slot → ℕ
bytes_in [] = 0
bytes_in (s ∷ ss) = slot_size s + bytes_in ss

-- Behind what is decoded, the next values or the first of them have more bytes than offsets count. With a limit of 0 no offsets count them.
pub record AreTooLong (limit n : ℕ) (left : List Stored) (slots : List Slot) : Type 0 where
  pub values : List Value
  pub rest : List Stored
  pub next : left ≡ map Some values ++ rest
  pub within : length values ≤ n
  pub some : 0 < limit
  pub long : limit ≤ bytes_in slots + bytes_of values

-- an error for which the next n values cannot be decoded, with its cause
abbrev pub CannotDecode : ℕ → ℕ → List Stored → List Slot → Error → Type 0
CannotDecode limit n left slots e =
    (e ≡ Memory) ⊎ (((e ≡ OutOfSpec S6) × AreTooFew n left) ⊎ (((e ≡ OutOfSpec S7) × IsOneOutside n left) ⊎ ((e ≡ Overflow V1) × AreTooLong limit n left slots)))
