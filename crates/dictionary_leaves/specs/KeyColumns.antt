-- The column of a dictionary's keys, by their type.
use Rattle.std.specs.Prelude.{◌≡◌, ℕ, Option, Some, None, Result, Ok, Err, List}
use Rattle.columns_base.specs.declared.error.Error.{Error}
use Rattle.columns_base.specs.declared.error.Error.TheVariants.{Memory}
use Rattle.columns_core.specs.declared.types.IntegerType.{IntegerType}
use Rattle.columns_core.specs.declared.types.IntegerType.TheVariants as K
use Rattle.columns_leaf.specs.Keyed.{key_kind, key_mask, keys_of}
use Rattle.columns_leaf.specs.declared.keys.DictionaryKeys.{DictionaryKeys}
use Rattle.pq_pages.specs.Outcomes.{Outcome}
use Rattle.read_column.specs.Foreseen.{GivesForeseen, foreseeing}
use Rattle.read_column.specs.Reading.{IsReading, Reading}
use Rattle.read_laws.specs.State.{Kept}
use Rattle.read_pieces.specs.Columns.{ColumnOpening, GivesPiece}
use Rattle.read_pieces.specs.Pieces.{IsPiece}
use Rattle.read_types.specs.Reads.{stored_of}
use Rattle.read_types.specs.declared.kind.LeafKind.{LeafKind}
use Rattle.read_types.specs.declared.kind.LeafKind.TheVariants as L
use Rattle.shredding.specs.Shred.{Triple}
use Rattle.shredding.specs.Slot.{Slot}
use Rattle.dictionary_leaves.specs.KeySlots.{KeepKeys}
use Rattle.dictionary_leaves.specs.declared.key_column.KeyColumn.{KeyColumn}
use Rattle.dictionary_leaves.specs.declared.key_column.KeyColumn.TheVariants as C

-- as which numbers keys of a type are read
abbrev pub number_kind : IntegerType → LeafKind
number_kind K.Int8 = L.Int8
number_kind K.Int16 = L.Int16
number_kind K.Int32 = L.Int32
number_kind K.Int64 = L.Int64
number_kind K.UInt8 = L.UInt8
number_kind K.UInt16 = L.UInt16
number_kind K.UInt32 = L.UInt32
number_kind K.UInt64 = L.UInt64

abbrev pub key_in : {I : Type 0} → KeyColumn I → IntegerType
key_in (C.Int8 r) = K.Int8
key_in (C.Int16 r) = K.Int16
key_in (C.Int32 r) = K.Int32
key_in (C.Int64 r) = K.Int64
key_in (C.UInt8 r) = K.UInt8
key_in (C.UInt16 r) = K.UInt16
key_in (C.UInt32 r) = K.UInt32
key_in (C.UInt64 r) = K.UInt64

abbrev pub reader_in : {I : Type 0} → KeyColumn I → Reading
reader_in (C.Int8 r) = r
reader_in (C.Int16 r) = r
reader_in (C.Int32 r) = r
reader_in (C.Int64 r) = r
reader_in (C.UInt8 r) = r
reader_in (C.UInt16 r) = r
reader_in (C.UInt32 r) = r
reader_in (C.UInt64 r) = r

-- ---- pieces

-- what is read, by the slots of its values
abbrev pub shown : {V : Type 0} → (V → List Slot) → Option (Result (List Kept × V) Error) → Option (Result (List Kept × List Slot) Error)
shown slots None = None
shown slots (Some (Err e)) = Some (Err e)
shown slots (Some (Ok v)) = Some (Ok (v.0, slots v.1))

-- With the state come keys of this type, which keep those of the slots that number one of so many entries; or there is no memory for them. None and
-- errors are handed on.
abbrev pub MakesKeys : IntegerType → ℕ → Option (Result (List Kept × List Slot) Error) → Option (Result (List Kept × DictionaryKeys) Error) → Type 0
MakesKeys key n None None = Unit {0}
MakesKeys key n (Some (Ok v)) (Some (Ok k)) = (k.0 ≡ v.0) × (key_kind k.1 ≡ key) × KeepKeys n v.1 (key_mask k.1) (keys_of k.1)
MakesKeys key n (Some (Ok v)) (Some (Err e)) = e ≡ Memory
MakesKeys key n (Some (Err f)) (Some (Err e)) = e ≡ f
MakesKeys key n item result = ⊥

-- how numbers of keys are read
abbrev pub IsReadingKeys : IntegerType → ColumnOpening → List (List Triple) → Reading → Type 0
IsReadingKeys key o pieces r = IsReading (stored_of (number_kind key)) 1 o pieces r

-- A call of the reader of the keys' column, and the keys that it gives in place of the slots that were read.
pub record GivesKeys (key : IntegerType) (n : ℕ) (before after : Reading) (result : Option (Result (List Kept × DictionaryKeys) Error)) : Type 0 where
  pub item : Option (Result (List Kept × List Slot) Error)
  pub makes : MakesKeys key n item result
  pub gives : (o : ColumnOpening) (pieces : List (List Triple)) → IsReadingKeys key o pieces before → GivesPiece (IsReadingKeys key) (λ v ts. IsPiece o.column.way ts v.0 v.1) o pieces item after
  pub foreseen : (o : ColumnOpening) (pieces : List (List Triple)) (others : List Outcome) → IsReadingKeys key o pieces (foreseeing others before) → GivesForeseen (λ x ps r. IsReadingKeys key x ps (foreseeing others r)) (λ v ts. IsPiece o.column.way ts v.0 v.1) o pieces before.outcomes item after
