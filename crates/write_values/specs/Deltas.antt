-- Values spelled by deltas (Parquet format, Encodings: "Delta Encoding", "Delta-length byte array").
use Rattle.std.specs.Prelude.{◌≡◌, ◌≢◌, ℕ, ◌+◌, ◌*◌, ◌≤◌, Bool, true, cond, Option, Some, None, IfSome, List, ◌++◌, length}
use Rattle.shredding.specs.Shape.{LeafType, nothing}
use Rattle.shredding.specs.Slot.{Value}
use Rattle.columns_core.specs.Shapes.{base, leaf_type}
use Rattle.columns_core.specs.Tree.{TypeTree}
use Rattle.columns_slots.specs.Types.{is_null_type}
use Rattle.pq_tree.specs.Physical.{Physical, int32, int64, byte_array}
use Rattle.pq_tree.specs.declared.types.Encoding.{Encoding as RustEncoding}
use Rattle.pq_tree.specs.declared.types.Encoding.TheVariants as E
use Rattle.pq_tree.specs.Tree.{Leaf}
use Rattle.pq_files.specs.Layout.{delta_of, plain_length}
use Rattle.pq_files.specs.Page.{Encoding, plain, dictionary, delta, delta_length}
use Rattle.pq_files.specs.WrittenSpelling.{IsWrittenSpelled}
use Rattle.write_values.specs.declared.spelling.Deltas.{Deltas}
use Rattle.write_values.specs.declared.spelling.Deltas.TheVariants.{Numbers32, Numbers64, Lengths}

-- the encoding of a page: where deltas are wanted the one that the type allows, else PLAIN
abbrev pub page_encoding : Bool → LeafType → Physical → Encoding
page_encoding wants_deltas t p = cond wants_deltas (delta_of t p) plain

-- an encoding by the name under which it is written
abbrev pub encoding_name : Encoding → RustEncoding
encoding_name plain = E.Plain
encoding_name dictionary = E.RleDictionary
encoding_name delta = E.DeltaBinaryPacked
encoding_name delta_length = E.DeltaLengthByteArray

-- What is appended is the values, spelled in the encoding as they are written in a column of the physical type without a dictionary. It takes no
-- more than 11 bytes a value and 310 beside the plain spelling.
pub record AppendsSpelled (e : Encoding) (p : Physical) (before after : List ℕ) (vs : List Value) : Type 0 where
  pub text : List ℕ
  pub parts : after ≡ before ++ text
  pub spelled : (l : Leaf) → l.physical ≡ p → IsWrittenSpelled e l None text vs
  pub size : length text ≤ plain_length p vs + (11 * length vs + 310)

-- ---- deltas or none

abbrev pub delta_in : Deltas → Encoding
delta_in Numbers32 = delta
delta_in Numbers64 = delta
delta_in Lengths = delta_length

abbrev pub encoding_in : Option Deltas → Encoding
encoding_in None = plain
encoding_in (Some d) = delta_in d

-- they are those of columns of the physical type
abbrev pub AreDeltasOf : Physical → Deltas → Type 0
AreDeltasOf p Numbers32 = p ≡ int32
AreDeltasOf p Numbers64 = p ≡ int64
AreDeltasOf p Lengths = p ≡ byte_array

-- those of columns of the physical type, where it has some
abbrev pub HasDeltas : Physical → Option Deltas → Type 0
HasDeltas p deltas = ((t : LeafType) → t ≢ nothing → encoding_in deltas ≡ delta_of t p) × IfSome deltas (AreDeltasOf p)

-- a type of leaves: if it has no values, it is Null
abbrev pub IsLeafType : TypeTree → Type 0
IsLeafType t = leaf_type t ≡ nothing → is_null_type (base t) ≡ true

-- the deltas of a page, where it has some
pub record IsSpelling (wants_deltas : Bool) (t : LeafType) (p : Physical) (deltas : Option Deltas) : Type 0 where
  pub encoding : encoding_in deltas ≡ page_encoding wants_deltas t p
  pub are : IfSome deltas (AreDeltasOf p)
