-- What contracts see of a data page in memory (Parquet format, "Data Pages"; parquet.thrift: DataPageHeader, DataPageHeaderV2, Encoding).
use Rattle.std.specs.Prelude.{◌≡◌, ◌↔◌, ◌≤ℤ◌, ℕ, ℤ, pos, negsuc, List, Bool, false, IsTrue, IfSome, Option, nat_eq, nat_le, ◌||◌, ◌&&◌}
use Rattle.pq_bitmaps.specs.Selected.{AreAscending}
use Rattle.pq_bitmaps.specs.declared.part.Interval.{Interval}
use Rattle.pq_tree.specs.declared.types.DataPageHeader.{DataPageHeader}
use Rattle.pq_tree.specs.declared.types.DataPageHeader.TheVariants.{V1, V2}
use Rattle.pq_tree.specs.declared.types.Descriptor.{Descriptor}
use Rattle.pq_tree.specs.declared.types.Encoding.{Encoding}
use Rattle.pq_tree.specs.declared.types.Encoding.TheVariants as E
use Rattle.pq_tree.specs.declared.types.TypedPageHeader.{TypedPageHeader}
use Rattle.pq_tree.specs.declared.types.TypedPageHeader.TheVariants as T

-- its header, the bytes of its body, the column that it is of, and the rows of it that are selected, if some were named
pub record DataPageValue : Type 0 where
  pub header : DataPageHeader
  pub buffer : List ℕ
  pub descriptor : Descriptor
  pub selected_rows : Option (List Interval)

-- ---- what the header states

abbrev pub stated_values : DataPageHeader → ℤ
stated_values (V1 h) = h.num_values
stated_values (V2 h) = h.num_values

abbrev pub stated_encoding : DataPageHeader → ℤ
stated_encoding (V1 h) = h.encoding
stated_encoding (V2 h) = h.encoding

abbrev pub number_in : Encoding → ℤ
number_in E.Plain = pos 0
number_in E.PlainDictionary = pos 2
number_in E.Rle = pos 3
number_in E.BitPacked = pos 4
number_in E.DeltaBinaryPacked = pos 5
number_in E.DeltaLengthByteArray = pos 6
number_in E.DeltaByteArray = pos 7
number_in E.RleDictionary = pos 8

-- whether it is the number of an encoding: 1 is none
abbrev pub is_named : ℤ → Bool
is_named (pos n) = nat_eq n 0 || (nat_le 2 n && nat_le n 8)
is_named (negsuc n) = false

abbrev pub IsEncodingNumber : ℤ → Type 0
IsEncodingNumber z = IsTrue (is_named z)

-- exactly where some encoding has it
abbrev pub EncodingsAreNumbered : Type 0
EncodingsAreNumbered = (z : ℤ) → IsEncodingNumber z ↔ ((e : Encoding) × (number_in e ≡ z))

-- of a header that was read
abbrev pub IsNamed : TypedPageHeader → Type 0
IsNamed (T.Data h) = IsEncodingNumber (stated_encoding h)
IsNamed (T.Dictionary h) = Unit {0}

-- ---- which headers and columns make a page

-- The number of values is not negative, the encoding has a name, and the greatest levels are not negative.
pub record MakesPage (h : DataPageHeader) (d : Descriptor) : Type 0 where
  pub values : pos 0 ≤ℤ stated_values h
  pub encoding : IsEncodingNumber (stated_encoding h)
  pub definition : pos 0 ≤ℤ d.max_def_level
  pub repetition : pos 0 ≤ℤ d.max_rep_level

-- ---- which rows can be selected (Parquet format, "Page Index")

-- Each interval begins at or behind the end of the one before, and the last ends within the values that the header states.
abbrev pub AreRowsIn : DataPageHeader → List Interval → Type 0
AreRowsIn h rows = (n : ℕ) × (pos n ≡ stated_values h) × AreAscending 0 n rows

-- of a page in memory: what makes it one, and rows of its own where some are selected
pub record IsHeld (h : DataPageHeader) (d : Descriptor) (rows : Option (List Interval)) : Type 0 where
  pub makes : MakesPage h d
  pub selects : IfSome rows (AreRowsIn h)
