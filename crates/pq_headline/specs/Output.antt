-- The groups of an output: rows in pieces, and each piece's columns in pages.
use Rattle.std.specs.Prelude.{◌≡◌, ℕ, ℤ, List, [], ◌∷◌, length, map, Option, Some, None, Bool, cond, ◌&&◌, ◌⊎◌, ◌<◌, Contains}
use Rattle.std.specs.List.{AllZip}
use Rattle.shredding.specs.Cut.{cut}
use Rattle.shredding.specs.Slot.{Slot, fields, Slots, Value, number}
use Rattle.shredding.specs.Shred.{Triple, column}
use Rattle.columns_core.specs.Shapes.{leaf_type}
use Rattle.columns_core.specs.Tree.{FieldTrees}
use Rattle.pq_tree.specs.Physical.{Physical}
use Rattle.pq_tree.specs.Tree.{Leaf, columns_of}
use Rattle.pq_files.specs.Layout.{OutPage, OutChunk, OutGroup, plain_length, rows_per_page, bounded, AreStoredEntries, delta_of}
use Rattle.pq_files.specs.Page.{Encoding, plain, dictionary, values_in}
use Rattle.pq_files.specs.Statistics.{HasStatistics}
use Rattle.pq_files.specs.Stored.{AreStored, HoldsDecimal}
use Rattle.pq_files.specs.Reasons.{AnyOf}
use Rattle.pq_files.specs.Room.{room, max_size}
use Rattle.schema_to_tree.specs.Table.{schema_of}
use Rattle.shredding.specs.Shape.{decimal}
use Rattle.pq_headline.specs.Columns.{ArrowColumn, schema_columns, is_dictionary, is_flat}

-- ---- a column in pages

-- what is free in it: the page limit, whether statistics stand, and the encoding of its values
pub record Style : Type 0 where
  pub page_limit : ℕ
  pub statistics : Bool

-- a column as it is written: its leaf, its physical type, and where it has a dictionary its entries, each with a value or null
pub record Written : Type 0 where
  pub arrow : ArrowColumn
  pub physical : Physical
  pub entries : Option (List (Option Value))

pub record IsPageOfRows (s : Style) (e : Encoding) (c : Written) (rows : List Slot) (p : OutPage) : Type 0 where
  pub triples : AreStored (leaf_type c.arrow.data_type) c.physical (column c.arrow.way rows) p.triples
  pub encoding : p.encoding ≡ e
  pub statistics : HasStatistics s.statistics (leaf_type c.arrow.data_type) c.physical p.statistics (column c.arrow.way rows) (bounded c.entries (column c.arrow.way rows))

-- by the row rule, or in one page where the column has a dictionary
abbrev pub page_rows : ℕ → List Slot → Option (List (Option Value)) → ℕ → List (List Slot)
page_rows limit rows (Some entries) size = cut rows None
page_rows limit rows None size = cut rows (Some (rows_per_page limit size (length rows)))

pub record IsLaid (s : Style) (e : Encoding) (c : Written) (rows : List Slot) (out : OutChunk) : Type 0 where
  pub stored : List Triple
  pub are_stored : AreStored (leaf_type c.arrow.data_type) c.physical (column c.arrow.way rows) stored
  pub entries : AreStoredEntries (leaf_type c.arrow.data_type) c.physical c.entries out.entries
  pub pages : AllZip (IsPageOfRows s e c) (page_rows s.page_limit rows c.entries (plain_length c.physical (values_in stored))) out.pages
  pub statistics : HasStatistics s.statistics (leaf_type c.arrow.data_type) c.physical out.statistics (column c.arrow.way rows) (bounded c.entries (column c.arrow.way rows))

-- the columns of a group, each by its encoding and its entries
abbrev pub AreLaid : Style → List Slots → List ArrowColumn → List Leaf → List Encoding → List (Option (List (Option Value))) → List OutChunk → Type 0
AreLaid s rows [] [] [] [] [] = Unit {0}
AreLaid s rows (c ∷ cs) (l ∷ ls) (e ∷ es) (d ∷ ds) (out ∷ outs) =
    IsLaid s e (record { arrow = c; physical = l.physical; entries = d }) (map fields rows) out × AreLaid s rows cs ls es ds outs
AreLaid s rows _ _ _ _ _ = ⊥

-- one group of rows
pub record IsLaidGroup (s : Style) (rows : List Slots) (cs : List ArrowColumn) (ls : List Leaf) (es : List Encoding) (ds : List (Option (List (Option Value)))) (out : OutGroup) : Type 0 where
  pub rows_are : out.rows ≡ length rows
  pub columns : AreLaid s rows cs ls es ds out.chunks

-- ---- the choice of encodings

-- the dictionary's, or where deltas are asked for and the column is flat the one that its type allows, or plain
abbrev pub chosen : Bool → ArrowColumn → Leaf → Encoding
chosen wants_delta c l = cond (is_dictionary c.data_type) dictionary (cond (wants_delta && is_flat c) (delta_of (leaf_type c.data_type) l.physical) plain)

abbrev pub all_chosen : Bool → List ArrowColumn → List Leaf → List Encoding
all_chosen wants_delta (c ∷ cs) (l ∷ ls) = chosen wants_delta c l ∷ all_chosen wants_delta cs ls
all_chosen wants_delta _ _ = []

-- ---- what is too large, and what is not stored

-- a present value of a column of decimals that its physical type does not hold
abbrev pub IsWide : ArrowColumn → Leaf → List Slots → Type 0
IsWide c l rows = (leaf_type c.data_type ≡ decimal) × (z : ℤ) × Contains (values_in (column c.way (map fields rows))) (number z) × ¬ HoldsDecimal l.physical z

abbrev pub SomeIsWide : List ArrowColumn → List Leaf → List Slots → Type 0
SomeIsWide (c ∷ cs) (l ∷ ls) rows = IsWide c l rows ⊎ SomeIsWide cs ls rows
SomeIsWide _ _ rows = ⊥

abbrev pub HasWideDecimal : FieldTrees → List Slots → Type 0
HasWideDecimal fs rows = SomeIsWide (schema_columns fs) (columns_of (schema_of fs)) rows

-- the room of a data page of these rows, or that of the dictionary page
abbrev pub HasLargePage : Style → Written → List Slot → Type 0
HasLargePage s c rows =
    (stored : List Triple) × AreStored (leaf_type c.arrow.data_type) c.physical (column c.arrow.way rows) stored
    × AnyOf (λ page. (triples : List Triple) × AreStored (leaf_type c.arrow.data_type) c.physical (column c.arrow.way page) triples × (max_size < room (length triples) (plain_length c.physical (values_in triples))))
    (page_rows s.page_limit rows c.entries (plain_length c.physical (values_in stored)))

abbrev pub HasLargeDictionary : Written → Type 0
HasLargeDictionary c = (entries : List Value) × AreStoredEntries (leaf_type c.arrow.data_type) c.physical c.entries (Some entries) × (max_size < room (length entries) (plain_length c.physical entries))

abbrev pub SomeIsLarge : Style → List Slots → List ArrowColumn → List Leaf → List (Option (List (Option Value))) → Type 0
SomeIsLarge s rows (c ∷ cs) (l ∷ ls) (d ∷ ds) =
    HasLargePage s (record { arrow = c; physical = l.physical; entries = d }) (map fields rows)
    ⊎ HasLargeDictionary (record { arrow = c; physical = l.physical; entries = d })
    ⊎ SomeIsLarge s rows cs ls ds
SomeIsLarge s rows _ _ _ = ⊥

abbrev pub PieceIsTooLarge : Style → FieldTrees → List Slots → List (Option (List (Option Value))) → Type 0
PieceIsTooLarge s fs rows ds = SomeIsLarge s rows (schema_columns fs) (columns_of (schema_of fs)) ds
