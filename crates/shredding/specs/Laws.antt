-- The laws of shredding.
use Rattle.std.specs.Prelude.{◌≡◌, ◌↔◌, ◌⊎◌, ℕ, zero, suc, ◌≤◌, ◌<◌, Bool, false, cond, List, [], ◌∷◌, ◌++◌, map, take, drop, length, flat_map, Some, count_by, nat_eq, All, Contains}
use Rattle.shredding.specs.Along.{IsAlong, along, thin}
use Rattle.shredding.specs.Cut.{cut}
use Rattle.shredding.specs.Local.{IsWithin, IsInOrder}
use Rattle.shredding.specs.Shape.{Shape, struct, Shapes, IsOf, AreOf, HasNoEmptyStruct, Way, in_struct, ways}
use Rattle.shredding.specs.Share.{ColumnsAgree, IsWayOf, IsOfLeafType, leaf_type_at}
use Rattle.shredding.specs.Shred.{Triple, column, columns, schema_columns}
use Rattle.shredding.specs.Slot.{Slot, fields, Slots, slot_at}

-- the column of rows a followed by rows b is the column of a followed by that of b
abbrev pub ColumnsJoin : Type 0
ColumnsJoin = (w : Way) (a b : List Slot) → column w (a ++ b) ≡ column w a ++ column w b

-- whether a triple begins a row
abbrev pub starts_row : Triple → Bool
starts_row t = nat_eq t.repetition 0

-- as many triples have repetition 0 as there are rows
abbrev pub RowsAreCounted : Type 0
RowsAreCounted = (w : Way) (rows : List Slot) → count_by starts_row (column w rows) ≡ length rows

-- all the columns of a field without empty structs together are those of at most one list of slots of the field
abbrev pub RowsAreUnique : Type 0
RowsAreUnique = (f : Shape) (a b : List Slot) → HasNoEmptyStruct f → All (IsOf f) a → All (IsOf f) b → columns f a ≡ columns f b → a ≡ b

-- levels stay within their maxima, and values stand at the greatest definition level
abbrev pub LevelsAreWithin : Type 0
LevelsAreWithin = (w : Way) (rows : List Slot) → All (IsAlong w) rows → All (IsWithin w) (column w rows)

-- a slot of a field goes along each of its ways
abbrev pub SlotsGoAlong : Type 0
SlotsGoAlong = (f : Shape) (s : Slot) → IsOf f s → All (λ w. IsAlong w s) (ways f)

-- what is seen along a way has the same column
abbrev pub ColumnsAreSeenAlong : Type 0
ColumnsAreSeenAlong = (w : Way) (rows : List Slot) → column (thin w) (map (along w) rows) ≡ column w rows

-- one column determines what is seen along its way
abbrev pub SeenAlongIsUnique : Type 0
SeenAlongIsUnique = (w : Way) (a b : List Slot) → All (IsAlong w) a → All (IsAlong w) b → column w a ≡ column w b → map (along w) a ≡ map (along w) b

-- nothing follows, or a row begins
abbrev pub BeginsRow : List Triple → Type 0
BeginsRow [] = Unit {0}
BeginsRow (t ∷ ts) = t.repetition ≡ 0

-- a column in two parts, the second of which begins a row, is two parts of the rows
abbrev pub ColumnsSplit : Type 0
ColumnsSplit =
    (w : Way) (rows : List Slot) (a b : List Triple) → column w rows ≡ a ++ b → BeginsRow b → (n : ℕ) × (n ≤ length rows) × (a ≡ column w (take n rows)) × (b ≡ column w (drop n rows))

-- the triples of the first k rows
abbrev pub first_rows : ℕ → List Triple → List Triple
first_rows k [] = []
first_rows zero (t ∷ ts) = cond (starts_row t) [] (t ∷ first_rows zero ts)
first_rows (suc k) (t ∷ ts) = t ∷ first_rows (cond (starts_row t) k (suc k)) ts

-- The first k rows of a column of which only the front can be read, where more rows than these begin in it or nothing is cut off:
-- they are told from that front alone.
abbrev pub FirstRowsAreColumns : Type 0
FirstRowsAreColumns =
    (w : Way) (rows : List Slot) (a b : List Triple) (k : ℕ) → column w rows ≡ a ++ b → (k < count_by starts_row a) ⊎ (b ≡ []) → first_rows k a ≡ column w (take k rows)

-- the first triples of a column are a column, wherever they end
abbrev pub PrefixesAreColumns : Type 0
PrefixesAreColumns =
    (w : Way) (rows : List Slot) (a b : List Triple) → All (IsAlong w) rows → column w rows ≡ a ++ b → (first : List Slot) × All (IsAlong w) first × (column w first ≡ a)

-- the pieces of rows, one after another, are the rows
abbrev pub PiecesAreRows : Type 0
PiecesAreRows = (rows : List Slot) (n : ℕ) → 0 < n → flat_map (λ piece. piece) (cut rows (Some n)) ≡ rows

-- all the columns of a schema determine its rows
abbrev pub SchemaRowsAreUnique : Type 0
SchemaRowsAreUnique =
    (fs : Shapes) (a b : List Slots) → HasNoEmptyStruct (struct false fs) → All (AreOf fs) a → All (AreOf fs) b → schema_columns fs a ≡ schema_columns fs b → a ≡ b

-- a schema's column is that of the field's own slots
abbrev pub FieldsHaveTheirColumns : Type 0
FieldsHaveTheirColumns = (i : ℕ) (w : Way) (rows : List Slots) → column (in_struct false i w) (map fields rows) ≡ column w (map (λ row. slot_at row i) rows)

-- the lists of triples that are columns along a way
abbrev pub ColumnsAreLocal : Type 0
ColumnsAreLocal =
    (w : Way) (ts : List Triple) → (All (IsWithin w) ts × IsInOrder w ts) ↔ ((rows : List Slot) × All (IsAlong w) rows × (column w rows ≡ ts))

-- the ways of a field are those in the list
abbrev pub WaysAreListed : Type 0
WaysAreListed = (f : Shape) (w : Way) → Contains (ways f) w ↔ IsWayOf f w

-- each way of the field has a column of its own with values of the leaf's range, and each two of them agree
pub record AreColumns (f : Shape) (columns : Way → List Triple) : Type 0 where
  pub within : (w : Way) → IsWayOf f w → All (IsWithin w) (columns w)
  pub in_order : (w : Way) → IsWayOf f w → IsInOrder w (columns w)
  pub in_range : (w : Way) → IsWayOf f w → All (IsOfLeafType (leaf_type_at f w)) (columns w)
  pub agree : (w v : Way) → IsWayOf f w → IsWayOf f v → ColumnsAgree w v (columns w) (columns v)

-- such columns, and no others, are those of some rows of the field
abbrev pub RowsExist : Type 0
RowsExist =
    (f : Shape) (table : Way → List Triple) → HasNoEmptyStruct f → AreColumns f table ↔ ((rows : List Slot) × All (IsOf f) rows × (columns f rows ≡ map table (ways f)))
