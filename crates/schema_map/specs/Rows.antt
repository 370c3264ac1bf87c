-- Whether pages have the values of each leaf of a field (Parquet format, "Types" and LogicalTypes).
use Rattle.std.specs.Prelude.{◌≡◌, Bool, true, false, ◌&&◌, Option, Some, None}
use Rattle.columns_core.specs.Shapes.{base}
use Rattle.columns_core.specs.Tree.{FieldTree, field}
use Rattle.schema_fit.specs.declared.page_table.Asked.{Asked}
use Rattle.schema_fit.specs.declared.page_table.Row.{Row}
use Rattle.schema_fit.specs.Fits.{asked_of}
use Rattle.schema_fit.specs.PageTable.{row_of, is_allowed}
use Rattle.schema_fit.specs.Skeleton.{Bone, Bones, no_bones, bone, one, under_optional, under_repeated, ArrowLeaf, field_bones}

-- every leaf is so
abbrev mutual
  pub all_bone : {A : Type 0} → (A → Bool) → Bone A → Bool
  all_bone p (one a) = p a
  all_bone p (under_optional xs) = all_bones p xs
  all_bone p (under_repeated xs) = all_bones p xs

  pub all_bones : {A : Type 0} → (A → Bool) → Bones A → Bool
  all_bones p no_bones = true
  all_bones p (bone x xs) = all_bone p x && all_bones p xs

-- there is a row, and it allows what is asked
abbrev pub allows_asked : Asked → Option Row → Bool
allows_asked asked None = false
allows_asked asked (Some row) = is_allowed asked row

abbrev pub has_row : Asked → ArrowLeaf → Bool
has_row asked l = allows_asked asked (row_of l)

-- what a column of the field asks of its leaves
abbrev pub asked_by : FieldTree → Asked
asked_by (field name t is_nullable metadata) = asked_of (base t)

-- Every leaf of the field has a row of the page table that allows its nesting.
abbrev pub HasRows : FieldTree → Type 0
HasRows f = all_bones (has_row (asked_by f)) (field_bones f) ≡ true
