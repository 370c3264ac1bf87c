-- Headers whose counts and sizes are not negative.
use Rattle.std.specs.Prelude.{pos, ◌≤ℤ◌}
use Rattle.pq_tree.specs.declared.types.DataPageHeaderV1.{DataPageHeaderV1}
use Rattle.pq_tree.specs.declared.types.DataPageHeaderV2.{DataPageHeaderV2}
use Rattle.pq_tree.specs.declared.types.DataPageHeader.TheVariants.{V1, V2}
use Rattle.pq_tree.specs.declared.types.TypedPageHeader.{TypedPageHeader}
use Rattle.pq_tree.specs.declared.types.TypedPageHeader.TheVariants.{Data, Dictionary}

abbrev pub IsCountedV1 : DataPageHeaderV1 → Type 0
IsCountedV1 h = pos 0 ≤ℤ h.num_values

pub record IsCountedV2 (h : DataPageHeaderV2) : Type 0 where
  pub values : pos 0 ≤ℤ h.num_values
  pub rows : pos 0 ≤ℤ h.num_rows
  pub definition : pos 0 ≤ℤ h.definition_levels_byte_length
  pub repetition : pos 0 ≤ℤ h.repetition_levels_byte_length

abbrev pub IsCounted : TypedPageHeader → Type 0
IsCounted (Data (V1 h)) = IsCountedV1 h
IsCounted (Data (V2 h)) = IsCountedV2 h
IsCounted (Dictionary h) = pos 0 ≤ℤ h.num_values
