-- A worked chunk: lists of numbers and a number in each of four rows. It suits its fields, with statistics and without, plain and by deltas, and neither by other or fewer encodings nor by other trees.
use Rattle.std.specs.Prelude.{pos, codes, Bool, true, false, Some, None, List, [], ◌∷◌}
use Rattle.shredding.specs.Slot.{number}
use Rattle.columns_core.specs.Tree.{TypeTree, t_int32, t_int64, t_list, field, FieldTrees, no_fields, more_fields}
use Rattle.columns_slots.specs.Tree.{ArrayTree, leaf_array, list_array, ArrayTrees, no_arrays, more_arrays}
use Rattle.pq_tree.specs.Tree.{no_trees}
use Rattle.pq_tree.specs.declared.types.CompressionOptions.TheVariants.{Uncompressed}
use Rattle.pq_tree.specs.declared.types.Encoding.{Encoding}
use Rattle.pq_tree.specs.declared.types.Encoding.TheVariants.{Plain, DeltaBinaryPacked}
use Rattle.pq_tree.specs.declared.version.Version.TheVariants.{V1}
use Rattle.schema_to_tree.specs.Table.{trees_of}
use Rattle.typed_groups.specs.Suiting.{Suits}
use Rattle.write_pages.specs.declared.options.WriteOptions.{WriteOptions}

-- optional lists of optional numbers, and a required number
abbrev pub number_lists : TypeTree
number_lists = t_list (field (codes "item") t_int32 true [])

abbrev pub two_fields : FieldTrees
two_fields = more_fields (field (codes "ns") number_lists true []) (more_fields (field (codes "n") t_int64 false []) no_fields)

-- [1, 2], null, [], [null]
abbrev pub four_lists : ArrayTree
four_lists = list_array number_lists (0 ∷ 2 ∷ 2 ∷ 2 ∷ 3 ∷ []) (leaf_array t_int32 (number (pos 1) ∷ number (pos 2) ∷ number (pos 0) ∷ []) (Some (true ∷ true ∷ false ∷ []))) (Some (true ∷ false ∷ true ∷ true ∷ []))

-- 5, 6, 7, 8
abbrev pub four_numbers : ArrayTree
four_numbers = leaf_array t_int64 (number (pos 5) ∷ number (pos 6) ∷ number (pos 7) ∷ number (pos 8) ∷ []) None

abbrev pub four_rows : ArrayTrees
four_rows = more_arrays four_lists (more_arrays four_numbers no_arrays)

abbrev pub options : Bool → WriteOptions
options statistics = record { write_statistics = statistics; version = V1; compression = Uncompressed; data_pagesize_limit = None }

abbrev pub plain_each : List (List Encoding)
plain_each = (Plain ∷ []) ∷ (Plain ∷ []) ∷ []

-- the numbers by deltas, and the lists' items, which are no field's own, plain
abbrev pub with_deltas : List (List Encoding)
with_deltas = (Plain ∷ []) ∷ (DeltaBinaryPacked ∷ []) ∷ []

pub record AreWorked : Type 0 where
  pub suits : Suits false two_fields (options false) four_rows (trees_of two_fields) plain_each
  pub statistics : Suits false two_fields (options true) four_rows (trees_of two_fields) plain_each
  pub deltas : Suits true two_fields (options false) four_rows (trees_of two_fields) with_deltas
  pub no_deltas : Suits true two_fields (options false) four_rows (trees_of two_fields) plain_each → ⊥
  pub fewer_encodings : Suits false two_fields (options false) four_rows (trees_of two_fields) ((Plain ∷ []) ∷ []) → ⊥
  pub no_columns : Suits false two_fields (options false) four_rows no_trees [] → ⊥
  -- arrays in another order have other types
  pub other_order : Suits false two_fields (options false) (more_arrays four_numbers (more_arrays four_lists no_arrays)) (trees_of two_fields) plain_each → ⊥
