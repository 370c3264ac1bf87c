-- Worked fields and trees.
use Rattle.std.specs.Prelude.{◌≡◌, List, [], ◌∷◌, true, false, Option, Some, None, codes}
use Rattle.columns_core.specs.declared.types.TimeUnit.TheVariants.{Second, Microsecond}
use Rattle.columns_core.specs.declared.types.IntegerType.TheVariants.{Int8}
use Rattle.columns_core.specs.Tree.{TypeTree, t_null, t_int32, t_uint32, t_uint64, t_float64, t_timestamp, t_time32, t_utf8, t_fixed_size_binary, t_list, t_struct, t_dictionary, t_decimal, t_extension, FieldTree, field}
use Rattle.columns_core.specs.View.{fields_of}
use Rattle.pq_tree.specs.Physical.{Physical, int32, int64, double, byte_array, fixed}
use Rattle.pq_tree.specs.Tree.{Tree, leaf, group}
use Rattle.pq_tree.specs.TreeViews.{trees_of}
use Rattle.pq_tree.specs.Types.{Info, Repetition, required, optional, repeated, Logical, Converted}
use Rattle.pq_tree.specs.Types.TimeUnit.{millis, micros}
use Rattle.schema_fit.specs.Fits.{agrees_with, fits_to}
use Rattle.schema_fit.specs.RowExamples.{IsPageTable}

abbrev pub node : Repetition → Option Converted → Option Logical → Info
node repetition converted logical = record { name = []; repetition = repetition; id = None; converted = converted; logical = logical }

abbrev pub plain : Repetition → Physical → Tree
plain repetition physical = leaf (node repetition None None) physical

abbrev pub of_nodes : Repetition → List Tree → Tree
of_nodes repetition children = group (node repetition None None) (trees_of children)

abbrev pub must : TypeTree → FieldTree
must t = field (codes "a") t false []

abbrev pub may : TypeTree → FieldTree
may t = field (codes "a") t true []

abbrev pub of_fields : List FieldTree → TypeTree
of_fields fs = t_struct (fields_of fs)

-- an optional list of optional items, in three levels
abbrev pub list_of : Tree → Tree
list_of item = of_nodes optional (of_nodes repeated (item ∷ []) ∷ [])

-- ---- skeletons

pub record AreSkeletons : Type 0 where
  pub list : fits_to (may (t_list (may t_int32))) (list_of (plain optional int32)) ≡ true
  pub item_not_null : fits_to (may (t_list (must t_int32))) (list_of (plain optional int32)) ≡ false
  pub two_levels : fits_to (must (t_list (must t_int32))) (plain repeated int32) ≡ true
  pub spliced : fits_to (must (of_fields (must (of_fields (may t_int32 ∷ must t_utf8 ∷ [])) ∷ must t_uint32 ∷ []))) (of_nodes required (plain optional int32 ∷ of_nodes required (plain required byte_array ∷ plain required int64 ∷ []) ∷ [])) ≡ true
  pub nothing_left : fits_to (must (of_fields (may t_int32 ∷ []))) (of_nodes required (plain optional int32 ∷ plain optional int32 ∷ [])) ≡ false
  pub empty_groups : fits_to (may (of_fields (must (of_fields []) ∷ must t_int32 ∷ []))) (of_nodes optional (plain required int32 ∷ of_nodes optional (of_nodes repeated [] ∷ []) ∷ [])) ≡ true
  pub one_level : fits_to (may (of_fields (must t_int32 ∷ []))) (plain optional int32) ≡ true
  -- the Arrow type of an optional list over a repeated group `my_list_tuple` over one required text
  pub tuple : fits_to (may (t_list (may (of_fields (must t_utf8 ∷ []))))) (list_of (leaf (node required (Some Converted.utf8) None) byte_array)) ≡ false
  pub tuple_differs : agrees_with (may (t_list (may (of_fields (must t_utf8 ∷ []))))) (list_of (leaf (node required (Some Converted.utf8) None) byte_array)) ≡ false

-- ---- rows and units

pub record AreRows : Type 0 where
  pub unsigned_bits : fits_to (must t_uint32) (plain required int32) ≡ true
  pub unsigned_wide : fits_to (must t_uint32) (plain required int64) ≡ true
  pub other_physical : fits_to (must t_int32) (plain required int64) ≡ false
  pub null : fits_to (may t_null) (plain optional int32) ≡ true
  pub null_required : fits_to (must t_null) (plain required int32) ≡ false
  pub no_row : fits_to (must t_float64) (plain required double) ≡ false
  pub no_row_agrees : agrees_with (must t_float64) (plain required int32) ≡ true
  pub flat : fits_to (may (t_extension (codes "e") (t_decimal 9 2) None)) (plain optional (fixed 5)) ≡ true
  pub nested : fits_to (must (of_fields (may (t_decimal 9 2) ∷ []))) (of_nodes required (plain optional (fixed 5) ∷ [])) ≡ false
  pub nested_agrees : agrees_with (must (of_fields (may (t_decimal 9 2) ∷ []))) (of_nodes required (plain optional (fixed 5) ∷ [])) ≡ true
  pub size : fits_to (must (t_fixed_size_binary 5)) (plain required (fixed 6)) ≡ false
  pub dictionary : fits_to (must (t_dictionary Int8 t_uint64 false)) (plain required int64) ≡ true
  pub nested_dictionary : fits_to (must (t_list (must (t_dictionary Int8 t_uint64 false)))) (plain repeated int64) ≡ false
  pub nested_fixed_dictionary : fits_to (must (t_list (must (t_dictionary Int8 (t_fixed_size_binary 5) false)))) (plain repeated (fixed 5)) ≡ true
  pub decimal_dictionary : fits_to (must (t_dictionary Int8 (t_decimal 9 2) false)) (plain required int64) ≡ false
  pub same_unit : fits_to (must (t_timestamp Microsecond None)) (leaf (node required None (Some (Logical.timestamp true micros))) int64) ≡ true
  pub other_unit : fits_to (must (t_timestamp Microsecond None)) (leaf (node required None (Some (Logical.timestamp true millis))) int64) ≡ false
  pub old_unit : fits_to (must (t_time32 Second)) (leaf (node required (Some Converted.time_millis) None) int32) ≡ false
  pub no_unit : fits_to (must (t_timestamp Microsecond None)) (plain required int64) ≡ true
  pub other_annotation : fits_to (must t_int32) (leaf (node required (Some Converted.date) None) int32) ≡ true

pub record AreWorked : Type 0 where
  pub skeletons : AreSkeletons
  pub rows : AreRows
  pub table : IsPageTable
