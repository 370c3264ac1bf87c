-- Examples, computed when the crate is checked: what the definitions say of some rows, paths and values.
use Rattle.std.specs.Prelude.{◌≡◌, ℕ, zero, suc, pos, negsuc, Bool, true, false, Option, Some, None, List, [], ◌∷◌, map, filter_map, All, replicate}
use Rattle.shredding.specs.Slot.{Value, truth, number, bytes, Slot, null, value, items, fields, no_slots, slots_of}
use Rattle.shredding.specs.Shape.{Shape, leaf, list, struct, no_shapes, shape, LeafType, nothing, truths, text, binary, signed, unsigned, fixed_bytes, decimal, months, days, IsInRange, IsOf}
use Rattle.shredding.specs.Shred.{Triple, column, columns, max_repetition, max_definition}
use Rattle.shredding.specs.Cut.{cut}
use Rattle.shredding.specs.Parts.{Part, leaf_part, list_part, struct_part, IsPath, path_slots, path_way}

abbrev pub repetitions : List Triple → List ℕ
repetitions ts = map (λ t. t.repetition) ts

abbrev pub definitions : List Triple → List ℕ
definitions ts = map (λ t. t.definition) ts

abbrev pub values : List Triple → List Value
values ts = filter_map (λ t. t.value) ts

-- the n numbers from m on
abbrev pub numbers_from : ℕ → ℕ → List Value
numbers_from m zero = []
numbers_from m (suc n) = number (pos m) ∷ numbers_from (suc m) n

-- ---- paths over a leaf that has its own positions as numbers

abbrev pub position_value : ℕ → Slot
position_value i = value (number (pos i))

abbrev pub path_column : List Part → List Triple
path_column parts = column (path_way parts) (path_slots position_value parts)

-- a required list of required items: [0, 1], [], [2, 3, 4], [5, 6, 7], [], [8, 9, 10], [], [11]
abbrev pub lists : List Part
lists = list_part false None (0 ∷ 2 ∷ 2 ∷ 5 ∷ 8 ∷ 8 ∷ 11 ∷ 11 ∷ 12 ∷ []) ∷ leaf_part false None 12 ∷ []

-- a required list of required lists of required items
abbrev pub lists_of_lists : List Part
lists_of_lists =
    list_part false None (0 ∷ 1 ∷ 1 ∷ 3 ∷ 5 ∷ 5 ∷ 8 ∷ 8 ∷ 9 ∷ [])
    ∷ list_part false None (0 ∷ 2 ∷ 4 ∷ 5 ∷ 7 ∷ 8 ∷ 9 ∷ 10 ∷ 11 ∷ 12 ∷ [])
    ∷ leaf_part false None 12
    ∷ []

-- an optional list of optional structs of an optional list of optional items, each part with nulls
abbrev pub lists_in_structs : List Part
lists_in_structs =
    list_part true (Some (true ∷ false ∷ true ∷ true ∷ true ∷ true ∷ false ∷ true ∷ [])) (0 ∷ 2 ∷ 2 ∷ 5 ∷ 8 ∷ 8 ∷ 11 ∷ 11 ∷ 12 ∷ [])
    ∷ struct_part true (Some (true ∷ true ∷ true ∷ false ∷ true ∷ true ∷ true ∷ true ∷ true ∷ true ∷ true ∷ true ∷ [])) 12
    ∷ list_part
    true
    (Some (true ∷ true ∷ true ∷ false ∷ true ∷ false ∷ false ∷ false ∷ true ∷ true ∷ true ∷ true ∷ []))
    (0 ∷ 1 ∷ 2 ∷ 3 ∷ 3 ∷ 4 ∷ 4 ∷ 4 ∷ 4 ∷ 5 ∷ 6 ∷ 8 ∷ 8 ∷ [])
    ∷ leaf_part true (Some (true ∷ true ∷ true ∷ true ∷ true ∷ false ∷ true ∷ true ∷ [])) 8
    ∷ []

-- an optional list of required items, where a null list has items beneath it
abbrev pub null_over_items : List Part
null_over_items = list_part true (Some (true ∷ false ∷ [])) (0 ∷ 2 ∷ 4 ∷ []) ∷ leaf_part false None 4 ∷ []

-- the same list with other offsets, and with a mask that is not looked at, since the leaf is required
abbrev pub null_over_fewer : List Part
null_over_fewer = list_part true (Some (true ∷ false ∷ [])) (7 ∷ 9 ∷ 10 ∷ []) ∷ leaf_part false (Some (false ∷ false ∷ false ∷ [])) 3 ∷ []

abbrev pub IsNoPath : List Part → Type 0
IsNoPath parts = IsPath parts → ⊥

pub record PathsAsWorked : Type 0 where
  pub lists_are_path : IsPath lists
  pub null_is_path : IsPath null_over_items
  pub structs_are_path : IsPath lists_in_structs
  pub nothing_is_no_path : IsNoPath []
  pub no_leaf : IsNoPath (struct_part true None 0 ∷ [])
  pub two_leaves : IsNoPath (leaf_part true None 0 ∷ leaf_part true None 0 ∷ [])
  pub mask_too_short : IsNoPath (leaf_part true (Some (true ∷ [])) 2 ∷ [])
  pub too_few_items : IsNoPath (list_part true None (0 ∷ 2 ∷ []) ∷ leaf_part true None 1 ∷ [])
  pub lists_repetition : repetitions (path_column lists) ≡ 0 ∷ 1 ∷ 0 ∷ 0 ∷ 1 ∷ 1 ∷ 0 ∷ 1 ∷ 1 ∷ 0 ∷ 0 ∷ 1 ∷ 1 ∷ 0 ∷ 0 ∷ []
  pub lists_definition : definitions (path_column lists) ≡ 1 ∷ 1 ∷ 0 ∷ 1 ∷ 1 ∷ 1 ∷ 1 ∷ 1 ∷ 1 ∷ 0 ∷ 1 ∷ 1 ∷ 1 ∷ 0 ∷ 1 ∷ []
  pub lists_values : values (path_column lists) ≡ numbers_from 0 12
  pub lists_of_lists_repetition : repetitions (path_column lists_of_lists) ≡ 0 ∷ 2 ∷ 0 ∷ 0 ∷ 2 ∷ 1 ∷ 0 ∷ 2 ∷ 1 ∷ 0 ∷ 0 ∷ 1 ∷ 1 ∷ 0 ∷ 0 ∷ []
  pub lists_in_structs_repetition : repetitions (path_column lists_in_structs) ≡ 0 ∷ 1 ∷ 0 ∷ 0 ∷ 1 ∷ 1 ∷ 0 ∷ 1 ∷ 1 ∷ 0 ∷ 0 ∷ 1 ∷ 1 ∷ 2 ∷ 0 ∷ 0 ∷ []
  pub lists_in_structs_definition : definitions (path_column lists_in_structs) ≡ 6 ∷ 6 ∷ 0 ∷ 6 ∷ 2 ∷ 6 ∷ 3 ∷ 3 ∷ 3 ∷ 1 ∷ 6 ∷ 5 ∷ 6 ∷ 6 ∷ 0 ∷ 4 ∷ []
  pub lists_in_structs_max_repetition : max_repetition (path_way lists_in_structs) ≡ 2
  pub lists_in_structs_max_definition : max_definition (path_way lists_in_structs) ≡ 6
  pub null_repetition : repetitions (path_column null_over_items) ≡ 0 ∷ 1 ∷ 0 ∷ []
  pub null_definition : definitions (path_column null_over_items) ≡ 2 ∷ 2 ∷ 0 ∷ []
  pub null_values : values (path_column null_over_items) ≡ numbers_from 0 2
  pub null_over_any : path_column null_over_fewer ≡ path_column null_over_items

-- ---- rows of fields

-- an optional list of optional numbers
abbrev pub list_field : Shape
list_field = list true (leaf true (signed 32))

-- [1, 2], null, [], [null]
abbrev pub list_rows : List Slot
list_rows = items (slots_of (map value (numbers_from 1 2))) ∷ null ∷ items (slots_of []) ∷ items (slots_of (null ∷ [])) ∷ []

-- an optional struct of a required truth value and a required number
abbrev pub struct_field : Shape
struct_field = struct true (shape (leaf false truths) (shape (leaf false (signed 32)) no_shapes))

abbrev pub struct_row : Bool → ℕ → Slot
struct_row b n = fields (slots_of (value (truth b) ∷ value (number (pos n)) ∷ []))

abbrev pub struct_rows : List Slot
struct_rows = struct_row false 42 ∷ struct_row false 28 ∷ null ∷ struct_row true 31 ∷ []

abbrev pub triple : ℕ → ℕ → Option Value → Triple
triple r d v = record { repetition = r; definition = d; value = v }

-- no rows of the field shred to these columns
abbrev pub HasNoRows : Shape → List (List Triple) → Type 0
HasNoRows f ts = (rows : List Slot) → All (IsOf f) rows → columns f rows ≡ ts → ⊥

-- an optional struct of two required numbers
abbrev pub pair_field : Shape
pair_field = struct true (shape (leaf false (signed 32)) (shape (leaf false (signed 32)) no_shapes))

-- the struct is there by the one column, and null by the other
abbrev pub columns_in_conflict : Value → List (List Triple)
columns_in_conflict v = (triple 0 1 (Some v) ∷ []) ∷ (triple 0 0 None ∷ []) ∷ []

-- an item goes on a list that is empty
abbrev pub column_with_orphan : Value → List (List Triple)
column_with_orphan v = (triple 0 1 None ∷ triple 1 3 (Some v) ∷ []) ∷ []

-- a field that no column tells anything of
abbrev pub empty_struct : Shape
empty_struct = struct true no_shapes

pub record RowsAsWorked : Type 0 where
  pub list_slots : All (IsOf list_field) list_rows
  pub list_repetition : map repetitions (columns list_field list_rows) ≡ (0 ∷ 1 ∷ 0 ∷ 0 ∷ 0 ∷ []) ∷ []
  pub list_definition : map definitions (columns list_field list_rows) ≡ (3 ∷ 3 ∷ 0 ∷ 1 ∷ 2 ∷ []) ∷ []
  pub list_values : map values (columns list_field list_rows) ≡ numbers_from 1 2 ∷ []
  pub struct_slots : All (IsOf struct_field) struct_rows
  pub struct_definition : map definitions (columns struct_field struct_rows) ≡ (1 ∷ 1 ∷ 0 ∷ 1 ∷ []) ∷ (1 ∷ 1 ∷ 0 ∷ 1 ∷ []) ∷ []
  pub struct_values :
      map values (columns struct_field struct_rows) ≡ (truth false ∷ truth false ∷ truth true ∷ []) ∷ (number (pos 42) ∷ number (pos 28) ∷ number (pos 31) ∷ []) ∷ []
  pub conflict : (v : Value) → HasNoRows pair_field (columns_in_conflict v)
  pub orphan : (v : Value) → HasNoRows list_field (column_with_orphan v)
  -- why the laws on uniqueness and existence leave empty structs out
  pub empty_struct_columns : columns empty_struct (null ∷ []) ≡ columns empty_struct (fields no_slots ∷ [])
  pub cut_in_threes : cut list_rows (Some 3) ≡ (items (slots_of (map value (numbers_from 1 2))) ∷ null ∷ items (slots_of []) ∷ []) ∷ (items (slots_of (null ∷ [])) ∷ []) ∷ []
  pub cut_not_at_all : cut list_rows None ≡ list_rows ∷ []
  pub cut_of_none : cut {A = Slot} [] (Some 3) ≡ []

-- ---- values and slots that are of a leaf type or a field, and some that are not

abbrev pub IsNotInRange : LeafType → Value → Type 0
IsNotInRange t v = IsInRange t v → ⊥

abbrev pub IsNotOf : Shape → Slot → Type 0
IsNotOf f s = IsOf f s → ⊥

pub record RangesAsWorked : Type 0 where
  pub int8_127 : IsInRange (signed 8) (number (pos 127))
  pub int8_minus_128 : IsInRange (signed 8) (number (negsuc 127))
  pub int8_300 : IsNotInRange (signed 8) (number (pos 300))
  pub int8_128 : IsNotInRange (signed 8) (number (pos 128))
  pub int8_minus_129 : IsNotInRange (signed 8) (number (negsuc 128))
  pub uint8_255 : IsInRange (unsigned 8) (number (pos 255))
  pub uint8_256 : IsNotInRange (unsigned 8) (number (pos 256))
  pub uint8_minus_1 : IsNotInRange (unsigned 8) (number (negsuc 0))
  pub uint8_truth : IsNotInRange (unsigned 8) (truth true)
  pub decimal_least : IsInRange decimal (number (negsuc 170141183460469231731687303715884105727))
  pub decimal_too_large : IsNotInRange decimal (number (pos 170141183460469231731687303715884105728))
  -- é
  pub text_of_two_bytes : IsInRange text (bytes (0xc3 ∷ 0xa9 ∷ []))
  pub text_not_utf8 : IsNotInRange text (bytes (0xff ∷ []))
  pub text_cut_short : IsNotInRange text (bytes (0xc3 ∷ []))
  pub binary_not_utf8 : IsInRange binary (bytes (0xff ∷ []))
  pub fixed_of_two : IsInRange (fixed_bytes 2) (bytes (1 ∷ 2 ∷ []))
  pub fixed_of_three : IsNotInRange (fixed_bytes 2) (bytes (1 ∷ 2 ∷ 3 ∷ []))
  pub months_of_one : IsInRange months (bytes (1 ∷ replicate 11 0))
  pub months_with_days : IsNotInRange months (bytes (1 ∷ 0 ∷ 0 ∷ 0 ∷ 1 ∷ replicate 7 0))
  pub days_of_one : IsInRange days (bytes (0 ∷ 0 ∷ 0 ∷ 0 ∷ 1 ∷ replicate 7 0))
  pub days_with_months : IsNotInRange days (bytes (1 ∷ replicate 11 0))
  pub days_too_short : IsNotInRange days (bytes (replicate 11 0))
  pub nothing_false : IsNotInRange nothing (truth false)
  pub null_of_optional : IsOf (leaf true (signed 32)) null
  pub null_of_required : IsNotOf (leaf false (signed 32)) null
  pub null_of_nothing : IsOf (leaf true nothing) null
  pub null_item_of_required : IsNotOf (list true (leaf false (signed 32))) (items (slots_of (null ∷ [])))
  pub list_for_leaf : IsNotOf (leaf true (signed 32)) (items no_slots)
  pub struct_too_short : IsNotOf struct_field (fields (slots_of (value (truth true) ∷ [])))
  pub struct_out_of_order : IsNotOf struct_field (fields (slots_of (value (number (pos 1)) ∷ value (truth true) ∷ [])))

pub record AsWorked : Type 0 where
  pub paths : PathsAsWorked
  pub rows : RowsAsWorked
  pub ranges : RangesAsWorked
