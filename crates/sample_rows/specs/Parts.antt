-- The parts of the sample's arrays.
use Rattle.std.specs.Prelude.{◌≡◌, ℕ, ℤ, pos, ◌*◌, ◌%◌, ◌≤◌, ◌==◌, if◌then◌else◌, Bool, not, List, [], ◌∷◌, length, map, flat_map, Some}
use Rattle.std.specs.Fmt.{decimal}
use Rattle.std.specs.List.{range_with_len}
use Rattle.columns_array.specs.declared.arrays.ArrayBox.{ArrayBox}
use Rattle.columns_array.specs.declared.arrays.ArrayBox.TheVariants as boxes
use Rattle.columns_core.specs.Natives.{value_i32}
use Rattle.columns_core.specs.Rising.{last_place, places_from}
use Rattle.columns_core.specs.Shapes.{base}
use Rattle.columns_core.specs.Tree.{TypeTree, t_int32}
use Rattle.columns_slots.specs.Tree.{ArrayTree, Mask, leaf_array}
use Rattle.sample_rows.specs.Rows.{each_row}

-- Lists one behind another as one list, and the offsets between them.
pub record AreStrung {A : Type 0} (parts : List (List A)) (offsets : List ℕ) (all : List A) : Type 0 where
  pub offsets_are : offsets ≡ 0 ∷ places_from 0 (map length parts)
  pub all_are : all ≡ flat_map (λ part. part) parts
  pub last : last_place offsets ≡ length all

-- whether a row has a tag, and its text, which is empty where there is none
abbrev pub has_tag : ℕ → Bool
has_tag i = not (i % 3 == 0)

abbrev pub tag_text : ℕ → List ℕ
tag_text i = if i % 3 == 0 then [] else decimal i

-- whether an item is present
abbrev pub is_kept : ℕ → Bool
is_kept n = not (n % 7 == 0)

-- whether a row has a list, and how many items
abbrev pub has_list : ℕ → Bool
has_list i = not (i % 5 == 0)

abbrev pub item_count : ℕ → ℕ
item_count i = if i % 5 == 0 then 0 else i % 4

-- the numbers that lie in the array of items for a row, those of null items too, and which are present
abbrev pub item_numbers : ℕ → List ℤ
item_numbers i = map pos (range_with_len i (item_count i))

abbrev pub item_marks : ℕ → List Bool
item_marks i = map is_kept (range_with_len i (item_count i))

-- The items of so many rows: the offsets between them, their numbers, and which are present.
pub record AreItems (count : ℕ) (offsets : List ℕ) (numbers : List ℤ) (marks : List Bool) : Type 0 where
  pub numbers_are : AreStrung (each_row item_numbers count) offsets numbers
  pub marks_are : AreStrung (each_row item_marks count) offsets marks
  pub few : last_place offsets ≤ 3 * count

-- the array of all items
abbrev pub item_array : List ℤ → List Bool → ArrayTree
item_array numbers marks = leaf_array t_int32 (map (value_i32 t_int32) numbers) (Some marks)

-- the tree of an array of numbers of 32 bits
abbrev pub numbers_tree : TypeTree × (List ℤ × Mask) → ArrayTree
numbers_tree a = leaf_array a.0 (map (value_i32 (base a.0)) a.1.0) a.1.1

-- the array is one of numbers of 32 bits by its kind
abbrev pub AreInt32 : ArrayBox → Type 0
AreInt32 (boxes.Int32 a) = Unit {0}
AreInt32 array = ⊥
