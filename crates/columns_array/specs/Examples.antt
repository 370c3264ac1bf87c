-- Examples, computed when the crate is checked: bits, offsets, metadata and shapes of the crates below, and which parts make an array.
use Rattle.std.specs.Prelude.{◌≡◌, ℕ, pos, negsuc, true, false, Some, None, List, [], ◌∷◌, codes}
use Rattle.shredding.specs.Slot.{bytes}
use Rattle.shredding.specs.Shape.{signed, text, leaf, list, struct, no_shapes, shape}
use Rattle.columns_core.specs.declared.types.IntegerType.TheVariants as key
use Rattle.columns_core.specs.declared.types.IntervalUnit.TheVariants.{YearMonth}
use Rattle.columns_core.specs.Bits.{bits_from}
use Rattle.columns_core.specs.Natives.{value_i32, interval_bytes}
use Rattle.columns_core.specs.Meta.{with_text, without_key, text_at}
use Rattle.columns_core.specs.Rising.{ArePlaces, IsRising, last_place, places_from}
use Rattle.columns_core.specs.Shapes.{shape_of, base}
use Rattle.columns_core.specs.Measures.{nesting}
use Rattle.columns_core.specs.Tree.{TypeTree, t_null, t_int8, t_int32, t_utf8, t_interval, t_fixed_size_binary, t_list, t_fixed_size_list, t_struct, t_map, t_dictionary, t_extension, FieldTree, field, FieldTrees, no_fields, more_fields}
use Rattle.columns_slots.specs.Tree.{ArrayTree, null_array, ArrayTrees, no_arrays, more_arrays}
use Rattle.columns_leaf.specs.Fixed.{fixed_count, AreWhole}
use Rattle.columns_leaf.specs.declared.keys.DictionaryKeys.{DictionaryKeys}
use Rattle.columns_leaf.specs.declared.keys.DictionaryKeys.TheVariants.{Int8 as Int8Keys}
use Rattle.columns_array.specs.Chunks.{AreEven}
use Rattle.columns_array.specs.Fits.{FitsLists, FitsFixedLists, FitsStruct, FitsKeys}

abbrev pub may : TypeTree → FieldTree
may t = field (codes "a") t true []

abbrev pub must : TypeTree → FieldTree
must t = field (codes "a") t false []

abbrev pub two : FieldTree → FieldTree → FieldTrees
two f g = more_fields f (more_fields g no_fields)

-- ---- what the buffers and types of columns_core are

pub record BuffersAreWorked : Type 0 where
  -- the lowest bit of each byte first: 5 is 1, 0, 1 and five times 0
  pub bits : bits_from (5 ∷ 1 ∷ []) 0 10 ≡ true ∷ false ∷ true ∷ false ∷ false ∷ false ∷ false ∷ false ∷ true ∷ false ∷ []
  pub bits_from_a_place : bits_from (5 ∷ 1 ∷ []) 7 2 ≡ false ∷ true ∷ []
  pub places : ArePlaces (pos 0 ∷ pos 2 ∷ pos 2 ∷ [])
  pub later_places : ArePlaces (pos 3 ∷ [])
  pub no_places : ArePlaces [] → ⊥
  pub falling_places : ArePlaces (pos 3 ∷ pos 2 ∷ []) → ⊥
  pub negative_place : ArePlaces (negsuc 0 ∷ []) → ⊥
  pub rising : IsRising (1 ∷ 1 ∷ 4 ∷ [])
  pub not_rising : IsRising (1 ∷ 0 ∷ []) → ⊥
  pub ends : places_from 2 (1 ∷ 0 ∷ 3 ∷ []) ≡ 3 ∷ 3 ∷ 6 ∷ []
  pub last : last_place (2 ∷ 3 ∷ 6 ∷ []) ≡ 6
  -- intervals of less than nothing: a month, and a day with 256 milliseconds
  pub month_back : value_i32 (t_interval YearMonth) (negsuc 0) ≡ bytes (255 ∷ 255 ∷ 255 ∷ 255 ∷ 0 ∷ 0 ∷ 0 ∷ 0 ∷ 0 ∷ 0 ∷ 0 ∷ 0 ∷ [])
  pub day_back : interval_bytes (pos 0) (negsuc 0) (negsuc 255) ≡ 0 ∷ 0 ∷ 0 ∷ 0 ∷ 255 ∷ 255 ∷ 255 ∷ 255 ∷ 0 ∷ 255 ∷ 255 ∷ 255 ∷ []
  -- keys ascend byte by byte, and a text takes the place of that of the same key
  pub text_before : with_text (codes "B") (codes "1") ((codes "a", codes "2") ∷ []) ≡ (codes "B", codes "1") ∷ (codes "a", codes "2") ∷ []
  pub text_again : with_text (codes "a") (codes "1") ((codes "a", codes "2") ∷ []) ≡ (codes "a", codes "1") ∷ []
  pub text_out : without_key (codes "a") ((codes "a", codes "2") ∷ (codes "b", codes "3") ∷ []) ≡ (codes "b", codes "3") ∷ []
  pub text_there : text_at (codes "b") ((codes "a", codes "2") ∷ (codes "b", codes "3") ∷ []) ≡ Some (codes "3")
  pub text_missing : text_at (codes "c") ((codes "a", codes "2") ∷ []) ≡ None

-- a map is a list of its entries, a dictionary goes by its value type, an extension by its inner type
pub record ShapesAreWorked : Type 0 where
  pub map :
      shape_of (may (t_map (must (t_struct (two (must t_utf8) (may t_int32)))) false)) ≡ list true (struct false (shape (leaf false text) (shape (leaf true (signed 32)) no_shapes)))
  pub dictionary : shape_of (must (t_dictionary key.Int8 t_utf8 false)) ≡ leaf false text
  pub extension : shape_of (may (t_extension (codes "e") (t_list (must t_int32)) None)) ≡ list true (leaf false (signed 32))
  pub beneath : base (t_extension (codes "e") (t_extension (codes "f") t_int32 None) None) ≡ t_int32
  -- an extension has its inner type as a part, and a dictionary its value type
  pub nests : nesting (t_list (may (t_dictionary key.Int8 (t_extension (codes "e") t_int32 None) false))) ≡ 4

-- ---- which parts make an array

-- as many positions as said, all null
abbrev pub nulls : ℕ → ArrayTree
nulls n = null_array t_null n

abbrev pub pair : ArrayTree → ArrayTree → ArrayTrees
pair a b = more_arrays a (more_arrays b no_arrays)

abbrev pub null_pair : TypeTree
null_pair = t_struct (two (may t_null) (may t_null))

pub record PartsAreWorked : Type 0 where
  -- two lists over three items of four
  pub lists : FitsLists (Some t_null) (0 ∷ 2 ∷ 3 ∷ []) (nulls 4) (Some (true ∷ false ∷ []))
  pub past_the_items : FitsLists (Some t_null) (0 ∷ 5 ∷ []) (nulls 4) None → ⊥
  pub other_items : FitsLists (Some t_int32) (0 ∷ 2 ∷ []) (nulls 4) None → ⊥
  pub no_list : FitsLists None (0 ∷ 2 ∷ []) (nulls 4) None → ⊥
  pub long_mask : FitsLists (Some t_null) (0 ∷ 2 ∷ []) (nulls 4) (Some (true ∷ true ∷ [])) → ⊥
  pub fixed_lists : FitsFixedLists (t_fixed_size_list (may t_null) 2) (nulls 4) (Some (true ∷ false ∷ []))
  pub item_over : FitsFixedLists (t_fixed_size_list (may t_null) 2) (nulls 3) None → ⊥
  pub no_size : FitsFixedLists (t_fixed_size_list (may t_null) 0) (nulls 0) None → ⊥
  pub structs : FitsStruct null_pair (pair (nulls 2) (nulls 2)) (Some (true ∷ true ∷ []))
  pub two_lengths : FitsStruct null_pair (pair (nulls 2) (nulls 3)) None → ⊥
  pub one_too_few : FitsStruct null_pair (more_arrays (nulls 2) no_arrays) None → ⊥
  pub no_parts : FitsStruct (t_struct no_fields) no_arrays None → ⊥
  pub even : AreEven (pair (nulls 2) (nulls 2))
  pub uneven : AreEven (pair (nulls 2) (nulls 1)) → ⊥
  -- bytes in strings of three
  pub whole_strings : AreWhole (t_fixed_size_binary 3) (1 ∷ 2 ∷ 3 ∷ 4 ∷ 5 ∷ 6 ∷ [])
  pub string_cut : AreWhole (t_fixed_size_binary 3) (1 ∷ 2 ∷ []) → ⊥
  pub counted : fixed_count (t_fixed_size_binary 3) (1 ∷ 2 ∷ 3 ∷ 4 ∷ 5 ∷ 6 ∷ []) ≡ 2

-- the keys 1, null and 0
abbrev pub three_keys : DictionaryKeys
three_keys = Int8Keys (t_int8, (pos 1 ∷ pos 9 ∷ pos 0 ∷ [], Some (true ∷ false ∷ true ∷ [])))

pub record KeysAreWorked : Type 0 where
  pub keys : FitsKeys (t_dictionary key.Int8 t_null false) three_keys (nulls 2)
  pub key_of_no_entry : FitsKeys (t_dictionary key.Int8 t_null false) three_keys (nulls 1) → ⊥
  pub other_keys : FitsKeys (t_dictionary key.Int16 t_null false) three_keys (nulls 2) → ⊥
  pub other_entries : FitsKeys (t_dictionary key.Int8 t_int32 false) three_keys (nulls 2) → ⊥

pub record AreWorked : Type 0 where
  pub buffers : BuffersAreWorked
  pub shapes : ShapesAreWorked
  pub parts : PartsAreWorked
  pub keys : KeysAreWorked
