-- Examples, computed when the crate is checked: what the definitions say of some arrays, and that some parts make none.
use Rattle.std.specs.Prelude.{◌≡◌, ℕ, pos, true, false, Some, None, List, [], ◌∷◌, map}
use Rattle.shredding.specs.Slot.{Value, truth, number, bytes, Slot, null, value, items, fields, slots_of}
use Rattle.columns_core.specs.declared.types.IntegerType.TheVariants as key
use Rattle.columns_core.specs.Tree.{TypeTree, t_null, t_boolean, t_int32, t_utf8, t_list, t_fixed_size_list, t_struct, t_map, t_dictionary, t_extension, FieldTree, field, no_fields, more_fields}
use Rattle.columns_slots.specs.Tree.{ArrayTree, null_array, leaf_array, list_array, fixed_list_array, struct_array, dictionary_array, no_arrays, more_arrays}
use Rattle.columns_slots.specs.Slots.{slots, IsSound, cut, null_slots}
use Rattle.columns_slots.specs.Bytes.{chunks, pieces_values}

-- a nullable field without a name or metadata
abbrev pub a_field : TypeTree → FieldTree
a_field t = field [] t true []

abbrev pub numbers : List ℕ → List Value
numbers ns = map (λ n. number (pos n)) ns

abbrev pub number_slot : ℕ → Slot
number_slot n = value (number (pos n))

abbrev pub list_slot : List ℕ → Slot
list_slot ns = items (slots_of (map number_slot ns))

-- 1, null, 3, 4, 5, where 2 lies beneath the null
abbrev pub five : ArrayTree
five = leaf_array t_int32 (numbers (1 ∷ 2 ∷ 3 ∷ 4 ∷ 5 ∷ [])) (Some (true ∷ false ∷ true ∷ true ∷ true ∷ []))

-- [1, null], null over no item, [3], with items after the last offset
abbrev pub lists : ArrayTree
lists = list_array (t_list (a_field t_int32)) (0 ∷ 2 ∷ 2 ∷ 3 ∷ []) five (Some (true ∷ false ∷ true ∷ []))

-- [1, 2], [3, 4], [5, 6]
abbrev pub pairs : ArrayTree
pairs = fixed_list_array (t_fixed_size_list (a_field t_int32) 2) 2 3 (leaf_array t_int32 (numbers (1 ∷ 2 ∷ 3 ∷ 4 ∷ 5 ∷ 6 ∷ [])) None) None

-- {1, true}, null over {2, false}
abbrev pub structs : ArrayTree
structs =
    struct_array (t_struct (more_fields (a_field t_int32) (more_fields (a_field t_boolean) no_fields)))
    (more_arrays (leaf_array t_int32 (numbers (1 ∷ 2 ∷ [])) None) (more_arrays (leaf_array t_boolean (truth true ∷ truth false ∷ []) None) no_arrays))
    (Some (true ∷ false ∷ []))

-- 8, null by its entry, null by its mask over a key of no entry, 8
abbrev pub keyed : ArrayTree
keyed =
    dictionary_array (t_dictionary key.Int32 t_int32 false) (pos 1 ∷ pos 0 ∷ pos 9 ∷ pos 1 ∷ []) (leaf_array t_int32 (numbers (7 ∷ 8 ∷ [])) (Some (false ∷ true ∷ [])))
    (Some (true ∷ true ∷ false ∷ true ∷ []))

-- a map of one entry, whose entries may have any type, within an extension
abbrev pub maps : ArrayTree
maps = list_array (t_extension [] (t_map (a_field t_int32) false) None) (1 ∷ 2 ∷ []) (leaf_array t_int32 (numbers (1 ∷ 2 ∷ [])) None) None

-- "hi", "", "é"
abbrev pub texts : ArrayTree
texts = leaf_array t_utf8 (pieces_values (0 ∷ 2 ∷ 2 ∷ 4 ∷ []) (104 ∷ 105 ∷ 0xc3 ∷ 0xa9 ∷ [])) None

abbrev pub IsNoArray : ArrayTree → Type 0
IsNoArray a = IsSound a → ⊥

pub record AsWorked : Type 0 where
  pub nulls_slots : slots (null_array t_null 2) ≡ null ∷ null ∷ []
  pub five_sound : IsSound five
  pub five_slots : slots five ≡ number_slot 1 ∷ null ∷ number_slot 3 ∷ number_slot 4 ∷ number_slot 5 ∷ []
  pub five_nulls : null_slots five ≡ 1
  pub lists_sound : IsSound lists
  pub lists_slots : slots lists ≡ items (slots_of (number_slot 1 ∷ null ∷ [])) ∷ null ∷ list_slot (3 ∷ []) ∷ []
  pub lists_cut : slots (cut lists 1 2) ≡ null ∷ list_slot (3 ∷ []) ∷ []
  pub lists_cut_twice : slots (cut (cut lists 1 2) 1 1) ≡ list_slot (3 ∷ []) ∷ []
  pub pairs_sound : IsSound pairs
  pub pairs_slots : slots pairs ≡ list_slot (1 ∷ 2 ∷ []) ∷ list_slot (3 ∷ 4 ∷ []) ∷ list_slot (5 ∷ 6 ∷ []) ∷ []
  pub pairs_cut : cut pairs 1 1 ≡ fixed_list_array (t_fixed_size_list (a_field t_int32) 2) 2 1 (leaf_array t_int32 (numbers (3 ∷ 4 ∷ [])) None) None
  pub structs_sound : IsSound structs
  pub structs_slots : slots structs ≡ fields (slots_of (number_slot 1 ∷ value (truth true) ∷ [])) ∷ null ∷ []
  pub structs_cut : slots (cut structs 1 1) ≡ null ∷ []
  pub keyed_sound : IsSound keyed
  pub keyed_slots : slots keyed ≡ number_slot 8 ∷ null ∷ null ∷ number_slot 8 ∷ []
  pub keyed_nulls : null_slots keyed ≡ 2
  pub maps_sound : IsSound maps
  pub maps_slots : slots maps ≡ list_slot (2 ∷ []) ∷ []
  pub texts_sound : IsSound texts
  pub texts_slots : slots texts ≡ value (bytes (104 ∷ 105 ∷ [])) ∷ value (bytes []) ∷ value (bytes (0xc3 ∷ 0xa9 ∷ [])) ∷ []
  pub two_bytes_each : chunks 2 3 (1 ∷ 2 ∷ 3 ∷ 4 ∷ 5 ∷ 6 ∷ []) ≡ (1 ∷ 2 ∷ []) ∷ (3 ∷ 4 ∷ []) ∷ (5 ∷ 6 ∷ []) ∷ []
  pub nulls_of_numbers : IsNoArray (null_array t_int32 2)
  pub mask_too_short : IsNoArray (leaf_array t_int32 (numbers (1 ∷ 2 ∷ [])) (Some (true ∷ [])))
  pub out_of_range : IsNoArray (leaf_array t_boolean (numbers (1 ∷ [])) None)
  pub character_cut : IsNoArray (leaf_array t_utf8 (pieces_values (0 ∷ 1 ∷ 2 ∷ []) (0xc3 ∷ 0xa9 ∷ [])) None)
  pub too_few_items : IsNoArray (list_array (t_list (a_field t_int32)) (0 ∷ 6 ∷ []) five None)
  pub falling : IsNoArray (list_array (t_list (a_field t_int32)) (2 ∷ 1 ∷ []) five None)
  pub other_items : IsNoArray (list_array (t_list (a_field t_boolean)) (0 ∷ 2 ∷ []) five None)
  pub no_offset : IsNoArray (list_array (t_list (a_field t_int32)) [] five None)
  pub item_left_over : IsNoArray (fixed_list_array (t_fixed_size_list (a_field t_int32) 2) 2 2 five None)
  pub no_size : IsNoArray (fixed_list_array (t_fixed_size_list (a_field t_int32) 0) 0 3 (leaf_array t_int32 [] None) None)
  pub no_fields_at_all : IsNoArray (struct_array (t_struct no_fields) no_arrays None)
  pub fields_of_two_lengths :
      IsNoArray
      (struct_array (t_struct (more_fields (a_field t_int32) (more_fields (a_field t_null) no_fields)))
      (more_arrays five (more_arrays (null_array t_null 4) no_arrays))
      None)
  pub key_of_no_entry : IsNoArray (dictionary_array (t_dictionary key.Int32 t_int32 false) (pos 5 ∷ []) five None)
