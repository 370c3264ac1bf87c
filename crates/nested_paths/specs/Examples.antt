-- Examples, computed when the crate is checked: paths, what is read of an array, and what does not go together.
use Rattle.std.specs.Prelude.{◌≡◌, ℕ, true, false, Some, None, List, [], ◌∷◌, Bool}
use Rattle.shredding.specs.Parts.{Part, leaf_part, list_part, struct_part}
use Rattle.shredding.specs.Slot.{null}
use Rattle.columns_base.specs.declared.error.Error.TheVariants.{NotYetImplemented}
use Rattle.columns_base.specs.declared.error.N.TheVariants.{N5}
use Rattle.columns_core.specs.Tree.{t_null, t_large_list}
use Rattle.columns_slots.specs.Tree.{Mask, ArrayTree, null_array, list_array, struct_array, ArrayTrees, no_arrays, more_arrays}
use Rattle.columns_slots.specs.Slots.{slots}
use Rattle.columns_slots.specs.Worked.{a_field, number_slot, list_slot, five, lists, pairs, structs, keyed}
use Rattle.levels.specs.Levels.{path_pairs}
use Rattle.pq_tree.specs.Physical.{int32}
use Rattle.pq_tree.specs.Tree.{Tree, leaf, group, no_trees, tree}
use Rattle.pq_tree.specs.Types.{Repetition, required, optional, repeated, Info}
use Rattle.nested_paths.specs.Kinds.{kinds}
use Rattle.nested_paths.specs.LeafNulls.{MergesNulls}
use Rattle.nested_paths.specs.Leaves.{array_leaves}
use Rattle.nested_paths.specs.PathLeaf.{FitsLeaf}
use Rattle.nested_paths.specs.Paths.{differs, misfit, paths}
use Rattle.nested_paths.specs.Seen.{read_by}

-- ---- nodes without names

abbrev pub node : Repetition → Info
node r = record { name = []; repetition = r; id = None; converted = None; logical = None }

abbrev pub column : Repetition → Tree
column r = leaf (node r) int32

abbrev pub over_one : Repetition → Tree → Tree
over_one r t = group (node r) (tree t no_trees)

abbrev pub over_two : Repetition → Tree → Tree → Tree
over_two r t u = group (node r) (tree t (tree u no_trees))

abbrev pub list_node : Repetition → Tree → Tree
list_node r item = over_one r (over_one repeated item)

abbrev pub pair_node : Repetition → Tree
pair_node r = over_two r (column required) (column required)

-- a struct of these arrays
abbrev pub struct_of : ArrayTrees → ArrayTree
struct_of cs = struct_array t_null cs None

abbrev pub five_bits : List Bool
five_bits = true ∷ false ∷ true ∷ true ∷ true ∷ []

-- ---- nulls that are merged

abbrev pub leaf_of : Mask → ℕ → List Part
leaf_of m n = leaf_part true m n ∷ []

abbrev pub keyed_bits : List Bool
keyed_bits = true ∷ true ∷ false ∷ true ∷ []

-- a position of keyed counts where neither its key nor its entry is null
abbrev pub present_bits : List Bool
present_bits = true ∷ false ∷ false ∷ true ∷ []

pub record AreMerged : Type 0 where
  pub fits : FitsLeaf keyed (leaf_of (Some keyed_bits) 4)
  pub other_mask : FitsLeaf keyed (leaf_of None 4) → ⊥
  pub other_length : FitsLeaf keyed (leaf_of (Some keyed_bits) 3) → ⊥
  pub keyed_nulls : MergesNulls keyed (leaf_of (Some keyed_bits) 4) (leaf_of (Some present_bits) 4)
  pub keyed_levels : path_pairs (leaf_of (Some present_bits) 4) ≡ (0, 1) ∷ (0, 0) ∷ (0, 0) ∷ (0, 1) ∷ []
  -- the keys' mask alone says that the null entry is there
  pub keys_alone : MergesNulls keyed (leaf_of (Some keyed_bits) 4) (leaf_of (Some keyed_bits) 4) → ⊥
  pub other_levels : path_pairs (leaf_of (Some keyed_bits) 4) ≡ (0, 1) ∷ (0, 1) ∷ (0, 0) ∷ (0, 1) ∷ []
  pub nulls : MergesNulls (null_array t_null 2) (leaf_of None 2) (leaf_of (Some (false ∷ false ∷ [])) 2)
  pub no_mask : MergesNulls (null_array t_null 2) (leaf_of None 2) (leaf_of None 2) → ⊥
  pub values : MergesNulls five (leaf_of (Some five_bits) 5) (leaf_of (Some five_bits) 5)
  -- a required leaf stays as it is
  pub required : MergesNulls keyed (leaf_part false (Some keyed_bits) 4 ∷ []) (leaf_part false (Some present_bits) 4 ∷ []) → ⊥

pub record AreWorked : Type 0 where
  -- ---- paths
  pub flat : paths five (column optional) ≡ (leaf_part true (Some five_bits) 5 ∷ []) ∷ []
  pub list :
      paths lists (list_node optional (column required))
      ≡ (list_part true (Some (true ∷ false ∷ true ∷ [])) (0 ∷ 2 ∷ 2 ∷ 3 ∷ []) ∷ leaf_part false (Some five_bits) 5 ∷ []) ∷ []
  pub struct :
      paths structs (pair_node required)
      ≡ (struct_part false (Some (true ∷ false ∷ [])) 2 ∷ leaf_part false None 2 ∷ []) ∷ (struct_part false (Some (true ∷ false ∷ [])) 2 ∷ leaf_part false None 2 ∷ []) ∷ []
  -- lists with offsets of 64 bits, over lists with offsets of 32 bits
  pub kinds_of_lists : kinds lists ≡ (false ∷ false ∷ []) ∷ []
  pub kinds_of_large_lists : kinds (list_array (t_large_list (a_field t_null)) (0 ∷ 3 ∷ []) lists None) ≡ (true ∷ false ∷ false ∷ []) ∷ []
  pub kinds_of_structs : kinds structs ≡ (false ∷ false ∷ []) ∷ (false ∷ false ∷ []) ∷ []
  pub dictionary : array_leaves keyed ≡ keyed ∷ []
  -- ---- masks of required nodes are not looked at
  pub optional_leaf : slots (read_by five (column optional)) ≡ number_slot 1 ∷ null ∷ number_slot 3 ∷ number_slot 4 ∷ number_slot 5 ∷ []
  pub required_leaf : slots (read_by five (column required)) ≡ number_slot 1 ∷ number_slot 2 ∷ number_slot 3 ∷ number_slot 4 ∷ number_slot 5 ∷ []
  pub required_list : slots (read_by lists (list_node required (column required))) ≡ list_slot (1 ∷ 2 ∷ []) ∷ list_slot [] ∷ list_slot (3 ∷ []) ∷ []
  -- ---- what does not go together
  pub leaf_and_group : misfit five (pair_node required) ≡ differs
  pub list_and_leaf : misfit lists (column optional) ≡ differs
  pub list_and_required : misfit lists (over_one optional (over_one required (column optional))) ≡ differs
  pub repeated_leaf : misfit five (column repeated) ≡ differs
  pub fewer_fields : misfit structs (over_one required (column optional)) ≡ differs
  pub fixed_list : misfit pairs (column optional) ≡ Some (NotYetImplemented N5)
  -- the first of two
  pub fixed_list_first : misfit (struct_of (more_arrays pairs (more_arrays five no_arrays))) (over_two required (column optional) (pair_node required)) ≡ Some (NotYetImplemented N5)
  pub fields_first : misfit (struct_of (more_arrays pairs no_arrays)) (pair_node required) ≡ differs
  pub merged : AreMerged
