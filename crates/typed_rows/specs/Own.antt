-- Slots that are a field's own: none is null where the field or a part of it is required (Dremel paper, section 3, "Data model").
use Rattle.std.specs.Prelude.{◌≡◌, ℕ, ◌+◌, ◌<◌, ◌≤◌, Bool, true, false}
use Rattle.shredding.specs.Parts.{keeps}
use Rattle.shredding.specs.Shape.{AreOf, IsOf}
use Rattle.columns_core.specs.Shapes.{shapes_of, type_shape}
use Rattle.columns_core.specs.Tree.{FieldTrees, TypeTree, field, t_fixed_size_list, t_large_list, t_list, t_map}
use Rattle.columns_slots.specs.Slots.{AreTyped, first_len, mask_of, slot_at, slots_at, type_of}
use Rattle.columns_slots.specs.Tree.{ArrayTree, ArrayTrees, leaf_array}

-- so many slots from a position on are slots of a field of the array's type, which may be null or not
abbrev pub AreOwn : Bool → ArrayTree → ℕ → ℕ → Type 0
AreOwn b a from n = (i : ℕ) → from ≤ i → i < from + n → IsOf (type_shape b (type_of a)) (slot_at a i)

-- so many rows are rows of the fields
abbrev pub AreRows : FieldTrees → ArrayTrees → ℕ → ℕ → Type 0
AreRows fs cs from n = (i : ℕ) → from ≤ i → i < from + n → AreOf (shapes_of fs) (slots_at cs i)

-- the arrays have the types of the fields, and all their rows are rows of the fields
pub record AreRowsOf (fs : FieldTrees) (cs : ArrayTrees) : Type 0 where
  pub typed : AreTyped fs cs
  pub rows : AreRows fs cs 0 (first_len cs)

-- ---- on the way

-- the array's own mask keeps so many positions
abbrev pub AreKept : ArrayTree → ℕ → ℕ → Type 0
AreKept a from n = (i : ℕ) → from ≤ i → i < from + n → keeps (mask_of a) i ≡ true

-- whether the items of lists of the type may be null
abbrev pub item_nullable : TypeTree → Bool
item_nullable (t_list (field n t b m)) = b
item_nullable (t_large_list (field n t b m)) = b
item_nullable (t_fixed_size_list (field n t b m) k) = b
item_nullable (t_map (field n t b m) s) = b
item_nullable t = true

-- the array has a value at each position
abbrev pub is_leaf_tree : ArrayTree → Bool
is_leaf_tree (leaf_array t vs m) = true
is_leaf_tree a = false
