-- The slots that an array stands for, which arrays are sound, and what a cut leaves (Arrow columnar format, "Physical Memory Layout").
use Rattle.std.specs.Prelude.{◌≡◌, ℕ, ℤ, pos, ◌+◌, ◌-◌, ◌*◌, ◌≤◌, ◌<◌, List, [], ◌∷◌, length, take, drop, slice_index_or, Bool, true, false, cond, Some, None, option_map, All, count_by, not}
use Rattle.shredding.specs.Slot.{Value, truth, Slot, null, value, items, fields, Slots, no_slots, slot, slots_of}
use Rattle.shredding.specs.Shape.{IsInRange}
use Rattle.shredding.specs.Parts.{keeps, slots_from, MaskFits}
use Rattle.columns_core.specs.Shapes.{leaf_type, base}
use Rattle.columns_core.specs.Rising.{whole, IsWhole}
use Rattle.columns_core.specs.Tree.{TypeTree, field, FieldTrees, no_fields, more_fields}
use Rattle.columns_slots.specs.Tree.{Mask, ArrayTree, null_array, leaf_array, list_array, fixed_list_array, struct_array, dictionary_array, ArrayTrees, no_arrays, more_arrays}
use Rattle.columns_slots.specs.Types.{is_null_type, is_leaf, list_item, fixed_item, fixed_size, entry_type, part_types}

abbrev pub masked : Mask → ℕ → Slot → Slot
masked m i s = cond (keeps m i) s null

-- the place of the first item of position i among all items, and the number of its items
abbrev pub first_of : List ℕ → ℕ → ℕ
first_of os i = slice_index_or os i 0

abbrev pub count_of : List ℕ → ℕ → ℕ
count_of os i = slice_index_or os (i + 1) 0 - slice_index_or os i 0

-- the value at a position, and false past the end
abbrev pub leaf_at : List Value → ℕ → Value
leaf_at vs i = slice_index_or vs i (truth false)

-- the entry that the key at a position numbers
abbrev pub entry_at : List ℤ → ℕ → ℕ
entry_at ks i = whole (slice_index_or ks i (pos 0))

-- The slot at a position. What lies beneath a null is not looked at. A key of a null entry is a null slot.
abbrev mutual
  pub slot_at : ArrayTree → ℕ → Slot
  slot_at (null_array t n) i = null
  slot_at (leaf_array t vs m) i = masked m i (value (leaf_at vs i))
  slot_at (list_array t os c m) i = masked m i (items (slots_of (slots_from (slot_at c) (first_of os i) (count_of os i))))
  slot_at (fixed_list_array t w n c m) i = masked m i (items (slots_of (slots_from (slot_at c) (i * w) w)))
  slot_at (struct_array t cs m) i = masked m i (fields (slots_at cs i))
  slot_at (dictionary_array t ks c m) i = masked m i (slot_at c (entry_at ks i))

  pub slots_at : ArrayTrees → ℕ → Slots
  slots_at no_arrays i = no_slots
  slots_at (more_arrays c cs) i = slot (slot_at c i) (slots_at cs i)

-- the number of positions
abbrev mutual
  pub tree_len : ArrayTree → ℕ
  tree_len (null_array t n) = n
  tree_len (leaf_array t vs m) = length vs
  tree_len (list_array t os c m) = length os - 1
  tree_len (fixed_list_array t w n c m) = n
  tree_len (struct_array t cs m) = first_len cs
  tree_len (dictionary_array t ks c m) = length ks

  -- the length of the first array
  pub first_len : ArrayTrees → ℕ
  first_len no_arrays = 0
  first_len (more_arrays c cs) = tree_len c

-- an array stands for these
abbrev pub slots : ArrayTree → List Slot
slots a = slots_from (slot_at a) 0 (tree_len a)

abbrev pub type_of : ArrayTree → TypeTree
type_of (null_array t n) = t
type_of (leaf_array t vs m) = t
type_of (list_array t os c m) = t
type_of (fixed_list_array t w n c m) = t
type_of (struct_array t cs m) = t
type_of (dictionary_array t ks c m) = t

-- The mask that the array has. A null array has none, and all its slots are null. That of a dictionary is its keys' mask.
abbrev pub mask_of : ArrayTree → Mask
mask_of (null_array t n) = None
mask_of (leaf_array t vs m) = m
mask_of (list_array t os c m) = m
mask_of (fixed_list_array t w n c m) = m
mask_of (struct_array t cs m) = m
mask_of (dictionary_array t ks c m) = m

-- ---- soundness

abbrev pub AreUpTo : ℕ → List ℕ → ℕ → Type 0
AreUpTo o [] n = o ≤ n
AreUpTo o (p ∷ os) n = (o ≤ p) × AreUpTo p os n

-- offsets, at least one, that never fall and end at n or before
abbrev pub IsPlaces : List ℕ → ℕ → Type 0
IsPlaces [] n = ⊥
IsPlaces (o ∷ os) n = AreUpTo o os n

-- each key that is not null numbers one of n entries
abbrev pub AreKeys : Mask → List ℤ → ℕ → Type 0
AreKeys m ks n = (i : ℕ) → i < length ks → keeps m i ≡ true → IsWhole (slice_index_or ks i (pos 0)) × (entry_at ks i < n)

abbrev pub count_arrays : ArrayTrees → ℕ
count_arrays no_arrays = 0
count_arrays (more_arrays c cs) = count_arrays cs + 1

-- the arrays have the types of the fields, in order
abbrev pub AreTyped : FieldTrees → ArrayTrees → Type 0
AreTyped no_fields no_arrays = Unit {0}
AreTyped (more_fields (field n t b m) fs) (more_arrays c cs) = (t ≡ type_of c) × AreTyped fs cs
AreTyped _ _ = ⊥

-- What holds of every array. Values are in the range of the type, those beneath a null too. The items may be more than the last offset
-- says. A list of fixed size has its items and no others.
abbrev mutual
  pub IsSound : ArrayTree → Type 0
  IsSound (null_array t n) = is_null_type (base t) ≡ true
  IsSound (leaf_array t vs m) = MaskFits m (length vs) × (is_leaf (base t) ≡ true) × All (IsInRange (leaf_type (base t))) vs
  IsSound (list_array t os c m) = IsPlaces os (tree_len c) × MaskFits m (length os - 1) × IsSound c × (list_item (base t) ≡ Some (type_of c))
  IsSound (fixed_list_array t w n c m) =
      (tree_len c ≡ n * w) × MaskFits m n × IsSound c × (fixed_item (base t) ≡ Some (type_of c)) × (fixed_size (base t) ≡ w) × (0 < w)
  IsSound (struct_array t cs m) = AreSound (first_len cs) cs × MaskFits m (first_len cs) × AreTyped (part_types (base t)) cs × (0 < count_arrays cs)
  IsSound (dictionary_array t ks c m) = MaskFits m (length ks) × IsSound c × (entry_type (base t) ≡ Some (type_of c)) × AreKeys m ks (tree_len c)

  -- each sound and of n positions
  pub AreSound : ℕ → ArrayTrees → Type 0
  AreSound n no_arrays = Unit {0}
  AreSound n (more_arrays c cs) = IsSound c × (tree_len c ≡ n) × AreSound n cs

-- ---- cuts: n positions from position o on

abbrev pub cut_mask : Mask → ℕ → ℕ → Mask
cut_mask m o n = option_map (λ bits. take n (drop o bits)) m

-- the array of these positions. Of a list the offsets are cut and not the items, of a dictionary the keys and not the entries
abbrev mutual
  pub cut : ArrayTree → ℕ → ℕ → ArrayTree
  cut (null_array t k) o n = null_array t n
  cut (leaf_array t vs m) o n = leaf_array t (take n (drop o vs)) (cut_mask m o n)
  cut (list_array t os c m) o n = list_array t (take (n + 1) (drop o os)) c (cut_mask m o n)
  cut (fixed_list_array t w k c m) o n = fixed_list_array t w n (cut c (o * w) (n * w)) (cut_mask m o n)
  cut (struct_array t cs m) o n = struct_array t (cut_all cs o n) (cut_mask m o n)
  cut (dictionary_array t ks c m) o n = dictionary_array t (take n (drop o ks)) c (cut_mask m o n)

  pub cut_all : ArrayTrees → ℕ → ℕ → ArrayTrees
  cut_all no_arrays o n = no_arrays
  cut_all (more_arrays c cs) o n = more_arrays (cut c o n) (cut_all cs o n)

-- a size that falls from an array to those in it
abbrev mutual
  pub tree_size : ArrayTree → ℕ
  tree_size (null_array t n) = 1
  tree_size (leaf_array t vs m) = 1
  tree_size (list_array t os c m) = tree_size c + 1
  tree_size (fixed_list_array t w n c m) = tree_size c + 1
  tree_size (struct_array t cs m) = trees_size cs + 1
  tree_size (dictionary_array t ks c m) = tree_size c + 1

  pub trees_size : ArrayTrees → ℕ
  trees_size no_arrays = 0
  trees_size (more_arrays c cs) = tree_size c + trees_size cs

-- each of at least n positions
abbrev pub AreLong : ℕ → ArrayTrees → Type 0
AreLong n no_arrays = Unit {0}
AreLong n (more_arrays c cs) = (n ≤ tree_len c) × AreLong n cs

-- a mask, if any, of at least n bits
abbrev pub IsMaskOver : ℕ → Mask → Type 0
IsMaskOver n None = Unit {0}
IsMaskOver n (Some bits) = n ≤ length bits

-- ---- parts

abbrev pub offsets_of : ArrayTree → List ℕ
offsets_of (list_array t os c m) = os
offsets_of a = []

abbrev pub keys_in : ArrayTree → List ℤ
keys_in (dictionary_array t ks c m) = ks
keys_in a = []

-- the items or entries
abbrev pub child_of : ArrayTree → ArrayTree
child_of (list_array t os c m) = c
child_of (fixed_list_array t w n c m) = c
child_of (dictionary_array t ks c m) = c
child_of a = a

abbrev pub children_of : ArrayTree → ArrayTrees
children_of (struct_array t cs m) = cs
children_of a = no_arrays

-- whether a slot is null
abbrev pub is_null : Slot → Bool
is_null null = true
is_null s = false

-- the unset bits of a mask, of which there are none without a mask
abbrev pub nulls_in : Mask → ℕ
nulls_in None = 0
nulls_in (Some bits) = count_by not bits

-- the arrays whose null slots are those of their mask: all but null arrays and dictionaries, whose entries may be null
abbrev pub is_masked : ArrayTree → Bool
is_masked (null_array t n) = false
is_masked (dictionary_array t ks c m) = false
is_masked a = true

-- the number of null slots
abbrev pub null_slots : ArrayTree → ℕ
null_slots a = count_by is_null (slots a)
