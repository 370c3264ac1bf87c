-- The slots of a sound array are slots of its type. Whether a field that is not nullable has a null is for its reader to judge, so each part counts as nullable.
use Rattle.std.proofs.Common.{◌≡◌, ℕ, zero, suc, ◌+◌, ◌*◌, ◌≤◌, ◌<◌, true≢false, Bool, true, false, cond, List, [], ◌∷◌, length, get_or, All, Option, Some, None, refl, ap, sym, subst, ◌∙◌, arith}
use Rattle.std.proofs.lemmas.Nat.{mul-le}
use Rattle.std.proofs.Math.Nat.{add-mul}
use Rattle.shredding.specs.Slot.{Value, truth, Slot, null, value, items, fields, list_of, slots_of}
use Rattle.shredding.specs.Parts.{keeps, slots_from}
use Rattle.shredding.specs.Shape.{Shape, leaf, list, struct, IsOf, AreOf, IsInRange}
use Rattle.columns_core.specs.Shapes.{leaf_type, base, type_shape, shapes_of}
use Rattle.columns_core.specs.Tree.{TypeTree, t_null, t_list, t_fixed_size_list, t_large_list, t_struct, t_map, t_dictionary, t_extension, field, FieldTrees, no_fields, more_fields}
use Rattle.columns_slots.specs.Tree.{Mask, ArrayTree, null_array, leaf_array, list_array, fixed_list_array, struct_array, dictionary_array, ArrayTrees, no_arrays, more_arrays}
use Rattle.columns_slots.specs.Types.{is_leaf, list_item, fixed_item, entry_type, part_types}
use Rattle.columns_slots.specs.Slots.{slot_at, slots_at, tree_len, first_len, first_of, count_of, leaf_at, entry_at, masked, type_of, AreTyped, IsSound, AreSound, IsPlaces, AreUpTo, slots, count_arrays}
use Rattle.columns_slots.specs.Loose.{loose, loose_all}

-- null is of every loose shape
null_of : (s : Shape) → IsOf (loose s) null
null_of (leaf n k) = refl
null_of (list n f) = refl
null_of (struct n fs) = refl

masked_of : (s : Shape) (m : Mask) (i : ℕ) (x : Slot) → (keeps m i ≡ true → IsOf (loose s) x) → IsOf (loose s) (masked m i x)
masked_of s m i x h = by (keeps m i) refl
  where
    by : (b : Bool) → keeps m i ≡ b → IsOf (loose s) (cond b x null)
    by true e = h e
    by false e = null_of s

loose_same : (b : Bool) (t : TypeTree) → loose (type_shape b t) ≡ loose (type_shape true t)
loose_same b (t_dictionary k t s) = loose_same b t
loose_same b (t_extension n t m) = loose_same b t
loose_same b t = refl

shape_base : (b : Bool) (t : TypeTree) → type_shape b (base t) ≡ type_shape b t
shape_base b (t_extension n t m) = shape_base b t
shape_base b t = refl

value_of : (t : TypeTree) (v : Value) → is_leaf t ≡ true → IsInRange (leaf_type t) v → IsOf (loose (type_shape true t)) (value v)
value_of (t_list f) v e h = absurd (true≢false (sym e))
value_of (t_fixed_size_list f k) v e h = absurd (true≢false (sym e))
value_of (t_large_list f) v e h = absurd (true≢false (sym e))
value_of (t_struct fs) v e h = absurd (true≢false (sym e))
value_of (t_map f k) v e h = absurd (true≢false (sym e))
value_of (t_dictionary k t s) v e h = absurd (true≢false (sym e))
value_of (t_extension n t m) v e h = absurd (true≢false (sym e))
value_of t v e h = h

abbrev some_or : Option TypeTree → TypeTree
some_or None = t_null
some_or (Some t) = t

never : {u : TypeTree} {A : Type 0} → None ≡ Some u → A
never e = cc

same_item : (b : Bool) (t u : TypeTree) → Some t ≡ Some u → loose (type_shape b t) ≡ loose (type_shape true u)
same_item b t u e = loose_same b t ∙ ap (λ x. loose (type_shape true (some_or x))) e

-- an item of a list is of the item's type
item_shape : (t u : TypeTree) → list_item t ≡ Some u → list true (loose (type_shape true u)) ≡ loose (type_shape true t)
item_shape (t_list (field n t b m)) u e = ap (list true) (sym (same_item b t u e))
item_shape (t_large_list (field n t b m)) u e = ap (list true) (sym (same_item b t u e))
item_shape (t_map (field n t b m) s) u e = ap (list true) (sym (same_item b t u e))
item_shape t u e = never e

fixed_shape : (t u : TypeTree) → fixed_item t ≡ Some u → list true (loose (type_shape true u)) ≡ loose (type_shape true t)
fixed_shape (t_fixed_size_list (field n t b m) k) u e = ap (list true) (sym (same_item b t u e))
fixed_shape t u e = never e

entry_shape : (t u : TypeTree) → entry_type t ≡ Some u → loose (type_shape true u) ≡ loose (type_shape true t)
entry_shape (t_dictionary k t s) u e = sym (same_item true t u e)
entry_shape t u e = never e

at_base : (t : TypeTree) (x : Slot) → IsOf (loose (type_shape true (base t))) x → IsOf (loose (type_shape true t)) x
at_base t x h = subst (λ s. IsOf (loose s) x) (shape_base true t) h

items_at : (s : Shape) (f : ℕ → Slot) (at n : ℕ) → ((i : ℕ) → i < at + n → IsOf s (f i)) → (k : ℕ) (d : Slot) → k < length (list_of (slots_of (slots_from f at n))) → IsOf s (get_or (list_of (slots_of (slots_from f at n))) k d)
unfolding slots_from
items_at s f at zero h k d l = absurd (omega (arith, l))
items_at s f at (suc n) h zero d l = h at (omega arith)
items_at s f at (suc n) h (suc k) d l = items_at s f (at + 1) n (λ i b. h i (omega (arith, b))) k d (omega (arith, l))

first_le : (o : ℕ) (os : List ℕ) (u : ℕ) → AreUpTo o os u → o ≤ u
first_le o [] u h = h
first_le o (p ∷ os) u h = omega (arith, h.0, first_le p os u h.1)

place_le : (o : ℕ) (os : List ℕ) (u i : ℕ) → AreUpTo o os u → get_or (o ∷ os) i 0 ≤ u
place_le o os u zero h = first_le o os u h
place_le o [] u (suc i) h = omega arith
place_le o (p ∷ os) u (suc i) h = place_le p os u i h.1

places_within : (os : List ℕ) (u i : ℕ) → IsPlaces os u → first_of os i + count_of os i ≤ u
places_within [] u i h = absurd h
places_within (o ∷ os) u i h = omega (arith, place_le o os u i h, place_le o os u (i + 1) h)

fixed_within : (i w n : ℕ) → i < n → i * w + w ≤ n * w
fixed_within i w n h = omega (arith, add-mul i 1 w, mul-le (i + 1) w n w (omega (arith, h)) (omega arith))

struct_of : (t : TypeTree) (cs : ArrayTrees) (i : ℕ) → AreTyped (part_types t) cs → 0 < count_arrays cs → AreOf (loose_all (shapes_of (part_types t))) (slots_at cs i)
    → IsOf (loose (type_shape true t)) (fields (slots_at cs i))
struct_of (t_struct fs) cs i h k o = o
struct_of t no_arrays i h k o = absurd (omega (arith, k))
struct_of t (more_arrays c cs) i h k o = absurd h

mutual
  of_type : (a : ArrayTree) (i : ℕ) → IsSound a → i < tree_len a → IsOf (loose (type_shape true (type_of a))) (slot_at a i)
  of_type (null_array t n) i s h = null_of (type_shape true t)
  of_type (leaf_array t vs m) i s h = masked_of (type_shape true t) m i _ (λ e. at_base t _ (value_of (base t) (leaf_at vs i) s.1 (s.2 i (truth false) h)))
  of_type (list_array t os c m) i s h =
      masked_of (type_shape true t) m i _
      (λ e. at_base t _
      (subst (λ r. IsOf r (items (slots_of (slots_from (slot_at c) (first_of os i) (count_of os i))))) (item_shape (base t) (type_of c) s.3)
      (items_at (loose (type_shape true (type_of c))) (slot_at c) (first_of os i) (count_of os i) (λ j b. of_type c j s.2 (omega (arith, b, places_within os (tree_len c) i s.0))))))
  of_type (fixed_list_array t w n c m) i s h =
      masked_of (type_shape true t) m i _
      (λ e. at_base t _
      (subst (λ r. IsOf r (items (slots_of (slots_from (slot_at c) (i * w) w)))) (fixed_shape (base t) (type_of c) s.3)
      (items_at (loose (type_shape true (type_of c))) (slot_at c) (i * w) w (λ j b. of_type c j s.2 (omega (arith, b, s.0, fixed_within i w n h))))))
  of_type (struct_array t cs m) i s h = masked_of (type_shape true t) m i _ (λ e. at_base t _ (struct_of (base t) cs i s.2 s.3 (of_parts (part_types (base t)) cs (first_len cs) i s.2 s.0 h)))
  of_type (dictionary_array t ks c m) i s h =
      masked_of (type_shape true t) m i _
      (λ e. at_base t _ (subst (λ r. IsOf r (slot_at c (entry_at ks i))) (entry_shape (base t) (type_of c) s.2) (of_type c (entry_at ks i) s.1 (s.3 i h e).1)))

  of_parts : (fs : FieldTrees) (cs : ArrayTrees) (n i : ℕ) → AreTyped fs cs → AreSound n cs → i < n → AreOf (loose_all (shapes_of fs)) (slots_at cs i)
  of_parts no_fields no_arrays n i h s l = tt
  of_parts no_fields (more_arrays c cs) n i h s l = absurd h
  of_parts (more_fields (field u t b m) fs) no_arrays n i h s l = absurd h
  of_parts (more_fields (field u t b m) fs) (more_arrays c cs) n i h s l = (
    subst (λ r. IsOf r (slot_at c i)) (ap (λ x. loose (type_shape true x)) (sym h.0) ∙ sym (loose_same b t)) (of_type c i s.0 (omega (arith, s.1, l))),
    of_parts fs cs n i h.1 s.2 l,
  )

table_at : (s : Shape) (f : ℕ → Slot) (at n : ℕ) → ((i : ℕ) → i < at + n → IsOf s (f i)) → (k : ℕ) (d : Slot) → k < length (slots_from f at n) → IsOf s (get_or (slots_from f at n) k d)
unfolding slots_from
table_at s f at zero h k d l = absurd (omega (arith, l))
table_at s f at (suc n) h zero d l = h at (omega arith)
table_at s f at (suc n) h (suc k) d l = table_at s f (at + 1) n (λ i b. h i (omega (arith, b))) k d (omega (arith, l))

pub slots_of_type : (a : ArrayTree) → IsSound a → All (IsOf (loose (type_shape true (type_of a)))) (slots a)
slots_of_type a s = λ k d l. table_at (loose (type_shape true (type_of a))) (slot_at a) 0 (tree_len a) (λ i b. of_type a i s (omega (arith, b))) k d l
