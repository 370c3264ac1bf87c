-- The slots of an array that is written by the tree of its type.
use Rattle.std.proofs.Common.{◌≡◌, ℕ, zero, suc, ◌+◌, ◌<◌, Bool, true, false, true≢false, cond, All, Option, None, Some, List, ◌∷◌, refl, sym, ap, subst, ◌∙◌, arith}
use Rattle.std.specs.List.{AllByRecursion as Each}
use Rattle.std.proofs.lemmas.List.Elements.{recursion_from_All}
use Rattle.shredding.proofs.Along.{list_of-slots_of}
use Rattle.shredding.specs.Parts.{keeps, slots_from}
use Rattle.shredding.specs.Shape.{Shape, IsOf, AreOf}
use Rattle.shredding.specs.Slot.{Slot, null, items, fields, Slots, slot, slots_of, list_of}
use Rattle.columns_core.specs.Shapes.{base, type_shape, shapes_of}
use Rattle.columns_core.specs.Tree.{TypeTree, t_list, t_fixed_size_list, t_large_list, t_struct, t_map, t_dictionary, t_extension, field, FieldTrees, no_fields, more_fields}
use Rattle.columns_slots.specs.Slots.{IsSound, AreSound, AreTyped, masked, first_of, count_of, slot_at, slots_at, slots, tree_len, first_len, count_arrays, type_of}
use Rattle.columns_slots.specs.Tree.{Mask, ArrayTree, null_array, leaf_array, list_array, fixed_list_array, struct_array, dictionary_array, ArrayTrees, no_arrays, more_arrays}
use Rattle.columns_slots.specs.Types.{list_item, part_types}
use Rattle.nested_paths.specs.Nodes.{given, is_optional, item_node, field_nodes}
use Rattle.nested_paths.specs.Seen.{read_by, read_all}
use Rattle.pq_tree.specs.Tree.{Tree, Trees, no_trees, tree}
use Rattle.schema_to_tree.specs.Table.{trees_of}
use Rattle.typed_arrays.proofs.Own.{ListParts, list_parts, struct_parts, optional_is}
use Rattle.typed_arrays.specs.Typed.{TypedSlotsAreRead, node}

-- ---- null is a slot of a field that may be null alone

null_of : (b : Bool) (t : TypeTree) → IsOf (type_shape b t) null → b ≡ true
null_of b (t_list f) h = h
null_of b (t_fixed_size_list f n) h = h
null_of b (t_large_list f) h = h
null_of b (t_map f s) h = h
null_of b (t_struct fs) h = h
null_of b (t_dictionary k t s) h = null_of b t h
null_of b (t_extension n t m) h = null_of b t h
null_of b t h = h

-- ---- masks

kept : (b k : Bool) (t : TypeTree) (s : Slot) → IsOf (type_shape b t) (cond k s null) → b ≡ false → k ≡ true
kept b true t s h e = refl
kept b false t s h e = absurd (true≢false (sym (null_of b t h) ∙ e))

-- a mask that is not looked at hides no slot of the field
looked : (o b : Bool) (t : TypeTree) (m : Mask) (i : ℕ) (s r : Slot) → o ≡ b → (keeps m i ≡ true → r ≡ s) → IsOf (type_shape b t) (masked m i s) → masked (cond o m None) i r ≡ masked m i s
looked true b t m i s r e same h = by (keeps m i) same
  where
    by : (k : Bool) → (k ≡ true → r ≡ s) → ◌≡◌ {A = Slot} (cond k r null) (cond k s null)
    by true f = f refl
    by false f = refl
looked false b t m i s r e same h =
    let k = kept b (keeps m i) t s h (sym e) in
    same k ∙ sym (ap (λ (x : Bool). cond x s null) k)

-- what is kept is a slot of the field
shown : (b : Bool) (t : TypeTree) (m : Mask) (i : ℕ) (s : Slot) → keeps m i ≡ true → IsOf (type_shape b t) (masked m i s) → IsOf (type_shape b t) s
shown b t m i s k h = subst (λ (x : Bool). IsOf (type_shape b t) (cond x s null)) k h

-- ---- tables

same_table : (P : Slot → Type 0) (f g : ℕ → Slot) (a n : ℕ) → ((i : ℕ) → P (f i) → g i ≡ f i) → Each P (slots_from f a n) → slots_from g a n ≡ slots_from f a n
unfolding slots_from
same_table P f g a zero e h = refl
same_table P f g a (suc n) e h = λ i. e a h.0 i ∷ same_table P f g (a + 1) n e h.1 i

-- ---- shapes of the parts

list_shape : (name : List ℕ) (b : Bool) (t u : TypeTree) (p : ListParts name b t u) → list_item (base t) ≡ Some u → (s : Slots) → IsOf (type_shape b t) (items s) → All (IsOf (type_shape p.is_nullable u)) (list_of s)
list_shape name b t u p e s h = subst (λ (x : Shape). IsOf x (items s)) p.shape h

struct_shape : (b : Bool) (t : TypeTree) (cs : ArrayTrees) → 0 < count_arrays cs → AreTyped (part_types (base t)) cs → (s : Slots) → IsOf (type_shape b t) (fields s) → AreOf (shapes_of (part_types (base t))) s
struct_shape b (t_extension n t m) cs some h s g = struct_shape b t cs some h s g
struct_shape b (t_struct fs) cs some h s g = g
struct_shape b t no_arrays some h s g = absurd (omega (arith, some))
struct_shape b t (more_arrays c cs) some h s g = absurd h

-- ---- as many as there were

of_given : (cs : ArrayTrees) (o : Option Trees) → ((ns : Trees) → first_len (read_all cs ns) ≡ first_len cs) → first_len (given cs (read_all cs) o) ≡ first_len cs
of_given cs None h = refl
of_given cs (Some ns) h = h ns

mutual
  pub read_len : (a : ArrayTree) (t : Tree) → tree_len (read_by a t) ≡ tree_len a
  read_len (null_array t n) x = refl
  read_len (leaf_array t vs m) x = refl
  read_len (list_array t os c m) x = refl
  read_len (fixed_list_array t w n c m) x = refl
  read_len (struct_array t cs m) x = of_given cs (field_nodes x) (λ ns. read_first cs ns)
  read_len (dictionary_array t ks c m) x = refl

  read_first : (cs : ArrayTrees) (ts : Trees) → first_len (read_all cs ts) ≡ first_len cs
  read_first no_arrays ts = refl
  read_first (more_arrays c cs) no_trees = refl
  read_first (more_arrays c cs) (tree x xs) = read_len c x

-- ---- slot by slot

mutual
  read_at : (a : ArrayTree) (name : List ℕ) (b : Bool) → IsSound a → (i : ℕ) → IsOf (type_shape b (type_of a)) (slot_at a i) → slot_at (read_by a (node name b (type_of a))) i ≡ slot_at a i
  read_at (null_array t n) name b s i h = refl
  read_at (fixed_list_array t w n c m) name b s i h = refl
  read_at (leaf_array t vs m) name b s i h = looked (is_optional (node name b t)) b t m i _ _ (optional_is name b t) (λ k. refl) h
  read_at (dictionary_array t ks c m) name b s i h = looked (is_optional (node name b t)) b t m i _ _ (optional_is name b t) (λ k. refl) h
  read_at (list_array t os c m) name b s i h =
      let p = list_parts name b t (type_of c) s.3 in
      let own = slots_from (slot_at c) (first_of os i) (count_of os i) in
      let P : Slot → Type 0 = IsOf (type_shape p.is_nullable (type_of c)) in
      let same : keeps m i ≡ true → items (slots_of (slots_from (slot_at (given c (read_by c) (item_node (node name b t)))) (first_of os i) (count_of os i))) ≡ items (slots_of own) = λ k.
      let all = list_shape name b t (type_of c) p s.3 (slots_of own) (shown b t m i (items (slots_of own)) k h) in
      let each = recursion_from_All P own (subst (λ (xs : List Slot). All P xs) (list_of-slots_of own) all) in
      ap (λ (x : ArrayTree). items (slots_of (slots_from (slot_at x) (first_of os i) (count_of os i)))) (ap (given c (read_by c)) p.item)
      ∙ ap (λ (xs : List Slot). items (slots_of xs)) (same_table P (slot_at c) (slot_at (read_by c (node p.item_name p.is_nullable (type_of c)))) (first_of os i) (count_of os i) (λ j q. read_at c p.item_name p.is_nullable s.2 j q) each) in
      looked (is_optional (node name b t)) b t m i _ _ (optional_is name b t) same h
  read_at (struct_array t cs m) name b s i h =
      let p = struct_parts name b t cs s.3 s.2 in
      let same : keeps m i ≡ true → fields (slots_at (given cs (read_all cs) (field_nodes (node name b t))) i) ≡ fields (slots_at cs i) = λ k.
      let all = struct_shape b t cs s.3 s.2 (slots_at cs i) (shown b t m i (fields (slots_at cs i)) k h) in
      ap (λ (x : ArrayTrees). fields (slots_at x i)) (ap (given cs (read_all cs)) p.nodes)
      ∙ ap fields (read_each cs (part_types (base t)) (first_len cs) s.0 s.2 i all) in
      looked (is_optional (node name b t)) b t m i _ _ (optional_is name b t) same h

  read_each : (cs : ArrayTrees) (fs : FieldTrees) (n : ℕ) → AreSound n cs → AreTyped fs cs → (i : ℕ) → AreOf (shapes_of fs) (slots_at cs i) → slots_at (read_all cs (trees_of fs)) i ≡ slots_at cs i
  read_each no_arrays no_fields n s h i all = refl
  read_each (more_arrays c cs) (more_fields (field name t b md) fs) n s h i all =
      let first = read_at c name b s.0 i (subst (λ (x : TypeTree). IsOf (type_shape b x) (slot_at c i)) h.0 all.0) in
      let back = subst (λ (x : TypeTree). slot_at (read_by c (node name b x)) i ≡ slot_at c i) (sym h.0) first in
      λ j. slot (back j) (read_each cs fs n s.2 h.1 i all.1 j)
  read_each no_arrays (more_fields (field x t y z) fs) n s h i all = absurd h
  read_each (more_arrays c cs) no_fields n s h i all = absurd h

pub read : TypedSlotsAreRead
read a name b s h =
    ap (λ (n : ℕ). slots_from (slot_at (read_by a (node name b (type_of a)))) 0 n) (read_len a (node name b (type_of a)))
    ∙ same_table (IsOf (type_shape b (type_of a))) (slot_at a) (slot_at (read_by a (node name b (type_of a)))) 0 (tree_len a) (λ i q. read_at a name b s i q) (recursion_from_All (IsOf (type_shape b (type_of a))) (slots a) h)
