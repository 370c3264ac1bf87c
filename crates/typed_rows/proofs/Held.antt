-- What the positions of each kind of array hold, where its own mask keeps them.
use Rattle.std.proofs.Common.{◌≡◌, ◌↔◌, inl, inr, ℕ, zero, suc, ◌+◌, ◌-◌, ◌*◌, ◌≤◌, ◌<◌, true≢false, Bool, IsTrue, true, false, List, [], ◌∷◌, length, get_or, All, Option, Some, None, refl, ap, sym, subst, ◌∙◌, arith}
use Rattle.std.specs.Prelude.{ℤ}
use Rattle.std.proofs.lemmas.Bool.{cases_lt}
use Rattle.std.proofs.lemmas.Nat.{mul-le}
use Rattle.std.proofs.Math.Nat.{add-mul}
use Rattle.shredding.specs.Parts.{keeps, slots_from}
use Rattle.shredding.specs.Shape.{Shape, list, struct, IsInRange, IsOf}
use Rattle.shredding.specs.Slot.{Slot, Value, fields, items, list_of, null, slots_of, truth, value}
use Rattle.columns_core.specs.Shapes.{base, leaf_type, shapes_of, type_shape}
use Rattle.columns_core.specs.Tree.{TypeTree, field, t_dictionary, t_extension, t_fixed_size_list, t_large_list, t_list, t_map, t_null, t_struct, FieldTrees}
use Rattle.columns_slots.specs.Slots.{AreLong, AreSound, AreTyped, AreUpTo, IsPlaces, IsSound, child_of, children_of, count_arrays, count_of, entry_at, first_len, first_of, leaf_at, masked, mask_of, offsets_of, slot_at, slots_at, tree_len, tree_size, trees_size, type_of}
use Rattle.columns_slots.specs.Tree.{ArrayTree, ArrayTrees, Mask, dictionary_array, fixed_list_array, leaf_array, list_array, more_arrays, no_arrays, null_array, struct_array}
use Rattle.columns_slots.specs.Types.{entry_type, fixed_item, fixed_size, is_leaf, list_item, part_types}
use Rattle.typed_rows.specs.Own.{AreKept, AreOwn, AreRows, is_leaf_tree, item_nullable}

-- ---- shapes

pub shape_base : (b : Bool) (t : TypeTree) → type_shape b (base t) ≡ type_shape b t
shape_base b (t_extension n t m) = shape_base b t
shape_base b t = refl

at_base : (b : Bool) (t : TypeTree) (x : Slot) → IsOf (type_shape b (base t)) x → IsOf (type_shape b t) x
at_base b t x h = subst (λ (s : Shape). IsOf s x) (shape_base b t) h

from_base : (b : Bool) (t : TypeTree) (x : Slot) → IsOf (type_shape b t) x → IsOf (type_shape b (base t)) x
from_base b t x h = subst (λ (s : Shape). IsOf s x) (sym (shape_base b t)) h

pub null_own : (b : Bool) (t : TypeTree) → IsOf (type_shape b t) null ↔ IsTrue b
null_own b (t_dictionary k t s) = null_own b t
null_own b (t_extension n t m) = null_own b t
null_own b t = (λ h. h, λ h. h)

abbrev some_or : Option TypeTree → TypeTree
some_or None = t_null
some_or (Some t) = t

never : {u : TypeTree} {A : Type 0} → None ≡ Some u → A
never e = cc

same_item : (b : Bool) (t u : TypeTree) → Some t ≡ Some u → type_shape b t ≡ type_shape b u
same_item b t u e = ap (λ x. type_shape b (some_or x)) e

item_shape : (b : Bool) (t u : TypeTree) → list_item t ≡ Some u → list b (type_shape (item_nullable t) u) ≡ type_shape b t
item_shape b (t_list (field n t c m)) u e = ap (list b) (sym (same_item c t u e))
item_shape b (t_large_list (field n t c m)) u e = ap (list b) (sym (same_item c t u e))
item_shape b (t_map (field n t c m) s) u e = ap (list b) (sym (same_item c t u e))
item_shape b t u e = never e

fixed_shape : (b : Bool) (t u : TypeTree) → fixed_item t ≡ Some u → list b (type_shape (item_nullable t) u) ≡ type_shape b t
fixed_shape b (t_fixed_size_list (field n t c m) k) u e = ap (list b) (sym (same_item c t u e))
fixed_shape b t u e = never e

entry_shape : (b : Bool) (t u : TypeTree) → entry_type t ≡ Some u → type_shape b u ≡ type_shape b t
entry_shape b (t_dictionary k t s) u e = sym (same_item b t u e)
entry_shape b t u e = never e

struct_shape : (b : Bool) (t : TypeTree) (cs : ArrayTrees) → AreTyped (part_types t) cs → 0 < count_arrays cs → struct b (shapes_of (part_types t)) ≡ type_shape b t
struct_shape b (t_struct fs) cs h k = refl
struct_shape b t no_arrays h k = absurd (omega (arith, k))
struct_shape b t (more_arrays c cs) h k = absurd h

value_own : (b : Bool) (t : TypeTree) (v : Value) → is_leaf t ≡ true → IsInRange (leaf_type t) v → IsOf (type_shape b t) (value v)
value_own b (t_list f) v e h = absurd (true≢false (sym e))
value_own b (t_fixed_size_list f k) v e h = absurd (true≢false (sym e))
value_own b (t_large_list f) v e h = absurd (true≢false (sym e))
value_own b (t_struct fs) v e h = absurd (true≢false (sym e))
value_own b (t_map f k) v e h = absurd (true≢false (sym e))
value_own b (t_dictionary k t s) v e h = absurd (true≢false (sym e))
value_own b (t_extension n t m) v e h = absurd (true≢false (sym e))
value_own b t v e h = h

-- ---- masks

shown : (s : Shape) (m : Mask) (i : ℕ) (x : Slot) → keeps m i ≡ true → IsOf s x ↔ IsOf s (masked m i x)
shown s m i x e = rw e (λ h. h, λ h. h)

pub hidden : (a : ArrayTree) (i : ℕ) → keeps (mask_of a) i ≡ false → slot_at a i ≡ null
hidden (null_array t n) i k = refl
hidden (leaf_array t vs m) i k = rw k refl
hidden (list_array t os c m) i k = rw k refl
hidden (fixed_list_array t w n c m) i k = rw k refl
hidden (struct_array t cs m) i k = rw k refl
hidden (dictionary_array t ks c m) i k = rw k refl

-- ---- items, position by position

items_from : (s : Shape) (f : ℕ → Slot) (at n : ℕ) → ((j : ℕ) → at ≤ j → j < at + n → IsOf s (f j)) → (k : ℕ) (d : Slot) → k < length (list_of (slots_of (slots_from f at n))) → IsOf s (get_or (list_of (slots_of (slots_from f at n))) k d)
unfolding slots_from
items_from s f at zero h k d l = absurd (omega (arith, l))
items_from s f at (suc n) h zero d l = h at (omega arith) (omega arith)
items_from s f at (suc n) h (suc k) d l = items_from s f (at + 1) n (λ j a b. h j (omega (arith, a)) (omega (arith, b))) k d (omega (arith, l))

items_back : (s : Shape) (f : ℕ → Slot) (at n : ℕ) → All (IsOf s) (list_of (slots_of (slots_from f at n))) → (j : ℕ) → at ≤ j → j < at + n → IsOf s (f j)
unfolding slots_from
items_back s f at zero h j a b = absurd (omega (arith, a, b))
items_back s f at (suc n) h j a b =
    elim (cases_lt at j) [
      | inl l ↦ items_back s f (at + 1) n (λ k d lt. h (suc k) d (omega (arith, lt))) j (omega (arith, l)) (omega (arith, b))
      | inr l ↦
          let e : at ≡ j = omega (arith, l, a) in
          subst (λ (k : ℕ). IsOf s (f k)) e (h 0 null (omega arith))
    ]

-- what holds between each place and the next holds between the first and the last
join : (Q : ℕ → Type 0) (f : ℕ → ℕ) (n : ℕ) → ((k : ℕ) → k < n → (j : ℕ) → f k ≤ j → j < f (suc k) → Q j) → (j : ℕ) → f 0 ≤ j → j < f n → Q j
join Q f zero h j a b = absurd (omega (arith, a, b))
join Q f (suc n) h j a b =
    elim (cases_lt j (f n)) [
      | inl l ↦ join Q f n (λ k lt. h k (omega (arith, lt))) j a l
      | inr l ↦ h n (omega arith) j l b
    ]

-- ---- lists

up_to : (o : ℕ) (os : List ℕ) (u i : ℕ) → AreUpTo o os u → i < suc (length os) → o ≤ get_or (o ∷ os) i 0
up_to o os u zero h l = omega arith
up_to o [] u (suc i) h l = absurd (omega (arith, l))
up_to o (p ∷ os) u (suc i) h l = omega (arith, h.0, up_to p os u i h.1 (omega (arith, l)))

rising : (o : ℕ) (os : List ℕ) (u i j : ℕ) → AreUpTo o os u → i ≤ j → j < suc (length os) → get_or (o ∷ os) i 0 ≤ get_or (o ∷ os) j 0
rising o os u zero j h a b = up_to o os u j h b
rising o os u (suc i) zero h a b = absurd (omega (arith, a))
rising o [] u (suc i) (suc j) h a b = absurd (omega (arith, b))
rising o (p ∷ os) u (suc i) (suc j) h a b = rising p os u i j h.1 (omega (arith, a)) (omega (arith, b))

pub places_rise : (os : List ℕ) (u i j : ℕ) → IsPlaces os u → i ≤ j → j < length os → first_of os i ≤ first_of os j
places_rise [] u i j h a b = absurd h
places_rise (o ∷ os) u i j h a b = rising o os u i j h a (omega (arith, b))

last_le : (o : ℕ) (os : List ℕ) (u : ℕ) → AreUpTo o os u → o ≤ u
last_le o [] u h = h
last_le o (p ∷ os) u h = omega (arith, h.0, last_le p os u h.1)

place_le : (o : ℕ) (os : List ℕ) (u i : ℕ) → AreUpTo o os u → get_or (o ∷ os) i 0 ≤ u
place_le o os u zero h = last_le o os u h
place_le o [] u (suc i) h = omega arith
place_le o (p ∷ os) u (suc i) h = place_le p os u i h.1

pub places_within : (os : List ℕ) (u i : ℕ) → IsPlaces os u → first_of os i ≤ u
places_within [] u i h = absurd h
places_within (o ∷ os) u i h = place_le o os u i h

module _ (t : TypeTree) (os : List ℕ) (c : ArrayTree) (m : Mask) (from n : ℕ) (sound : IsSound (list_array t os c m)) (within : from + n ≤ length os - 1) (kept : AreKept (list_array t os c m) from n) (b : Bool) where
  list_given : AreOwn (item_nullable (base t)) c (first_of os from) (first_of os (from + n) - first_of os from) → AreOwn b (list_array t os c m) from n
  list_given h i l r =
      let s = type_shape (item_nullable (base t)) (type_of c) in
      let some : 0 < length os = omega (arith, within, l, r) in
      let lo : first_of os from ≤ first_of os i = places_rise os (tree_len c) from i sound.0 l (omega (arith, within, r)) in
      let mid : first_of os i ≤ first_of os (i + 1) = places_rise os (tree_len c) i (i + 1) sound.0 (omega arith) (omega (arith, within, r)) in
      let hi : first_of os (i + 1) ≤ first_of os (from + n) = places_rise os (tree_len c) (i + 1) (from + n) sound.0 (omega (arith, r)) (omega (arith, within, some)) in
      let is : IsOf (list b s) (items (slots_of (slots_from (slot_at c) (first_of os i) (count_of os i)))) = items_from s (slot_at c) (first_of os i) (count_of os i) (λ j x y. h j (omega (arith, x, lo)) (omega (arith, y, mid, hi, lo))) in
      (shown (type_shape b t) m i (items (slots_of (slots_from (slot_at c) (first_of os i) (count_of os i)))) (kept i l r)).0
      (at_base b t _ (subst (λ (x : Shape). IsOf x (items (slots_of (slots_from (slot_at c) (first_of os i) (count_of os i))))) (item_shape b (base t) (type_of c) sound.3) is))

  list_taken : AreOwn b (list_array t os c m) from n → AreOwn (item_nullable (base t)) c (first_of os from) (first_of os (from + n) - first_of os from)
  list_taken h j l r =
      let s = type_shape (item_nullable (base t)) (type_of c) in
      let z : from + 0 ≡ from = omega arith in
      join (λ (k : ℕ). IsOf s (slot_at c k)) (λ (k : ℕ). first_of os (from + k)) n
      (λ k lt x a d.
      let i : ℕ = from + k in
      let e : from + suc k ≡ from + k + 1 = omega arith in
      let next = subst (λ (p : ℕ). x < first_of os p) e d in
      let is = from_base b t _ ((shown (type_shape b t) m (from + k) (items (slots_of (slots_from (slot_at c) (first_of os (from + k)) (count_of os (from + k))))) (kept (from + k) (omega arith) (omega (arith, lt)))).1 (h (from + k) (omega arith) (omega (arith, lt)))) in
      items_back s (slot_at c) (first_of os (from + k)) (count_of os (from + k)) (subst (λ (y : Shape). IsOf y (items (slots_of (slots_from (slot_at c) (first_of os (from + k)) (count_of os (from + k)))))) (sym (item_shape b (base t) (type_of c) sound.3)) is) x a (omega (arith, a, next)))
      j (rw z l) (omega (arith, l, r))

  pub list_own : AreOwn (item_nullable (base t)) c (first_of os from) (first_of os (from + n) - first_of os from) ↔ AreOwn b (list_array t os c m) from n
  list_own = (list_given, list_taken)

-- ---- lists of a fixed size

fixed_end : (w from n i : ℕ) → i < from + n → i * w + w ≤ from * w + n * w
fixed_end w from n i l = omega (arith, add-mul i 1 w, add-mul from n w, mul-le (i + 1) w (from + n) w (omega (arith, l)) (omega arith))

fixed_start : (w from i : ℕ) → from ≤ i → from * w ≤ i * w
fixed_start w from i l = mul-le from w i w l (omega arith)

pub fixed_fits : (w from n k : ℕ) → from + n ≤ k → from * w + n * w ≤ k * w
fixed_fits w from n k l = omega (arith, add-mul from n w, mul-le (from + n) w k w l (omega arith))

module _ (t : TypeTree) (w k : ℕ) (c : ArrayTree) (m : Mask) (from n : ℕ) (sound : IsSound (fixed_list_array t w k c m)) (within : from + n ≤ k) (kept : AreKept (fixed_list_array t w k c m) from n) (b : Bool) where
  fixed_given : AreOwn (item_nullable (base t)) c (from * w) (n * w) → AreOwn b (fixed_list_array t w k c m) from n
  fixed_given h i l r =
      let s = type_shape (item_nullable (base t)) (type_of c) in
      let is : IsOf (list b s) (items (slots_of (slots_from (slot_at c) (i * w) w))) = items_from s (slot_at c) (i * w) w (λ j x y. h j (omega (arith, x, fixed_start w from i l)) (omega (arith, y, fixed_end w from n i r))) in
      (shown (type_shape b t) m i (items (slots_of (slots_from (slot_at c) (i * w) w))) (kept i l r)).0
      (at_base b t _ (subst (λ (x : Shape). IsOf x (items (slots_of (slots_from (slot_at c) (i * w) w)))) (fixed_shape b (base t) (type_of c) sound.3) is))

  fixed_taken : AreOwn b (fixed_list_array t w k c m) from n → AreOwn (item_nullable (base t)) c (from * w) (n * w)
  fixed_taken h j l r =
      let s = type_shape (item_nullable (base t)) (type_of c) in
      let z : from + 0 ≡ from = omega arith in
      join (λ (q : ℕ). IsOf s (slot_at c q)) (λ (q : ℕ). (from + q) * w) n
      (λ q lt x a d.
      let e : (from + suc q) * w ≡ (from + q) * w + w = omega (arith, add-mul (from + q) 1 w) in
      let is = from_base b t _ ((shown (type_shape b t) m (from + q) (items (slots_of (slots_from (slot_at c) ((from + q) * w) w))) (kept (from + q) (omega arith) (omega (arith, lt)))).1 (h (from + q) (omega arith) (omega (arith, lt)))) in
      items_back s (slot_at c) ((from + q) * w) w (subst (λ (y : Shape). IsOf y (items (slots_of (slots_from (slot_at c) ((from + q) * w) w)))) (sym (fixed_shape b (base t) (type_of c) sound.3)) is) x a (omega (arith, e, d)))
      j (rw z l) (omega (arith, r, add-mul from n w))

  pub fixed_own : AreOwn (item_nullable (base t)) c (from * w) (n * w) ↔ AreOwn b (fixed_list_array t w k c m) from n
  fixed_own = (fixed_given, fixed_taken)

-- ---- structs

module _ (t : TypeTree) (cs : ArrayTrees) (m : Mask) (from n : ℕ) (sound : IsSound (struct_array t cs m)) (kept : AreKept (struct_array t cs m) from n) (b : Bool) where
  struct_given : AreRows (part_types (base t)) cs from n → AreOwn b (struct_array t cs m) from n
  struct_given h i l r = (shown (type_shape b t) m i (fields (slots_at cs i)) (kept i l r)).0 (at_base b t _ (subst (λ (x : Shape). IsOf x (fields (slots_at cs i))) (struct_shape b (base t) cs sound.2 sound.3) (h i l r)))

  struct_taken : AreOwn b (struct_array t cs m) from n → AreRows (part_types (base t)) cs from n
  struct_taken h i l r = subst (λ (x : Shape). IsOf x (fields (slots_at cs i))) (sym (struct_shape b (base t) cs sound.2 sound.3)) (from_base b t _ ((shown (type_shape b t) m i (fields (slots_at cs i)) (kept i l r)).1 (h i l r)))

  pub struct_own : AreRows (part_types (base t)) cs from n ↔ AreOwn b (struct_array t cs m) from n
  struct_own = (struct_given, struct_taken)

pub are_long : (k n : ℕ) (cs : ArrayTrees) → AreSound k cs → n ≤ k → AreLong n cs
are_long k n no_arrays s l = tt
are_long k n (more_arrays c cs) s l = (omega (arith, s.1, l), are_long k n cs s.2 l)

-- ---- values

leaf_own : (t : TypeTree) (vs : List Value) (m : Mask) (from n : ℕ) (b : Bool) → IsSound (leaf_array t vs m) → from + n ≤ length vs → AreKept (leaf_array t vs m) from n → AreOwn b (leaf_array t vs m) from n
leaf_own t vs m from n b sound within kept i l r = (shown (type_shape b t) m i (value (leaf_at vs i)) (kept i l r)).0 (at_base b t _ (value_own b (base t) (leaf_at vs i) sound.1 (sound.2 i (truth false) (omega (arith, within, r)))))

pub values_own : (a : ArrayTree) (from n : ℕ) → is_leaf_tree a ≡ true → IsSound a → from + n ≤ tree_len a → AreKept a from n → (b : Bool) → AreOwn b a from n
values_own (leaf_array t vs m) from n e s w k b = leaf_own t vs m from n b s w k
values_own (null_array t c) from n e s w k b = absurd (true≢false (sym e))
values_own (list_array t os c m) from n e s w k b = absurd (true≢false (sym e))
values_own (fixed_list_array t q p c m) from n e s w k b = absurd (true≢false (sym e))
values_own (struct_array t cs m) from n e s w k b = absurd (true≢false (sym e))
values_own (dictionary_array t ks c m) from n e s w k b = absurd (true≢false (sym e))

-- ---- entries

module _ (t : TypeTree) (ks : List ℤ) (c : ArrayTree) (m : Mask) (sound : IsSound (dictionary_array t ks c m)) (b : Bool) (i : ℕ) (kept : keeps m i ≡ true) where
  pub entry_own : AreOwn b c (entry_at ks i) 1 → IsOf (type_shape b t) (slot_at (dictionary_array t ks c m) i)
  entry_own h = (shown (type_shape b t) m i (slot_at c (entry_at ks i)) kept).0 (at_base b t _ (subst (λ (x : Shape). IsOf x (slot_at c (entry_at ks i))) (entry_shape b (base t) (type_of c) sound.2) (h (entry_at ks i) (omega arith) (omega arith))))

  pub own_entry : IsOf (type_shape b t) (slot_at (dictionary_array t ks c m) i) → AreOwn b c (entry_at ks i) 1
  own_entry h j l r =
      let e : entry_at ks i ≡ j = omega (arith, l, r) in
      subst (λ (k : ℕ). IsOf (type_shape b (type_of c)) (slot_at c k)) e
      (subst (λ (x : Shape). IsOf x (slot_at c (entry_at ks i))) (sym (entry_shape b (base t) (type_of c) sound.2)) (from_base b t _ ((shown (type_shape b t) m i (slot_at c (entry_at ks i)) kept).1 h)))

-- ---- as the code has them

last_place : (os : List ℕ) (u k : ℕ) → IsPlaces os u → k ≤ length os - 1 → k < length os
last_place [] u k h l = absurd h
last_place (o ∷ os) u k h l = omega (arith, l)

pub list_ordered : (a : ArrayTree) (from n first end : ℕ) → IsSound a → a ≡ list_array (type_of a) (offsets_of a) (child_of a) (mask_of a) → from + n ≤ tree_len a → first ≡ first_of (offsets_of a) from → end ≡ first_of (offsets_of a) (from + n) → first ≤ end
list_ordered (list_array t os c m) from n first end s e w f g = omega (arith, f, g, places_rise os (tree_len c) from (from + n) s.0 (omega arith) (last_place os (tree_len c) (from + n) s.0 w))
list_ordered (null_array t k) from n first end s e w f g = absurd cc
list_ordered (leaf_array t vs m) from n first end s e w f g = absurd cc
list_ordered (fixed_list_array t q p c m) from n first end s e w f g = absurd cc
list_ordered (struct_array t cs m) from n first end s e w f g = absurd cc
list_ordered (dictionary_array t ks c m) from n first end s e w f g = absurd cc

abbrev pub Held : ArrayTree → ℕ → ℕ → ArrayTree → Bool → ℕ → ℕ → Type 0
Held a from n child nullable first count = (first + count ≤ tree_len child) × (tree_size child < tree_size a) × ((b : Bool) → AreOwn nullable child first count ↔ AreOwn b a from n)

held_list : (t : TypeTree) (os : List ℕ) (c : ArrayTree) (m : Mask) (from n : ℕ) → IsSound (list_array t os c m) → from + n ≤ length os - 1 → AreKept (list_array t os c m) from n → Held (list_array t os c m) from n c (item_nullable (base t)) (first_of os from) (first_of os (from + n) - first_of os from)
held_list t os c m from n s w k =
    let rise = places_rise os (tree_len c) from (from + n) s.0 (omega arith) (last_place os (tree_len c) (from + n) s.0 w) in
    (omega (arith, places_within os (tree_len c) (from + n) s.0, rise), omega arith, λ b. list_own t os c m from n s w k b)

pub list_inner : (a : ArrayTree) (from n first end : ℕ) (child : ArrayTree) (nullable : Bool) → IsSound a → a ≡ list_array (type_of a) (offsets_of a) (child_of a) (mask_of a) → from + n ≤ tree_len a → AreKept a from n
    → child ≡ child_of a → nullable ≡ item_nullable (base (type_of a)) → first ≡ first_of (offsets_of a) from → end ≡ first_of (offsets_of a) (from + n) → Held a from n child nullable first (end - first)
list_inner (list_array t os c m) from n first end child nullable s e w k d p f g = rw (d, p, f, g) (held_list t os c m from n s w k)
list_inner (null_array t q) from n first end child nullable s e w k d p f g = absurd cc
list_inner (leaf_array t vs m) from n first end child nullable s e w k d p f g = absurd cc
list_inner (fixed_list_array t q r c m) from n first end child nullable s e w k d p f g = absurd cc
list_inner (struct_array t cs m) from n first end child nullable s e w k d p f g = absurd cc
list_inner (dictionary_array t ks c m) from n first end child nullable s e w k d p f g = absurd cc

held_fixed : (t : TypeTree) (q r : ℕ) (c : ArrayTree) (m : Mask) (from n : ℕ) → IsSound (fixed_list_array t q r c m) → from + n ≤ r → AreKept (fixed_list_array t q r c m) from n → Held (fixed_list_array t q r c m) from n c (item_nullable (base t)) (from * q) (n * q)
held_fixed t q r c m from n s w k = (omega (arith, s.0, fixed_fits q from n r w), omega arith, λ b. fixed_own t q r c m from n s w k b)

pub fixed_inner : (a : ArrayTree) (from n width : ℕ) (child : ArrayTree) (nullable : Bool) → IsSound a → a ≡ fixed_list_array (type_of a) (fixed_size (base (type_of a))) (tree_len a) (child_of a) (mask_of a) → from + n ≤ tree_len a → AreKept a from n
    → child ≡ child_of a → nullable ≡ item_nullable (base (type_of a)) → width ≡ fixed_size (base (type_of a)) → Held a from n child nullable (from * width) (n * width)
fixed_inner (fixed_list_array t q r c m) from n width child nullable s e w k d p f =
    let same : width ≡ q = f ∙ s.4 in
    rw (d, p, same) (held_fixed t q r c m from n s w k)
fixed_inner (list_array t os c m) from n width child nullable s e w k d p f = absurd cc
fixed_inner (null_array t q) from n width child nullable s e w k d p f = absurd cc
fixed_inner (leaf_array t vs m) from n width child nullable s e w k d p f = absurd cc
fixed_inner (struct_array t cs m) from n width child nullable s e w k d p f = absurd cc
fixed_inner (dictionary_array t ks c m) from n width child nullable s e w k d p f = absurd cc

abbrev pub HeldFields : ArrayTree → ℕ → ℕ → FieldTrees → ArrayTrees → Type 0
HeldFields a from n fs cs = AreTyped fs cs × AreLong (from + n) cs × (trees_size cs < tree_size a) × ((b : Bool) → AreRows fs cs from n ↔ AreOwn b a from n)

held_struct : (t : TypeTree) (cs : ArrayTrees) (m : Mask) (from n : ℕ) → IsSound (struct_array t cs m) → from + n ≤ first_len cs → AreKept (struct_array t cs m) from n → HeldFields (struct_array t cs m) from n (part_types (base t)) cs
held_struct t cs m from n s w k = (s.2, are_long (first_len cs) (from + n) cs s.0 w, omega arith, λ b. struct_own t cs m from n s k b)

pub struct_inner : (a : ArrayTree) (from n : ℕ) (fs : FieldTrees) (cs : ArrayTrees) → IsSound a → a ≡ struct_array (type_of a) (children_of a) (mask_of a) → from + n ≤ tree_len a → AreKept a from n
    → fs ≡ part_types (base (type_of a)) → cs ≡ children_of a → HeldFields a from n fs cs
struct_inner (struct_array t ds m) from n fs cs s e w k p q = rw (p, q) (held_struct t ds m from n s w k)
struct_inner (fixed_list_array t q r c m) from n fs cs s e w k p z = absurd cc
struct_inner (list_array t os c m) from n fs cs s e w k p z = absurd cc
struct_inner (null_array t q) from n fs cs s e w k p z = absurd cc
struct_inner (leaf_array t vs m) from n fs cs s e w k p z = absurd cc
struct_inner (dictionary_array t ks c m) from n fs cs s e w k p z = absurd cc
