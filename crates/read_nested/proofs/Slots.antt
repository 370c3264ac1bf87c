-- Slots that go along each way of a field, and are of its kinds, are the field's.
use Rattle.std.proofs.Common.{◌≡◌, ℕ, zero, suc, ◌+◌, Bool, true, IsTrue, List, [], ◌∷◌, ◌++◌, map, refl, arith, ap, ◌∙◌, subst}
use Rattle.std.specs.List.{AllByRecursion as Each}
use Rattle.std.proofs.lemmas.List.Elements.{recursion_from_All, All-from_recursion}
use Rattle.shredding.specs.Along.{IsAlong, along, thin}
use Rattle.shredding.specs.Shape.{Way, at_leaf, in_list, in_struct, LeafType, Shape, leaf, list, struct, IsOf, AreOf, HasNoEmptyStruct, HaveNoEmptyStruct}
use Rattle.shredding.specs.Slot.{Slot, Slots, null, value, items, fields, no_slots, slot, slot_at, list_of}
use Rattle.shredding.proofs.Along.{list_of-slots_of}
use Rattle.columns_core.specs.Shapes.{base, leaf_type, type_shape, shapes_of}
use Rattle.columns_core.specs.Tree.{TypeTree, t_list, t_fixed_size_list, t_large_list, t_struct, t_map, t_dictionary, t_extension, field, FieldTrees, no_fields, more_fields}
use Rattle.columns_slots.specs.Loose.{loose, loose_all}
use Rattle.pq_headline.specs.Columns.{ArrowColumn, beneath_list, beneath_struct, has_no_parts, small_limit, large_limit, type_columns, columns_from}
use Rattle.read_nested.specs.Joined.{HasFlatEntries}
use Rattle.read_nested.proofs.Built.{some-columns, all-full}

-- along the column's way the slot goes, and entries of a dictionary have nothing inside them
pub record IsReached (s : Slot) (c : ArrowColumn) : Type 0 where
  pub goes : IsAlong (thin c.way) (along c.way s)
  pub plain : HasFlatEntries c.data_type

each-always : {A : Type 0} (P : A → Type 0) → ((x : A) → P x) → (xs : List A) → Each P xs
each-always P f [] = tt
each-always P f (x ∷ xs) = (f x, each-always P f xs)

pub each-both : {A : Type 0} (P Q R : A → Type 0) → ((x : A) → P x → Q x → R x) → (xs : List A) → Each P xs → Each Q xs → Each R xs
each-both P Q R f [] g h = tt
each-both P Q R f (x ∷ xs) g h = (f x g.0 h.0, each-both P Q R f xs g.1 h.1)

each-unmap : {A B : Type 0} (P : B → Type 0) (f : A → B) (xs : List A) → Each P (map f xs) → Each (λ x. P (f x)) xs
each-unmap P f [] h = tt
each-unmap P f (x ∷ xs) h = (h.0, each-unmap P f xs h.1)

each-front : {A : Type 0} (P : A → Type 0) (xs ys : List A) → Each P (xs ++ ys) → Each P xs
each-front P [] ys h = tt
each-front P (x ∷ xs) ys h = (h.0, each-front P xs ys h.1)

each-back : {A : Type 0} (P : A → Type 0) (xs ys : List A) → Each P (xs ++ ys) → Each P ys
each-back P [] ys h = h
each-back P (x ∷ xs) ys h = each-back P xs ys h.1

pub loose-same : (b d : Bool) (t : TypeTree) → loose (type_shape b t) ≡ loose (type_shape d t)
loose-same b d (t_dictionary k t s) = loose-same b d t
loose-same b d (t_extension n t m) = loose-same b d t
loose-same b d t = refl

-- ---- lists
list-goes : (b : Bool) (w : Way) (ss : Slots) → IsAlong (thin (in_list b w)) (along (in_list b w) (items ss)) → Each (λ s. IsAlong (thin w) (along w s)) (list_of ss)
unfolding along
list-goes b w ss h = each-unmap (IsAlong (thin w)) (along w) (list_of ss) (recursion_from_All (IsAlong (thin w)) _ (rw (list_of-slots_of (map (along w) (list_of ss))) at h))

list-down : (b : Bool) (l : ℕ) (cs : List ArrowColumn) (ss : Slots) → Each (IsReached (items ss)) (map (beneath_list b l) cs) → Each (λ s. Each (IsReached s) cs) (list_of ss)
list-down b l [] ss h = each-always _ (λ s. tt) (list_of ss)
list-down b l (c ∷ cs) ss h =
    each-both (λ s. IsAlong (thin c.way) (along c.way s)) (λ s. Each (IsReached s) cs) (λ s. IsReached s c × Each (IsReached s) cs) (λ s g r. (record { goes = g; plain = h.0.plain }, r)) (list_of ss) (list-goes b c.way ss h.0.goes) (list-down b l cs ss h.1)

list-null : (b : Bool) (l : ℕ) (cs : List ArrowColumn) → (cs ≡ [] → ⊥) → Each (IsReached null) (map (beneath_list b l) cs) → IsTrue b
unfolding along
list-null b l [] some h = absurd (some refl)
list-null b l (c ∷ cs) some h = h.0.goes

list-of : (b : Bool) (l : ℕ) (f : Shape) (cs : List ArrowColumn) (s : Slot) → (cs ≡ [] → ⊥) → ((s : Slot) → IsOf (loose f) s → Each (IsReached s) cs → IsOf f s) → IsOf (list true (loose f)) s → Each (IsReached s) (map (beneath_list b l) cs) → IsOf (list b f) s
list-of b l f cs null some go h r = list-null b l cs some r
list-of b l f cs (items ss) some go h r =
    All-from_recursion (IsOf f) (list_of ss) (each-both (IsOf (loose f)) (λ s. Each (IsReached s) cs) (IsOf f) go (list_of ss) (recursion_from_All (IsOf (loose f)) (list_of ss) h) (list-down b l cs ss r))
list-of b l f cs (value v) some go h r = absurd h
list-of b l f cs (fields ss) some go h r = absurd h

-- ---- structs
struct-goes : (b : Bool) (i : ℕ) (w : Way) (ss : Slots) → IsAlong (thin (in_struct b i w)) (along (in_struct b i w) (fields ss)) → IsAlong (thin w) (along w (slot_at ss i))
unfolding along
struct-goes b i w ss h = h

struct-down : (b : Bool) (i : ℕ) (cs : List ArrowColumn) (ss : Slots) → Each (IsReached (fields ss)) (map (beneath_struct b i) cs) → Each (IsReached (slot_at ss i)) cs
struct-down b i [] ss h = tt
struct-down b i (c ∷ cs) ss h = (record { goes = struct-goes b i c.way ss h.0.goes; plain = h.0.plain }, struct-down b i cs ss h.1)

struct-null : (b : Bool) (i : ℕ) (cs ds : List ArrowColumn) → (cs ≡ [] → ⊥) → Each (IsReached null) (map (beneath_struct b i) cs ++ ds) → IsTrue b
unfolding along
struct-null b i [] ds some h = absurd (some refl)
struct-null b i (c ∷ cs) ds some h = h.0.goes

-- ---- leaves
leaf-of : (b : Bool) (k : LeafType) (s : Slot) → IsOf (leaf true k) s → IsAlong (at_leaf b) (along (at_leaf b) s) → IsOf (leaf b k) s
unfolding along
leaf-of b k null h g = g
leaf-of b k (value v) h g = h
leaf-of b k (items ss) h g = absurd h
leaf-of b k (fields ss) h g = absurd h

-- the entries of a dictionary
entry-of : (b : Bool) (t : TypeTree) → has_no_parts (base t) ≡ true → (s : Slot) → IsOf (loose (type_shape b t)) s → IsAlong (at_leaf b) (along (at_leaf b) s) → IsOf (type_shape b t) s
entry-of b (t_extension n t m) e s h g = entry-of b t e s h g
entry-of b (t_list f) e s h g = absurd (cc e)
entry-of b (t_large_list f) e s h g = absurd (cc e)
entry-of b (t_fixed_size_list f n) e s h g = absurd (cc e)
entry-of b (t_map f k) e s h g = absurd (cc e)
entry-of b (t_struct fs) e s h g = absurd (cc e)
entry-of b (t_dictionary k t d) e s h g = absurd (cc e)
entry-of b t e s h g = leaf-of b (leaf_type t) s h g

zero-plus : (i : ℕ) → 0 + i ≡ i
zero-plus i = omega arith

struct-is-null : (fs : FieldTrees) (b : Bool) → HasNoEmptyStruct (struct b (shapes_of fs)) → Each (IsReached null) (columns_from b zero fs) → IsTrue b
struct-is-null no_fields b full r = absurd full
struct-is-null (more_fields (field n t c m) fs) b full r = struct-null b zero (type_columns c t) (columns_from b 1 fs) (some-columns c t full.0) r

mutual
  pub is-of : (b : Bool) (t : TypeTree) → HasNoEmptyStruct (type_shape b t) → (s : Slot) → IsOf (loose (type_shape b t)) s → Each (IsReached s) (type_columns b t) → IsOf (type_shape b t) s
  is-of b (t_list (field n t c m)) full s h r = list-of b small_limit (type_shape c t) (type_columns c t) s (some-columns c t full) (is-of c t full) h r
  is-of b (t_large_list (field n t c m)) full s h r = list-of b large_limit (type_shape c t) (type_columns c t) s (some-columns c t full) (is-of c t full) h r
  is-of b (t_fixed_size_list (field n t c m) k) full s h r = list-of b large_limit (type_shape c t) (type_columns c t) s (some-columns c t full) (is-of c t full) h r
  is-of b (t_map (field n t c m) k) full s h r = list-of b small_limit (type_shape c t) (type_columns c t) s (some-columns c t full) (is-of c t full) h r
  is-of b (t_struct fs) full null h r = struct-is-null fs b full r
  is-of b (t_struct fs) full (fields ss) h r = are-of fs b zero ss ss (all-full b fs full) h r (λ i. ap (slot_at ss) (zero-plus i))
  is-of b (t_struct fs) full (value v) h r = absurd h
  is-of b (t_struct fs) full (items ss) h r = absurd h
  is-of b (t_dictionary k t d) full s h r = entry-of b t r.0.plain s h r.0.goes
  is-of b (t_extension n t m) full s h r = is-of b t full s h r
  is-of b t full s h r = leaf-of b (leaf_type t) s h r.0.goes

  are-of : (fs : FieldTrees) (b : Bool) (place : ℕ) (whole ss : Slots) → HaveNoEmptyStruct (shapes_of fs) → AreOf (loose_all (shapes_of fs)) ss → Each (IsReached (fields whole)) (columns_from b place fs) → ((i : ℕ) → slot_at whole (place + i) ≡ slot_at ss i) → AreOf (shapes_of fs) ss
  are-of no_fields b place whole no_slots full h r same = tt
  are-of no_fields b place whole (slot s ss) full h r same = absurd h
  are-of (more_fields (field n t c m) fs) b place whole no_slots full h r same = absurd h
  are-of (more_fields (field n t c m) fs) b place whole (slot s ss) full h r same =
      let cs : List ArrowColumn = type_columns c t in
      let q : place ≡ place + 0 = omega arith in
      let here : slot_at whole place ≡ s = ap (slot_at whole) q ∙ same 0 in
      let P : Slot → Type 0 = λ u. Each (IsReached u) cs in
      let head = is-of c t full.0 s h.0 (subst P here (struct-down b place cs whole (each-front _ (map (beneath_struct b place) cs) _ r))) in
      let later : (i : ℕ) → slot_at whole (suc place + i) ≡ slot_at ss i = λ i. let p : suc place + i ≡ place + suc i = omega arith in ap (slot_at whole) p ∙ same (suc i) in
      (head, are-of fs b (suc place) whole ss full.1 h.1 (each-back _ (map (beneath_struct b place) cs) _ r) later)
