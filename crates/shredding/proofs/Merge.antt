-- Slots along the ways of a field that agree are those of one slot of the field.
use Rattle.std.proofs.Common.{◌≡◌, ℕ, zero, suc, Bool, List, [], ◌∷◌, ◌++◌, refl, subst, sym, ap, ap₂, ◌∙◌}
use Rattle.std.specs.List.{AllByRecursion as Each}
use Rattle.std.proofs.lemmas.List.Elements.{recursion_from_All, All-from_recursion}
use Rattle.shredding.specs.Along.{IsAlong}
use Rattle.shredding.specs.Share.{IsWayOf, IsWayIn, IsShapedAs, AreShapedAs}
use Rattle.shredding.specs.Slot.{Slot, null, value, items, fields, Slots, no_slots, slot, list_of, slots_of, slot_at}
use Rattle.shredding.specs.Shape.{Shape, leaf, list, struct, Shapes, no_shapes, shape, HasNoEmptyStruct, HaveNoEmptyStruct, Way, at_leaf, in_list, in_struct}
use Rattle.shredding.specs.Shred.{up, shred}
use Rattle.shredding.proofs.Agree.{Agree, AgreeAll}
use Rattle.shredding.proofs.Along.{list_of-slots_of}
use Rattle.shredding.proofs.Unique.{rows_along, children_free}

-- the two slots have the same triples along the way
abbrev pub Like : Way → Slot → Slot → Type 0
Like w s t = (r d k : ℕ) → shred w s r d k ≡ shred w t r d k

abbrev pub LikeAll : Way → List Slot → List Slot → Type 0
LikeAll w [] [] = Unit {0}
LikeAll w (s ∷ ss) (t ∷ ts) = Like w s t × LikeAll w ss ts
LikeAll w _ _ = ⊥

pub like_rows : (w : Way) (ss ts : List Slot) → LikeAll w ss ts → (r d k : ℕ) → rows_along r d k w ss ≡ rows_along r d k w ts
like_rows w [] [] h r d k = refl
like_rows w [] (t ∷ ts) h r d k = absurd h
like_rows w (s ∷ ss) [] h r d k = absurd h
like_rows w (s ∷ ss) (t ∷ ts) h r d k = ap₂ (λ xs ys. xs ++ ys) (h.0 r d k) (like_rows w ss ts h.1 r d k)

like_items : (n : Bool) (w : Way) (us : List Slot) (ts : Slots) → LikeAll w us (list_of ts) → Like (in_list n w) (items (slots_of us)) (items ts)
unfolding shred
like_items n w [] no_slots h r d k = refl
like_items n w [] (slot t ts) h r d k = absurd h
like_items n w (u ∷ us) no_slots h r d k = absurd h
like_items n w (u ∷ us) (slot t ts) h r d k =
    ap₂ (λ xs ys. xs ++ ys) (h.0 r (suc (up n d)) (suc k))
    (ap (rows_along (suc k) (suc (up n d)) (suc k) w) (list_of-slots_of us) ∙ like_rows w us (list_of ts) h.1 (suc k) (suc (up n d)) (suc k))

-- some way of the field
mutual
  pub some_way : (f : Shape) → HasNoEmptyStruct f → (w : Way) × IsWayOf f w
  some_way (leaf n k) h = (at_leaf n, refl)
  some_way (list n f) h = let one = some_way f h in (in_list n one.0, (refl, one.1))
  some_way (struct n fs) h = let one = some_way_in n fs h in (in_struct n one.0.0 one.0.1, (refl, one.1))

  some_way_in : (n : Bool) (fs : Shapes) → HasNoEmptyStruct (struct n fs) → (p : ℕ × Way) × IsWayIn fs p.0 p.1
  some_way_in n no_shapes h = absurd h
  some_way_in n (shape f fs) h = let one = some_way f h.0 in ((zero, one.0), one.1)

abbrev pub Merges : Shape → Type 0
Merges f =
    (S : Way → Slot) → ((w : Way) → IsWayOf f w → IsAlong w (S w)) → ((w v : Way) → IsWayOf f w → IsWayOf f v → Agree w v (S w) (S v)) → (s : Slot) × IsShapedAs f s × ((w : Way) → IsWayOf f w → Like w s (S w))

abbrev pub MergesAll : Shapes → Type 0
MergesAll fs =
    (S : ℕ → Way → Slot) → ((i : ℕ) (w : Way) → IsWayIn fs i w → IsAlong w (S i w)) → ((i : ℕ) (w v : Way) → IsWayIn fs i w → IsWayIn fs i v → Agree w v (S i w) (S i v)) → (ss : Slots) × AreShapedAs fs ss × ((i : ℕ) (w : Way) → IsWayIn fs i w → Like w (slot_at ss i) (S i w))

-- Lists.

head_of : List Slot → Slot
head_of [] = null
head_of (s ∷ ss) = s

tail_of : List Slot → List Slot
tail_of [] = []
tail_of (s ∷ ss) = ss

ends : (P : Slot → Type 0) (R : Slot → Slot → Type 0) (x : Slot) (xs ys : List Slot) → AgreeAll R (x ∷ xs) ys → Each P ys → P (head_of ys) × Each P (tail_of ys)
unfolding head_of tail_of
ends P R x xs [] a h = absurd a
ends P R x xs (y ∷ ys) a h = h

ends_agree : (Q R : Slot → Slot → Type 0) (x : Slot) (xs ys zs : List Slot) → AgreeAll Q (x ∷ xs) ys → AgreeAll R ys zs → R (head_of ys) (head_of zs) × AgreeAll R (tail_of ys) (tail_of zs)
unfolding head_of tail_of
ends_agree Q R x xs [] zs a h = absurd a
ends_agree Q R x xs (y ∷ ys) [] a h = absurd h
ends_agree Q R x xs (y ∷ ys) (z ∷ zs) a h = h

ends_like : (R : Slot → Slot → Type 0) (w : Way) (x u : Slot) (xs us ys : List Slot) → AgreeAll R (x ∷ xs) ys → Like w u (head_of ys) → LikeAll w us (tail_of ys) → LikeAll w (u ∷ us) ys
unfolding head_of tail_of
ends_like R w x u xs us [] a p q = absurd a
ends_like R w x u xs us (y ∷ ys) a p q = (p, q)

like_none : (R : Slot → Slot → Type 0) (w : Way) (ys : List Slot) → AgreeAll R [] ys → LikeAll w [] ys
like_none R w [] a = tt
like_none R w (y ∷ ys) a = absurd a

abbrev MergesRows : Shape → Type 0
MergesRows f =
    (L : Way → List Slot) → ((w : Way) → IsWayOf f w → Each (IsAlong w) (L w)) → ((w v : Way) → IsWayOf f w → IsWayOf f v → AgreeAll (Agree w v) (L w) (L v)) → (us : List Slot) × Each (IsShapedAs f) us × ((w : Way) → IsWayOf f w → LikeAll w us (L w))

pub merge_rows : (f : Shape) → Merges f → (w0 : Way) → IsWayOf f w0 → (xs : List Slot) (L : Way → List Slot) → xs ≡ L w0 → ((w : Way) → IsWayOf f w → Each (IsAlong w) (L w)) → ((w v : Way) → IsWayOf f w → IsWayOf f v → AgreeAll (Agree w v) (L w) (L v)) → (us : List Slot) × Each (IsShapedAs f) us × ((w : Way) → IsWayOf f w → LikeAll w us (L w))
unfolding tail_of
merge_rows f m w0 h0 [] L e p q = ([], tt, λ w h. like_none (Agree w0 w) w (L w) (subst (λ ys. AgreeAll (Agree w0 w) ys (L w)) (sym e) (q w0 w h0 h)))
merge_rows f m w0 h0 (x ∷ xs) L e p q =
    let full : (w : Way) → IsWayOf f w → AgreeAll (Agree w0 w) (x ∷ xs) (L w) = λ w h. subst (λ ys. AgreeAll (Agree w0 w) ys (L w)) (sym e) (q w0 w h0 h) in
    let first =
    m (λ w. head_of (L w)) (λ w h. (ends (IsAlong w) (Agree w0 w) x xs (L w) (full w h) (p w h)).0)
    (λ w v h g. (ends_agree (Agree w0 w) (Agree w v) x xs (L w) (L v) (full w h) (q w v h g)).0) in
    let rest =
    merge_rows f m w0 h0 xs (λ w. tail_of (L w)) (ap tail_of e) (λ w h. (ends (IsAlong w) (Agree w0 w) x xs (L w) (full w h) (p w h)).1)
    (λ w v h g. (ends_agree (Agree w0 w) (Agree w v) x xs (L w) (L v) (full w h) (q w v h g)).1) in
    (first.0 ∷ rest.0, (first.1, rest.1), λ w h. ends_like (Agree w0 w) w x first.0 xs rest.0 (L w) (full w h) (first.2 w h) (rest.2 w h))

items_of : Slot → List Slot
items_of null = []
items_of (value v) = []
items_of (items ss) = list_of ss
items_of (fields ss) = []

items_along : (n : Bool) (w : Way) (s : Slot) → IsAlong (in_list n w) s → Each (IsAlong w) (items_of s)
unfolding items_of
items_along n w null h = tt
items_along n w (items ss) h = recursion_from_All (IsAlong w) (list_of ss) h
items_along n w (value v) h = absurd h
items_along n w (fields ss) h = absurd h

items_agree : (n m : Bool) (w v : Way) (s t : Slot) → Agree (in_list n w) (in_list m v) s t → AgreeAll (Agree w v) (items_of s) (items_of t)
unfolding items_of
items_agree n m w v null null h = tt
items_agree n m w v (items ss) (items ts) h = h
items_agree n m w v null (value x) h = absurd h
items_agree n m w v null (items ts) h = absurd h
items_agree n m w v null (fields ts) h = absurd h
items_agree n m w v (value x) t h = absurd h
items_agree n m w v (fields ss) t h = absurd h
items_agree n m w v (items ss) null h = absurd h
items_agree n m w v (items ss) (value x) h = absurd h
items_agree n m w v (items ss) (fields ts) h = absurd h

like_null_list : (n m : Bool) (w0 w : Way) (t : Slot) → Agree (in_list n w0) (in_list m w) null t → Like (in_list m w) null t
like_null_list n m w0 w null h r d k = refl
like_null_list n m w0 w (value x) h r d k = absurd h
like_null_list n m w0 w (items ts) h r d k = absurd h
like_null_list n m w0 w (fields ts) h r d k = absurd h

like_list : (n m : Bool) (w0 w : Way) (ss : Slots) (us : List Slot) (t : Slot) → Agree (in_list n w0) (in_list m w) (items ss) t → LikeAll w us (items_of t) → Like (in_list m w) (items (slots_of us)) t
unfolding items_of
like_list n m w0 w ss us (items ts) h g = like_items m w us ts g
like_list n m w0 w ss us null h g = absurd h
like_list n m w0 w ss us (value x) h g = absurd h
like_list n m w0 w ss us (fields ts) h g = absurd h

-- what holds at each way of the items holds at each way of the list
pub list_ways : (n : Bool) (f : Shape) (P : Way → Type 0) → ((w : Way) → IsWayOf f w → P (in_list n w)) → (w : Way) → IsWayOf (list n f) w → P w
list_ways n f P g (in_list m w) h = subst (λ b. P (in_list b w)) (sym h.0) (g w h.1)
list_ways n f P g (at_leaf m) h = absurd h
list_ways n f P g (in_struct m i w) h = absurd h

pub struct_ways : (n : Bool) (fs : Shapes) (P : Way → Type 0) → ((i : ℕ) (w : Way) → IsWayIn fs i w → P (in_struct n i w)) → (w : Way) → IsWayOf (struct n fs) w → P w
struct_ways n fs P g (in_struct m i w) h = subst (λ b. P (in_struct b i w)) (sym h.0) (g i w h.1)
struct_ways n fs P g (at_leaf m) h = absurd h
struct_ways n fs P g (in_list m w) h = absurd h

merge_list : (n : Bool) (f : Shape) → Merges f → (w0 : Way) → IsWayOf f w0 → (s0 : Slot) (S : Way → Slot) → s0 ≡ S (in_list n w0) → ((w : Way) → IsWayOf (list n f) w → IsAlong w (S w)) → ((w v : Way) → IsWayOf (list n f) w → IsWayOf (list n f) v → Agree w v (S w) (S v)) → (s : Slot) × IsShapedAs (list n f) s × ((w : Way) → IsWayOf (list n f) w → Like w s (S w))
merge_list n f m w0 h0 null S e p q = (
  null,
  subst (IsAlong (in_list n w0)) (sym e) (p (in_list n w0) (refl, h0)),
  list_ways n f (λ w. Like w null (S w)) (λ w h. like_null_list n n w0 w (S (in_list n w)) (subst (λ s. Agree (in_list n w0) (in_list n w) s (S (in_list n w))) (sym e) (q (in_list n w0) (in_list n w) (refl, h0) (refl, h)))),
)
merge_list n f m w0 h0 (items ss) S e p q =
    let rows =
    merge_rows f m w0 h0 (items_of (S (in_list n w0))) (λ w. items_of (S (in_list n w))) refl (λ w h. items_along n w (S (in_list n w)) (p (in_list n w) (refl, h)))
    (λ w v h g. items_agree n n w v (S (in_list n w)) (S (in_list n v)) (q (in_list n w) (in_list n v) (refl, h) (refl, g))) in (
      items (slots_of rows.0),
      All-from_recursion (IsShapedAs f) (list_of (slots_of rows.0)) (subst (Each (IsShapedAs f)) (sym (list_of-slots_of rows.0)) rows.1),
      list_ways n f (λ w. Like w (items (slots_of rows.0)) (S w))
          (λ w h.
          like_list n n w0 w ss rows.0 (S (in_list n w)) (subst (λ s. Agree (in_list n w0) (in_list n w) s (S (in_list n w))) (sym e) (q (in_list n w0) (in_list n w) (refl, h0) (refl, h))) (rows.2 w h)),
    )
merge_list n f m w0 h0 (value v) S e p q = absurd (subst (IsAlong (in_list n w0)) (sym e) (p (in_list n w0) (refl, h0)))
merge_list n f m w0 h0 (fields ss) S e p q = absurd (subst (IsAlong (in_list n w0)) (sym e) (p (in_list n w0) (refl, h0)))

-- Structs.

fields_of : Slot → Slots
fields_of null = no_slots
fields_of (value v) = no_slots
fields_of (items ss) = no_slots
fields_of (fields ss) = ss

child_along : (n m : Bool) (i j : ℕ) (w0 w : Way) (ss : Slots) (t : Slot) → Agree (in_struct n i w0) (in_struct m j w) (fields ss) t → IsAlong (in_struct m j w) t → IsAlong w (slot_at (fields_of t) j)
unfolding fields_of
child_along n m i j w0 w ss (fields ts) a h = h
child_along n m i j w0 w ss null a h = absurd a
child_along n m i j w0 w ss (value x) a h = absurd a
child_along n m i j w0 w ss (items ts) a h = absurd a

child_agree : (n : Bool) (i j : ℕ) (w0 w v : Way) (ss : Slots) (s t : Slot) → Agree (in_struct n i w0) (in_struct n j w) (fields ss) s → Agree (in_struct n j w) (in_struct n j v) s t → Agree w v (slot_at (fields_of s) j) (slot_at (fields_of t) j)
unfolding fields_of
child_agree n i j w0 w v ss (fields us) (fields ts) a h = h refl
child_agree n i j w0 w v ss (fields us) null a h = absurd h
child_agree n i j w0 w v ss (fields us) (value x) a h = absurd h
child_agree n i j w0 w v ss (fields us) (items ts) a h = absurd h
child_agree n i j w0 w v ss null t a h = absurd a
child_agree n i j w0 w v ss (value x) t a h = absurd a
child_agree n i j w0 w v ss (items us) t a h = absurd a

child_like : (n : Bool) (i j : ℕ) (w0 w : Way) (ss us : Slots) (t : Slot) → Agree (in_struct n i w0) (in_struct n j w) (fields ss) t → Like w (slot_at us j) (slot_at (fields_of t) j) → Like (in_struct n j w) (fields us) t
unfolding fields_of shred
child_like n i j w0 w ss us (fields ts) a h r d k = h r (up n d) k
child_like n i j w0 w ss us null a h r d k = absurd a
child_like n i j w0 w ss us (value x) a h r d k = absurd a
child_like n i j w0 w ss us (items ts) a h r d k = absurd a

like_null_struct : (n : Bool) (i j : ℕ) (w0 w : Way) (t : Slot) → Agree (in_struct n i w0) (in_struct n j w) null t → Like (in_struct n j w) null t
like_null_struct n i j w0 w null h r d k = refl
like_null_struct n i j w0 w (value x) h r d k = absurd h
like_null_struct n i j w0 w (items ts) h r d k = absurd h
like_null_struct n i j w0 w (fields ts) h r d k = absurd h

merge_struct : (n : Bool) (fs : Shapes) → MergesAll fs → (i0 : ℕ) (w0 : Way) → IsWayIn fs i0 w0 → (s0 : Slot) (S : Way → Slot) → s0 ≡ S (in_struct n i0 w0) → ((w : Way) → IsWayOf (struct n fs) w → IsAlong w (S w)) → ((w v : Way) → IsWayOf (struct n fs) w → IsWayOf (struct n fs) v → Agree w v (S w) (S v)) → (s : Slot) × IsShapedAs (struct n fs) s × ((w : Way) → IsWayOf (struct n fs) w → Like w s (S w))
merge_struct n fs m i0 w0 h0 null S e p q = (
  null,
  subst (IsAlong (in_struct n i0 w0)) (sym e) (p (in_struct n i0 w0) (refl, h0)),
  struct_ways n fs (λ w. Like w null (S w))
      (λ i w h. like_null_struct n i0 i w0 w (S (in_struct n i w)) (subst (λ s. Agree (in_struct n i0 w0) (in_struct n i w) s (S (in_struct n i w))) (sym e) (q (in_struct n i0 w0) (in_struct n i w) (refl, h0) (refl, h)))),
)
merge_struct n fs m i0 w0 h0 (fields ss) S e p q =
    let first : (i : ℕ) (w : Way) → IsWayIn fs i w → Agree (in_struct n i0 w0) (in_struct n i w) (fields ss) (S (in_struct n i w)) =
    λ i w h. subst (λ s. Agree (in_struct n i0 w0) (in_struct n i w) s (S (in_struct n i w))) (sym e) (q (in_struct n i0 w0) (in_struct n i w) (refl, h0) (refl, h)) in
    let all =
    m (λ i w. slot_at (fields_of (S (in_struct n i w))) i) (λ i w h. child_along n n i0 i w0 w ss (S (in_struct n i w)) (first i w h) (p (in_struct n i w) (refl, h)))
    (λ i w v h g. child_agree n i0 i w0 w v ss (S (in_struct n i w)) (S (in_struct n i v)) (first i w h) (q (in_struct n i w) (in_struct n i v) (refl, h) (refl, g))) in
    (fields all.0, all.1, struct_ways n fs (λ w. Like w (fields all.0) (S w)) (λ i w h. child_like n i0 i w0 w ss all.0 (S (in_struct n i w)) (first i w h) (all.2 i w h)))
merge_struct n fs m i0 w0 h0 (value v) S e p q = absurd (subst (IsAlong (in_struct n i0 w0)) (sym e) (p (in_struct n i0 w0) (refl, h0)))
merge_struct n fs m i0 w0 h0 (items ss) S e p q = absurd (subst (IsAlong (in_struct n i0 w0)) (sym e) (p (in_struct n i0 w0) (refl, h0)))

-- A leaf.

leaf_shaped : (n : Bool) (k : _) (s : Slot) → IsAlong (at_leaf n) s → IsShapedAs (leaf n k) s
leaf_shaped n k null h = h
leaf_shaped n k (value v) h = tt
leaf_shaped n k (items ss) h = absurd h
leaf_shaped n k (fields ss) h = absurd h

pub leaf_ways : (n : Bool) (k : _) (P : Way → Type 0) → P (at_leaf n) → (w : Way) → IsWayOf (leaf n k) w → P w
leaf_ways n k P g (at_leaf m) h = subst (λ b. P (at_leaf b)) (sym h) g
leaf_ways n k P g (in_list m w) h = absurd h
leaf_ways n k P g (in_struct m i w) h = absurd h

merge_fields : (f : Shape) (fs : Shapes) → Merges f → MergesAll fs → MergesAll (shape f fs)
merge_fields f fs m ms S p q =
    let first = m (λ w. S zero w) (λ w h. p zero w h) (λ w v h g. q zero w v h g) in
    let rest = ms (λ i w. S (suc i) w) (λ i w h. p (suc i) w h) (λ i w v h g. q (suc i) w v h g) in
    (slot first.0 rest.0, (first.1, rest.1), all first.0 rest.0 first.2 rest.2)
  where
    all : (s : Slot) (ss : Slots) → ((w : Way) → IsWayOf f w → Like w s (S zero w)) → ((i : ℕ) (w : Way) → IsWayIn fs i w → Like w (slot_at ss i) (S (suc i) w)) → (i : ℕ) (w : Way) → IsWayIn (shape f fs) i w → Like w (slot_at (slot s ss) i) (S i w)
    all s ss a b zero w h = a w h
    all s ss a b (suc i) w h = b i w h

mutual
  pub merges : (f : Shape) → HasNoEmptyStruct f → Merges f
  merges (leaf n k) h S p q =
      (S (at_leaf n), leaf_shaped n k (S (at_leaf n)) (p (at_leaf n) refl), leaf_ways n k (λ w. Like w (S (at_leaf n)) (S w)) (λ r d j. refl))
  merges (list n f) h S p q = let one = some_way f h in merge_list n f (merges f h) one.0 one.1 (S (in_list n one.0)) S refl p q
  merges (struct n fs) h S p q =
      let one = some_way_in n fs h in merge_struct n fs (merges_all fs (children_free n fs h)) one.0.0 one.0.1 one.1 (S (in_struct n one.0.0 one.0.1)) S refl p q

  merges_all : (fs : Shapes) → HaveNoEmptyStruct fs → MergesAll fs
  merges_all no_shapes h S p q = (no_slots, tt, λ i w g. absurd g)
  merges_all (shape f fs) h S p q = merge_fields f fs (merges f h.0) (merges_all fs h.1) S p q
