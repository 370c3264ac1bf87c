-- The ways of a field, and the ranges of its leaves.
use Rattle.std.proofs.Common.{◌↔◌, ℕ, zero, suc, Bool, List, [], ◌∷◌, map, All, Contains, refl}
use Rattle.std.specs.List.{AllByRecursion as Each}
use Rattle.std.proofs.lemmas.List.Elements.{recursion_from_All, All-from_recursion, All-contains, All-contains_itself}
use Rattle.shredding.specs.Laws.{WaysAreListed}
use Rattle.shredding.specs.Share.{IsWayOf, IsWayIn, IsShapedAs, AreShapedAs, IsOfLeafType, leaf_type_at, leaf_type_in}
use Rattle.shredding.specs.Slot.{Slot, null, value, items, fields, Slots, no_slots, slot, list_of, slot_at}
use Rattle.shredding.specs.Shape.{LeafType, Shape, leaf, list, struct, Shapes, no_shapes, shape, IsOf, AreOf, Way, at_leaf, in_list, in_struct, one_on, ways, ways_of}
use Rattle.shredding.specs.Shred.{up, shred, column}
use Rattle.shredding.proofs.Levels.{Each-append, Each-flat_map}
use Rattle.shredding.proofs.Seen.{Each-map}
use Rattle.shredding.proofs.Unique.{Each-of_map, Each-of_append_left, Each-of_append_right, rows_along}
use Rattle.shredding.proofs.Merge.{list_ways, struct_ways, leaf_ways}

-- ways

mutual
  at_each : (f : Shape) (P : Way → Type 0) → Each P (ways f) → (w : Way) → IsWayOf f w → P w
  at_each (leaf n k) P h w g = leaf_ways n k P h.0 w g
  at_each (list n f) P h w g = list_ways n f P (at_each f (λ v. P (in_list n v)) (Each-of_map P (in_list n) (ways f) h)) w g
  at_each (struct n fs) P h w g = struct_ways n fs P (at_each_in fs (λ p. P (in_struct n p.0 p.1)) (Each-of_map P (λ p. in_struct n p.0 p.1) (ways_of fs) h)) w g

  at_each_in : (fs : Shapes) (P : ℕ × Way → Type 0) → Each P (ways_of fs) → (i : ℕ) (w : Way) → IsWayIn fs i w → P (i, w)
  at_each_in no_shapes P h i w g = absurd g
  at_each_in (shape f fs) P h zero w g = at_each f (λ v. P (zero, v)) (Each-of_map P (λ v. (zero, v)) (ways f) (Each-of_append_left P (map (λ v. (zero, v)) (ways f)) (map one_on (ways_of fs)) h)) w g
  at_each_in (shape f fs) P h (suc i) w g =
      at_each_in fs (λ p. P (one_on p)) (Each-of_map P one_on (ways_of fs) (Each-of_append_right P (map (λ v. (zero, v)) (ways f)) (map one_on (ways_of fs)) h)) i w g

mutual
  each_at : (f : Shape) (P : Way → Type 0) → ((w : Way) → IsWayOf f w → P w) → Each P (ways f)
  each_at (leaf n k) P h = (h (at_leaf n) refl, tt)
  each_at (list n f) P h = Each-map P (in_list n) (ways f) (each_at f (λ v. P (in_list n v)) (λ w g. h (in_list n w) (refl, g)))
  each_at (struct n fs) P h = Each-map P (λ p. in_struct n p.0 p.1) (ways_of fs) (each_at_in fs (λ p. P (in_struct n p.0 p.1)) (λ i w g. h (in_struct n i w) (refl, g)))

  each_at_in : (fs : Shapes) (P : ℕ × Way → Type 0) → ((i : ℕ) (w : Way) → IsWayIn fs i w → P (i, w)) → Each P (ways_of fs)
  each_at_in no_shapes P h = tt
  each_at_in (shape f fs) P h =
      Each-append P (map (λ v. (zero, v)) (ways f)) (map one_on (ways_of fs)) (Each-map P (λ v. (zero, v)) (ways f) (each_at f (λ v. P (zero, v)) (λ w g. h zero w g)))
      (Each-map P one_on (ways_of fs) (each_at_in fs (λ p. P (one_on p)) (λ i w g. h (suc i) w g)))

pub ways_listed : (f : Shape) (P : Way → Type 0) → All P (ways f) ↔ ((w : Way) → IsWayOf f w → P w)
ways_listed f P = ((λ h. at_each f P (recursion_from_All P (ways f) h)), (λ h. All-from_recursion P (ways f) (each_at f P h)))

pub ways_are_listed : WaysAreListed
ways_are_listed f w = (
  (λ h. All-contains (IsWayOf f) (ways f) w ((ways_listed f (IsWayOf f)).1 (λ v g. g)) h),
  (λ g. (ways_listed f (Contains (ways f))).0 (All-contains_itself (ways f)) w g),
)

-- slots without their ranges

shaped_all : (P Q : Slot → Type 0) → ((s : Slot) → P s → Q s) → (ss : List Slot) → All P ss → All Q ss
shaped_all P Q g ss h k d l = g _ (h k d l)

mutual
  pub is_shaped : (f : Shape) (s : Slot) → IsOf f s → IsShapedAs f s
  is_shaped (leaf n k) null h = h
  is_shaped (leaf n k) (value v) h = tt
  is_shaped (leaf n k) (items ss) h = absurd h
  is_shaped (leaf n k) (fields ss) h = absurd h
  is_shaped (list n f) null h = h
  is_shaped (list n f) (items ss) h = shaped_all (IsOf f) (IsShapedAs f) (is_shaped f) (list_of ss) h
  is_shaped (list n f) (value v) h = absurd h
  is_shaped (list n f) (fields ss) h = absurd h
  is_shaped (struct n fs) null h = h
  is_shaped (struct n fs) (fields ss) h = are_shaped fs ss h
  is_shaped (struct n fs) (value v) h = absurd h
  is_shaped (struct n fs) (items ss) h = absurd h

  are_shaped : (fs : Shapes) (ss : Slots) → AreOf fs ss → AreShapedAs fs ss
  are_shaped no_shapes no_slots h = tt
  are_shaped no_shapes (slot s ss) h = absurd h
  are_shaped (shape f fs) no_slots h = absurd h
  are_shaped (shape f fs) (slot s ss) h = (is_shaped f s h.0, are_shaped fs ss h.1)

-- from slots to their values

abbrev Ranged : LeafType → Way → Slot → Type 0
Ranged k w s = (r d j : ℕ) → Each (IsOfLeafType k) (shred w s r d j)

list_ranged : (k : LeafType) (n : Bool) (w : Way) (P : Slot → Type 0) → ((s : Slot) → P s → Ranged k w s) → (ss : Slots) → Each P (list_of ss) → Ranged k (in_list n w) (items ss)
unfolding shred
list_ranged k n w P u no_slots h r d j = (tt, tt)
list_ranged k n w P u (slot s ss) h r d j =
    Each-append (IsOfLeafType k) (shred w s r (suc (up n d)) (suc j)) _ (u s h.0 r (suc (up n d)) (suc j))
    (Each-flat_map (IsOfLeafType k) P (λ t. shred w t (suc j) (suc (up n d)) (suc j)) (λ t g. u t g (suc j) (suc (up n d)) (suc j)) (list_of ss) h.1)

mutual
  unfolding shred

  ranged : (f : Shape) (w : Way) (s : Slot) → IsWayOf f w → IsOf f s → Ranged (leaf_type_at f w) w s
  ranged (leaf n k) (at_leaf m) null g h = λ r d j. (tt, tt)
  ranged (leaf n k) (at_leaf m) (value v) g h = λ r d j. (h, tt)
  ranged (leaf n k) (at_leaf m) (items ss) g h = absurd h
  ranged (leaf n k) (at_leaf m) (fields ss) g h = absurd h
  ranged (leaf n k) (in_list m w) s g h = absurd g
  ranged (leaf n k) (in_struct m i w) s g h = absurd g
  ranged (list n f) (in_list m w) null g h = λ r d j. (tt, tt)
  ranged (list n f) (in_list m w) (items ss) g h = list_ranged (leaf_type_at f w) m w (IsOf f) (λ s p. ranged f w s g.1 p) ss (recursion_from_All (IsOf f) (list_of ss) h)
  ranged (list n f) (in_list m w) (value v) g h = absurd h
  ranged (list n f) (in_list m w) (fields ss) g h = absurd h
  ranged (list n f) (at_leaf m) s g h = absurd g
  ranged (list n f) (in_struct m i w) s g h = absurd g
  ranged (struct n fs) (in_struct m i w) null g h = λ r d j. (tt, tt)
  ranged (struct n fs) (in_struct m i w) (fields ss) g h = λ r d j. ranged_in fs i w ss g.1 h r (up m d) j
  ranged (struct n fs) (in_struct m i w) (value v) g h = absurd h
  ranged (struct n fs) (in_struct m i w) (items ss) g h = absurd h
  ranged (struct n fs) (at_leaf m) s g h = absurd g
  ranged (struct n fs) (in_list m w) s g h = absurd g

  ranged_in : (fs : Shapes) (i : ℕ) (w : Way) (ss : Slots) → IsWayIn fs i w → AreOf fs ss → Ranged (leaf_type_in fs i w) w (slot_at ss i)
  ranged_in no_shapes i w ss g h = absurd g
  ranged_in (shape f fs) i w no_slots g h = absurd h
  ranged_in (shape f fs) zero w (slot s ss) g h = ranged f w s g h.0
  ranged_in (shape f fs) (suc i) w (slot s ss) g h = ranged_in fs i w ss g h.1

pub in_range : (f : Shape) (w : Way) → IsWayOf f w → (rows : List Slot) → Each (IsOf f) rows → All (IsOfLeafType (leaf_type_at f w)) (column w rows)
in_range f w g rows h = All-from_recursion (IsOfLeafType (leaf_type_at f w)) (column w rows) (Each-flat_map (IsOfLeafType (leaf_type_at f w)) (IsOf f) (λ s. shred w s 0 0 0) (λ s p. ranged f w s g p 0 0 0) rows h)

-- from values to slots

abbrev Returns : Shape → Type 0
Returns f = (s : Slot) (r d j : ℕ) → IsShapedAs f s → ((w : Way) → IsWayOf f w → Each (IsOfLeafType (leaf_type_at f w)) (shred w s r d j)) → IsOf f s

rows_return : (f : Shape) → Returns f → (r d j : ℕ) (ss : List Slot) → Each (IsShapedAs f) ss → ((w : Way) → IsWayOf f w → Each (IsOfLeafType (leaf_type_at f w)) (rows_along r d j w ss)) → Each (IsOf f) ss
rows_return f u r d j [] p h = tt
rows_return f u r d j (s ∷ ss) p h = (
  u s r d j p.0 (λ w g. Each-of_append_left (IsOfLeafType (leaf_type_at f w)) (shred w s r d j) (rows_along r d j w ss) (h w g)),
  rows_return f u r d j ss p.1 (λ w g. Each-of_append_right (IsOfLeafType (leaf_type_at f w)) (shred w s r d j) (rows_along r d j w ss) (h w g)),
)

list_return : (n : Bool) (f : Shape) → Returns f → (ss : Slots) (r d j : ℕ) → Each (IsShapedAs f) (list_of ss) → ((w : Way) → IsWayOf f w → Each (IsOfLeafType (leaf_type_at f w)) (shred (in_list n w) (items ss) r d j)) → Each (IsOf f) (list_of ss)
unfolding shred
list_return n f u no_slots r d j p h = tt
list_return n f u (slot s ss) r d j p h =
    let D : ℕ = suc (up n d) in
    let K : ℕ = suc j in (
      u s r D K p.0 (λ w g. Each-of_append_left (IsOfLeafType (leaf_type_at f w)) (shred w s r D K) (rows_along K D K w (list_of ss)) (h w g)),
      rows_return f u K D K (list_of ss) p.1 (λ w g. Each-of_append_right (IsOfLeafType (leaf_type_at f w)) (shred w s r D K) (rows_along K D K w (list_of ss)) (h w g)),
    )

mutual
  unfolding shred

  return : (f : Shape) → Returns f
  return (leaf n k) null r d j p h = p
  return (leaf n k) (value v) r d j p h = (h (at_leaf n) refl).0
  return (leaf n k) (items ss) r d j p h = absurd p
  return (leaf n k) (fields ss) r d j p h = absurd p
  return (list n f) null r d j p h = p
  return (list n f) (items ss) r d j p h =
      All-from_recursion (IsOf f) (list_of ss) (list_return n f (return f) ss r d j (recursion_from_All (IsShapedAs f) (list_of ss) p) (λ w g. h (in_list n w) (refl, g)))
  return (list n f) (value v) r d j p h = absurd p
  return (list n f) (fields ss) r d j p h = absurd p
  return (struct n fs) null r d j p h = p
  return (struct n fs) (fields ss) r d j p h = return_all fs ss r (up n d) j p (λ i w g. h (in_struct n i w) (refl, g))
  return (struct n fs) (value v) r d j p h = absurd p
  return (struct n fs) (items ss) r d j p h = absurd p

  return_all : (fs : Shapes) (ss : Slots) (r d j : ℕ) → AreShapedAs fs ss → ((i : ℕ) (w : Way) → IsWayIn fs i w → Each (IsOfLeafType (leaf_type_in fs i w)) (shred w (slot_at ss i) r d j)) → AreOf fs ss
  return_all no_shapes no_slots r d j p h = tt
  return_all no_shapes (slot s ss) r d j p h = absurd p
  return_all (shape f fs) no_slots r d j p h = absurd p
  return_all (shape f fs) (slot s ss) r d j p h = (return f s r d j p.0 (λ w g. h zero w g), return_all fs ss r d j p.1 (λ i w g. h (suc i) w g))

pub is_of : (f : Shape) (rows : List Slot) → Each (IsShapedAs f) rows → ((w : Way) → IsWayOf f w → Each (IsOfLeafType (leaf_type_at f w)) (column w rows)) → Each (IsOf f) rows
is_of f rows p h = rows_return f (return f) 0 0 0 rows p h
