-- What two ways of a field share, and when two columns agree on it. Two columns that disagree, as on whether a struct above both is
-- null, belong to no rows (Dremel paper, section 4.3: assembly joins columns by their levels).
use Rattle.std.specs.Prelude.{◌≡◌, ℕ, zero, suc, min, cond, IsTrue, nat_eq, nat_le, None, List, map, filter, All, IfSome}
use Rattle.shredding.specs.Slot.{Slot, null, value, items, fields, Slots, no_slots, slot, list_of}
use Rattle.shredding.specs.Shape.{LeafType, nothing, IsInRange, Shape, leaf, list, struct, Shapes, no_shapes, shape, Way, at_leaf, in_list, in_struct}
use Rattle.shredding.specs.Shred.{Triple, up}

-- the lists among the parts that both ways go through
abbrev pub shared_lists : Way → Way → ℕ
shared_lists (in_list n w) (in_list m v) = suc (shared_lists w v)
shared_lists (in_struct n i w) (in_struct m j v) = cond (nat_eq i j) (shared_lists w v) 0
shared_lists _ _ = 0

-- the lists and nullable parts among them
abbrev pub shared_levels : Way → Way → ℕ
shared_levels (at_leaf n) (at_leaf m) = up n 0
shared_levels (in_list n w) (in_list m v) = up n (suc (shared_levels w v))
shared_levels (in_struct n i w) (in_struct m j v) = up n (cond (nat_eq i j) (shared_levels w v) 0)
shared_levels _ _ = 0

-- a triple with no more than e levels, and without its value
abbrev pub lowered : ℕ → Triple → Triple
lowered e t = record { repetition = t.repetition; definition = min t.definition e; value = None }

-- the levels down to c lists and e levels
abbrev pub shown : ℕ → ℕ → List Triple → List Triple
shown c e ts = map (lowered e) (filter (λ t. nat_le t.repetition c) ts)

-- two columns show the same levels of what their ways share
abbrev pub ColumnsAgree : Way → Way → List Triple → List Triple → Type 0
ColumnsAgree w v ts us = shown (shared_lists w v) (shared_levels w v) ts ≡ shown (shared_lists w v) (shared_levels w v) us

-- the way is one of the field's
abbrev mutual
  pub IsWayOf : Shape → Way → Type 0
  IsWayOf (leaf n k) (at_leaf m) = m ≡ n
  IsWayOf (list n f) (in_list m w) = (m ≡ n) × IsWayOf f w
  IsWayOf (struct n fs) (in_struct m i w) = (m ≡ n) × IsWayIn fs i w
  IsWayOf _ _ = ⊥

  pub IsWayIn : Shapes → ℕ → Way → Type 0
  IsWayIn no_shapes i w = ⊥
  IsWayIn (shape f fs) zero w = IsWayOf f w
  IsWayIn (shape f fs) (suc i) w = IsWayIn fs i w

-- a slot of the field, the ranges of its leaves aside
abbrev mutual
  pub IsShapedAs : Shape → Slot → Type 0
  IsShapedAs (leaf n k) null = IsTrue n
  IsShapedAs (leaf n k) (value v) = Unit {0}
  IsShapedAs (list n f) null = IsTrue n
  IsShapedAs (list n f) (items ss) = All (IsShapedAs f) (list_of ss)
  IsShapedAs (struct n fs) null = IsTrue n
  IsShapedAs (struct n fs) (fields ss) = AreShapedAs fs ss
  IsShapedAs _ _ = ⊥

  pub AreShapedAs : Shapes → Slots → Type 0
  AreShapedAs no_shapes no_slots = Unit {0}
  AreShapedAs (shape f fs) (slot s ss) = IsShapedAs f s × AreShapedAs fs ss
  AreShapedAs _ _ = ⊥

-- the type of the leaf at the end of the way
abbrev mutual
  pub leaf_type_at : Shape → Way → LeafType
  leaf_type_at (leaf n k) (at_leaf m) = k
  leaf_type_at (list n f) (in_list m w) = leaf_type_at f w
  leaf_type_at (struct n fs) (in_struct m i w) = leaf_type_in fs i w
  leaf_type_at _ _ = nothing

  pub leaf_type_in : Shapes → ℕ → Way → LeafType
  leaf_type_in no_shapes i w = nothing
  leaf_type_in (shape f fs) zero w = leaf_type_at f w
  leaf_type_in (shape f fs) (suc i) w = leaf_type_in fs i w

-- the value of the triple, where it has one, is of the leaf type
abbrev pub IsOfLeafType : LeafType → Triple → Type 0
IsOfLeafType k t = IfSome t.value (IsInRange k)
