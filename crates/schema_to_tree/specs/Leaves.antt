-- The leaf types of a type, in order.
use Rattle.std.specs.Prelude.{◌≡◌, Bool, true, false, not, ◌||◌, ◌⊎◌, cond, Option, Some, None, List, [], ◌∷◌, ◌++◌, map, Result, Ok, Err}
use Rattle.columns_base.specs.declared.error.Error.{Error}
use Rattle.columns_base.specs.declared.error.Error.TheVariants.{NotYetImplemented, InvalidArgumentError, Memory}
use Rattle.columns_base.specs.declared.error.N.TheVariants.{N5}
use Rattle.columns_base.specs.declared.error.A.TheVariants.{A8}
use Rattle.std.specs.Fn.{Shared}
use Rattle.std.specs.List.{Contains}
use denote.Ref.{Bor}
use Rattle.columns_core.specs.View.{type_view}
use Rattle.columns_core.specs.declared.types.DataType.{DataType}
use Rattle.schema_to_tree.specs.Faults.{first_of_two}
use Rattle.columns_core.specs.Tree.{TypeTree, t_list, t_fixed_size_list, t_large_list, t_struct, t_union, t_map, t_extension, FieldTree, field, FieldTrees, no_fields, more_fields}
use Rattle.columns_core.specs.Shapes.{base}

-- ---- leaves

abbrev mutual
  -- those of a type, which stands as w outside its extensions. A dictionary is a leaf, and an extension over a leaf is one
  pub leaves_as : TypeTree → TypeTree → List TypeTree
  leaves_as w (t_list f) = field_leaf_types f
  leaves_as w (t_large_list f) = field_leaf_types f
  leaves_as w (t_fixed_size_list f n) = field_leaf_types f
  leaves_as w (t_map f sorted) = field_leaf_types f
  leaves_as w (t_struct fs) = fields_leaf_types fs
  leaves_as w (t_extension name t m) = leaves_as w t
  leaves_as w t = w ∷ []

  pub field_leaf_types : FieldTree → List TypeTree
  field_leaf_types (field name t nullable m) = leaves_as t t

  pub fields_leaf_types : FieldTrees → List TypeTree
  fields_leaf_types no_fields = []
  fields_leaf_types (more_fields f fs) = field_leaf_types f ++ fields_leaf_types fs

abbrev pub leaf_types : TypeTree → List TypeTree
leaf_types t = leaves_as t t

-- ---- what is refused on the way to a leaf

abbrev mutual
  -- some type on the way to a leaf is so
  pub meets : (TypeTree → Bool) → TypeTree → Bool
  meets p (t_list f) = p (t_list f) || field_meets p f
  meets p (t_large_list f) = p (t_large_list f) || field_meets p f
  meets p (t_fixed_size_list f n) = p (t_fixed_size_list f n) || field_meets p f
  meets p (t_map f sorted) = p (t_map f sorted) || field_meets p f
  meets p (t_struct fs) = p (t_struct fs) || fields_meet p fs
  meets p (t_extension name t m) = p (t_extension name t m) || meets p t
  meets p t = p t

  pub field_meets : (TypeTree → Bool) → FieldTree → Bool
  field_meets p (field name t nullable m) = meets p t

  pub fields_meet : (TypeTree → Bool) → FieldTrees → Bool
  fields_meet p no_fields = false
  fields_meet p (more_fields f fs) = field_meets p f || fields_meet p fs

abbrev pub is_union : TypeTree → Bool
is_union (t_union fs ids sparse) = true
is_union t = false

abbrev pub is_struct : TypeTree → Bool
is_struct (t_struct fs) = true
is_struct t = false

abbrev pub field_base : FieldTree → TypeTree
field_base (field name t nullable m) = base t

-- a map whose entry is no struct, beneath extensions
abbrev pub is_odd_map : TypeTree → Bool
is_odd_map (t_map f sorted) = not (is_struct (field_base f))
is_odd_map t = false

-- a type whose leaves are those of its parts, or that has none
abbrev pub is_branch : TypeTree → Bool
is_branch (t_list f) = true
is_branch (t_large_list f) = true
is_branch (t_fixed_size_list f n) = true
is_branch (t_map f sorted) = true
is_branch (t_struct fs) = true
is_branch (t_extension name t m) = true
is_branch (t_union fs ids sparse) = true
is_branch t = false

-- ---- mapped

-- f may be called on each of the types
abbrev pub TakesEach : {F R : Type 0} → Shared F (Bor DataType × Unit {0}) R → F → List TypeTree → Type 0
TakesEach g f ts = (p : Bor DataType) → Contains ts (type_view p.now) → g.pre f (p, tt)

-- r is an answer of f on a type that is t
pub record IsAnswer {F R : Type 0} (g : Shared F (Bor DataType × Unit {0}) R) (f : F) (t : TypeTree) (r : R) : Type 0 where
  pub shown : Bor DataType
  pub shows : type_view shown.now ≡ t
  pub met : g.post f (shown, tt) r

-- one answer for each type, in order
abbrev pub AnswersEach : {F R : Type 0} → Shared F (Bor DataType × Unit {0}) R → F → List TypeTree → List R → Type 0
AnswersEach g f [] [] = Unit {0}
AnswersEach g f (t ∷ ts) (r ∷ rs) = IsAnswer g f t r × AnswersEach g f ts rs
AnswersEach g f ts rs = ⊥

-- nothing on the way to a leaf is refused
pub record HasLeaves (t : TypeTree) : Type 0 where
  pub unions : meets is_union t ≡ false
  pub maps : meets is_odd_map t ≡ false

abbrev pub RefusesLeaves : TypeTree → Error → Type 0
RefusesLeaves t (NotYetImplemented N5) = meets is_union t ≡ true
RefusesLeaves t (InvalidArgumentError A8) = meets is_odd_map t ≡ true
RefusesLeaves t Memory = Unit {0}
RefusesLeaves t e = ⊥

-- ---- the first of these, in the order of the parts

abbrev mutual
  pub way_fault : TypeTree → Option Error
  way_fault (t_list f) = field_way_fault f
  way_fault (t_large_list f) = field_way_fault f
  way_fault (t_fixed_size_list f n) = field_way_fault f
  way_fault (t_map f sorted) = cond (is_struct (field_base f)) (field_way_fault f) (Some (InvalidArgumentError A8))
  way_fault (t_struct fs) = fields_way_fault fs
  way_fault (t_extension name t m) = way_fault t
  way_fault (t_union fs ids sparse) = Some (NotYetImplemented N5)
  way_fault t = None

  pub field_way_fault : FieldTree → Option Error
  field_way_fault (field name t nullable m) = way_fault t

  pub fields_way_fault : FieldTrees → Option Error
  fields_way_fault no_fields = None
  fields_way_fault (more_fields f fs) = first_of_two (field_way_fault f) (fields_way_fault fs)

-- the types that references show
abbrev pub shown : List (Bor DataType) → List TypeTree
shown ps = map (λ p. type_view p.now) ps

-- the leaf types come behind those that were there; want of memory aside
abbrev pub Pushes : List TypeTree → List TypeTree → List TypeTree → Option Error → Result (Unit {0}) Error → Type 0
Pushes old new ts fault (Ok u) = (new ≡ old ++ ts) × (fault ≡ None)
Pushes old new ts fault (Err e) = (e ≡ Memory) ⊎ (fault ≡ Some e)
