-- Where bones are, and equal beginnings.
use Rattle.std.proofs.Common.{◌≡◌, ℕ, Bool, ◌||◌, refl, ap, ◌∙◌}
use Rattle.columns_core.specs.Meta.{Meta}
use Rattle.columns_core.specs.Tree.{TypeTree, FieldTree, field, FieldTrees, more_fields}
use Rattle.pq_tree.specs.Tree.{Tree, leaf, group, Trees, tree}
use Rattle.pq_tree.specs.Types.{Repetition, required, optional, repeated}
use Rattle.std.specs.Prelude.{List}
use Rattle.schema_fit.specs.Places.{repetition_at}
use Rattle.schema_fit.specs.Skeleton.{Bone, Bones, no_bones, bone, and_then, under, repetition_of, tree_bones, trees_bones, type_bones, field_bones, fields_bones}
use Rattle.schema_fit.specs.Walk.{has_bones, inner_bones}

module _ {A : Type 0} where
  pub has_under : (r : Repetition) (xs : Bones A) → has_bones (under r xs) ≡ has_bones xs
  has_under r no_bones = refl
  has_under required (bone x xs) = refl
  has_under optional (bone x xs) = refl
  has_under repeated (bone x xs) = refl

  pub has_and_then : (xs ys : Bones A) → has_bones (and_then xs ys) ≡ has_bones xs || has_bones ys
  has_and_then no_bones ys = refl
  has_and_then (bone x xs) ys = refl

pub tree_under : (t : Tree) → tree_bones t ≡ under (repetition_at t) (inner_bones t)
tree_under (leaf info physical) = refl
tree_under (group info children) = refl

pub has_more : (t : Tree) (ts : Trees) → has_bones (trees_bones (tree t ts)) ≡ has_bones (inner_bones t) || has_bones (trees_bones ts)
has_more t ts =
    has_and_then (tree_bones t) (trees_bones ts) ∙ ap (λ b. b || has_bones (trees_bones ts)) (ap has_bones (tree_under t) ∙ has_under (repetition_at t) (inner_bones t))

pub has_item : (n : List ℕ) (t : TypeTree) (b : Bool) (m : Meta) → has_bones (under repeated (field_bones (field n t b m))) ≡ has_bones (type_bones b t)
has_item n t b m = has_under repeated (field_bones (field n t b m)) ∙ has_under (repetition_of b) (type_bones b t)

pub has_fields : (n : List ℕ) (t : TypeTree) (b : Bool) (m : Meta) (fs : FieldTrees) → has_bones (fields_bones (more_fields (field n t b m) fs)) ≡ has_bones (type_bones b t) || has_bones (fields_bones fs)
has_fields n t b m fs =
    has_and_then (field_bones (field n t b m)) (fields_bones fs) ∙ ap (λ x. x || has_bones (fields_bones fs)) (has_under (repetition_of b) (type_bones b t))
