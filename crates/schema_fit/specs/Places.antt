-- What is found at a place in a tree.
use Rattle.std.specs.Prelude.{◌≡◌, ℕ, Option, MatchOption}
use Rattle.pq_tree.specs.declared.types.PrimitiveType.{PrimitiveType}
use Rattle.pq_tree.specs.Tree.{Tree, leaf, group, nesting}
use Rattle.pq_tree.specs.Types.{Repetition}
use Rattle.pq_tree.specs.TreeViews.{tree_view, info_view}
use Rattle.pq_tree.specs.Views.{physical_view}
use Rattle.schema_fit.specs.declared.place.Found.{Found}
use Rattle.schema_fit.specs.declared.place.Found.TheVariants.{Leaf, Optional, Repeated}
use Rattle.schema_fit.specs.Skeleton.{Bone, Bones, no_bones, bone, one, under_optional, under_repeated, StoredLeaf}
use Rattle.schema_fit.specs.Walk.{inner_bones}

abbrev pub leaf_view : PrimitiveType → StoredLeaf
leaf_view p = record { info = info_view p.field_info p.converted_type p.logical_type; physical = physical_view p.physical_type }

abbrev pub found_bone : Found → Bone StoredLeaf
found_bone (Leaf p) = one (leaf_view p.now)
found_bone (Optional n) = under_optional (inner_bones (tree_view n.now))
found_bone (Repeated n) = under_repeated (inner_bones (tree_view n.now))

abbrev pub found_nesting : Found → ℕ
found_nesting (Leaf p) = 1
found_nesting (Optional n) = nesting (tree_view n.now)
found_nesting (Repeated n) = nesting (tree_view n.now)

-- the first of what was left, or none where nothing was left
abbrev pub Steps : Option Found → Bones StoredLeaf → Bones StoredLeaf → Type 0
Steps found old new = MatchOption found (old ≡ no_bones) (λ b. old ≡ bone (found_bone b) new)

abbrev pub repetition_at : Tree → Repetition
repetition_at (leaf info physical) = info.repetition
repetition_at (group info children) = info.repetition
