-- How field and tree are walked side by side: what is left of a tree behind a place, and what is left once leaves were found equal.
use Rattle.std.specs.Prelude.{◌≡◌, ℕ, zero, suc, Bool, true, false, Option, Some, None, List, [], ◌∷◌, MatchBool, if◌then◌else◌}
use Rattle.columns_core.specs.Tree.{TypeTree}
use Rattle.pq_tree.specs.Tree.{Tree, leaf, group, Trees, no_trees, tree}
use Rattle.pq_tree.specs.Types.{Repetition, required, optional, repeated}
use Rattle.schema_fit.specs.Skeleton.{Bone, Bones, no_bones, bone, one, and_then, under, StoredLeaf, ArrowLeaf, trees_bones, same_bone}

abbrev pub has_bones : {A : Type 0} → Bones A → Bool
has_bones no_bones = false
has_bones (bone x xs) = true

-- ---- places: at each level the child that comes next, or whether a node was given

abbrev pub next_at : List ℕ → ℕ
next_at [] = 0
next_at (at ∷ below) = at

abbrev pub beneath : List ℕ → List ℕ
beneath [] = []
beneath (at ∷ below) = below

-- what is given once
abbrev pub once : ℕ → Bones StoredLeaf → Bones StoredLeaf
once zero ys = ys
once (suc n) ys = no_bones

abbrev pub rest_under : Repetition → ℕ → Bones StoredLeaf → Bones StoredLeaf → Bones StoredLeaf
rest_under required at all rest = rest
rest_under optional at all rest = once at (under optional all)
rest_under repeated at all rest = once at (under repeated all)

abbrev pub leaf_bones : Tree → Bones StoredLeaf
leaf_bones (leaf info physical) = bone (one (record { info = info; physical = physical })) no_bones
leaf_bones (group info children) = no_bones

-- what stands beneath the node, whatever its repetition
abbrev pub inner_bones : Tree → Bones StoredLeaf
inner_bones (leaf info physical) = leaf_bones (leaf info physical)
inner_bones (group info children) = trees_bones children

abbrev mutual
  -- what is left of the node
  pub rest_of : Tree → List ℕ → Bones StoredLeaf
  rest_of (leaf info physical) path = rest_under info.repetition (next_at path) (leaf_bones (leaf info physical)) (once (next_at path) (leaf_bones (leaf info physical)))
  rest_of (group info children) path = rest_under info.repetition (next_at path) (trees_bones children) (rest_in children (next_at path) (beneath path))

  -- what is left of the nodes
  pub rest_in : Trees → ℕ → List ℕ → Bones StoredLeaf
  rest_in no_trees at below = no_bones
  rest_in (tree t ts) zero below = and_then (rest_of t below) (trees_bones ts)
  rest_in (tree t ts) (suc at) below = rest_in ts at below

-- what is left beneath the node
abbrev pub rest_inside : Tree → List ℕ → Bones StoredLeaf
rest_inside (leaf info physical) path = once (next_at path) (leaf_bones (leaf info physical))
rest_inside (group info children) path = rest_in children (next_at path) (beneath path)

-- of the node as it stands, or of what is beneath it
abbrev pub rest_from : Bool → Tree → List ℕ → Bones StoredLeaf
rest_from true t path = rest_inside t path
rest_from false t path = rest_of t path

-- ---- equal beginnings

abbrev pub leaf_alone : Bool → TypeTree → Bones ArrowLeaf
leaf_alone is_nullable t = bone (one (record { data_type = t; is_nullable = is_nullable })) no_bones

-- what is left of the second once the first was found at its front
abbrev pub behind : {A B : Type 0} → (A → B → Bool) → Bones A → Bones B → Option (Bones B)
behind go_together no_bones ys = Some ys
behind go_together (bone x xs) no_bones = None
behind go_together (bone x xs) (bone y ys) = if same_bone go_together x y then behind go_together xs ys else None

-- whether the first stands at the front of the old rest, and the new rest is what is behind it
abbrev pub Eats : {A B : Type 0} → (A → B → Bool) → Bool → Bones A → Bones B → Bones B → Type 0
Eats go_together found xs old new = MatchBool found (behind go_together xs old ≡ Some new) (behind go_together xs old ≡ None)
