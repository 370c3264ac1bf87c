-- The paths of an array have the greatest levels of the tree's leaves.
use Rattle.std.proofs.Common.{◌≡◌, ℕ, suc, ◌+◌, Bool, true, false, not, nat_eq, cond, Option, Some, None, List, [], ◌∷◌, ◌++◌, map, refl, sym, ap, ap₂, ◌∙◌, true≢false, arith}
use Rattle.std.proofs.lemmas.List.{map-append, append-nil}
use Rattle.shredding.specs.Parts.{Part, list_part, struct_part}
use Rattle.shredding.specs.Shred.{up}
use Rattle.columns_base.specs.declared.error.Error.{Error}
use Rattle.columns_slots.specs.Tree.{Mask, ArrayTree, null_array, leaf_array, list_array, fixed_list_array, struct_array, dictionary_array, ArrayTrees, no_arrays, more_arrays}
use Rattle.columns_slots.specs.Slots.{first_len, count_arrays}
use Rattle.pq_tree.specs.Tree.{Leaf, under, Tree, leaf, group, Trees, no_trees, tree, leaves, leaves_of, defines, repeats}
use Rattle.pq_tree.specs.Types.{Repetition, required, optional, repeated, Info}
use Rattle.nested_paths.specs.Laws.{PathsHaveLevels}
use Rattle.nested_paths.specs.Levels.{path_levels, leaf_levels}
use Rattle.nested_paths.specs.Nodes.{given, is_repeated, is_optional, only_tree, only_child, item_node, field_nodes}
use Rattle.nested_paths.specs.Paths.{first_of_two, differs, leaf_misfit, counted, misfit, misfits, paths, paths_in, below}

-- ---- what a node adds

not_repeated : (r : Repetition) → nat_eq (repeats r) 1 ≡ false → (d : ℕ) → (up (nat_eq (defines r) 1) d ≡ defines r + d) × (repeats r ≡ 0)
not_repeated required e d = (omega arith, refl)
not_repeated optional e d = (omega arith, refl)
not_repeated repeated e d = absurd (true≢false e)

is_one : (r : Repetition) → nat_eq (repeats r) 1 ≡ true → (defines r ≡ 1) × (repeats r ≡ 1)
is_one required e = absurd (true≢false (sym e))
is_one optional e = absurd (true≢false (sym e))
is_one repeated e = (refl, refl)

-- ---- what all gain

all_paths : (g : List Part → List Part) (f : ℕ × ℕ → ℕ × ℕ) → ((p : List Part) → path_levels (g p) ≡ f (path_levels p)) → (ps : List (List Part)) → map path_levels (map g ps) ≡ map f (map path_levels ps)
all_paths g f e [] = refl
all_paths g f e (p ∷ ps) = rw (e p, all_paths g f e ps) refl

all_leaves : (h : Leaf → Leaf) (f : ℕ × ℕ → ℕ × ℕ) → ((l : Leaf) → leaf_levels (h l) ≡ f (leaf_levels l)) → (ls : List Leaf) → map leaf_levels (map h ls) ≡ map f (map leaf_levels ls)
all_leaves h f e [] = refl
all_leaves h f e (l ∷ ls) = rw (e l, all_leaves h f e ls) refl

-- ---- a list

item_gain : Bool → ℕ × ℕ → ℕ × ℕ
item_gain b n = (up b (suc n.0), suc n.1)

under_both : (i j : Info) → is_repeated i ≡ false → is_repeated j ≡ true → (l : Leaf) → leaf_levels (under i (under j l)) ≡ item_gain (nat_eq (defines i.repetition) 1) (leaf_levels l)
unfolding item_gain
under_both i j e k l =
    let n = not_repeated i.repetition e (suc (leaf_levels l).0) in
    let m = is_one j.repetition k in
    let first : (leaf_levels (under i (under j l))).0 ≡ up (nat_eq (defines i.repetition) 1) (suc (leaf_levels l).0) = omega (arith, n.0, m.0) in
    let second : (leaf_levels (under i (under j l))).1 ≡ suc (leaf_levels l).1 = omega (arith, n.1, m.1) in
    ap₂ (λ x y. (x, y)) first second

map_twice : (i j : Info) (ls : List Leaf) → map (under i) (map (under j) ls) ≡ map (λ l. under i (under j l)) ls
map_twice i j [] = refl
map_twice i j (l ∷ ls) = ap (λ k. under i (under j l) ∷ k) (map_twice i j ls)

one_item : (i j : Info) (t : Tree) → leaves (group i (tree (group j (tree t no_trees)) no_trees)) ≡ map (λ l. under i (under j l)) (leaves t)
one_item i j t =
    ap (map (under i)) (append-nil (map (under j) (leaves t ++ [])) ∙ ap (map (under j)) (append-nil (leaves t))) ∙ map_twice i j (leaves t)

same_some : {A : Type 0} (x y : A) → Some x ≡ Some y → x ≡ y
same_some x y e = cc

list_levels : (i j : Info) (t item : Tree) (m : Mask) (os : List ℕ) (ps : List (List Part)) → is_repeated i ≡ false → is_repeated j ≡ true → t ≡ item → map path_levels ps ≡ map leaf_levels (leaves item)
    → map path_levels (below (list_part (nat_eq (defines i.repetition) 1) m os ∷ []) ps) ≡ map leaf_levels (leaves (group i (tree (group j (tree t no_trees)) no_trees)))
unfolding item_gain
list_levels i j t item m os ps e k same so =
    all_paths (λ p. list_part (nat_eq (defines i.repetition) 1) m os ∷ p) (item_gain (nat_eq (defines i.repetition) 1)) (λ p. refl) ps
    ∙ ap (map (item_gain (nat_eq (defines i.repetition) 1))) (so ∙ ap (λ u. map leaf_levels (leaves u)) (sym same))
    ∙ sym (all_leaves (λ l. under i (under j l)) (item_gain (nat_eq (defines i.repetition) 1)) (under_both i j e k) (leaves t))
    ∙ ap (map leaf_levels) (sym (one_item i j t))

-- what is known of a node that has an item
abbrev Middle : Info → Tree → Tree → Mask → List ℕ → List (List Part) → Type 0
Middle i t item m os ps = map path_levels (below (list_part (nat_eq (defines i.repetition) 1) m os ∷ []) ps) ≡ map leaf_levels (leaves (group i (tree t no_trees)))

inner_item : (i j : Info) (us : Trees) (item : Tree) (m : Mask) (os : List ℕ) (ps : List (List Part)) (c : Bool) → is_repeated i ≡ false → is_repeated j ≡ c → given None only_tree (cond c (Some us) None) ≡ Some item
    → map path_levels ps ≡ map leaf_levels (leaves item) → Middle i (group j us) item m os ps
inner_item i j us item m os ps false e k is so = absurd (cc)
inner_item i j no_trees item m os ps true e k is so = absurd (cc)
inner_item i j (tree t no_trees) item m os ps true e k is so = list_levels i j t item m os ps e k (same_some t item is) so
inner_item i j (tree t (tree u us)) item m os ps true e k is so = absurd (cc)

middle_item : (i : Info) (t item : Tree) (m : Mask) (os : List ℕ) (ps : List (List Part)) → is_repeated i ≡ false → only_child true t ≡ Some item → map path_levels ps ≡ map leaf_levels (leaves item) → Middle i t item m os ps
middle_item i (leaf j p) item m os ps e is so = absurd (cc)
middle_item i (group j us) item m os ps e is so = inner_item i j us item m os ps (is_repeated j) e refl is so

outer_item : (i : Info) (ts : Trees) (item : Tree) (m : Mask) (os : List ℕ) (ps : List (List Part)) (b : Bool) → is_repeated i ≡ b → given None (only_child true) (given None only_tree (cond b None (Some ts))) ≡ Some item
    → map path_levels ps ≡ map leaf_levels (leaves item) → map path_levels (below (list_part (nat_eq (defines i.repetition) 1) m os ∷ []) ps) ≡ map leaf_levels (leaves (group i ts))
outer_item i ts item m os ps true e is so = absurd (cc)
outer_item i no_trees item m os ps false e is so = absurd (cc)
outer_item i (tree t no_trees) item m os ps false e is so = middle_item i t item m os ps e is so
outer_item i (tree t (tree u ts)) item m os ps false e is so = absurd (cc)

node_item : (node item : Tree) (m : Mask) (os : List ℕ) (ps : List (List Part)) → item_node node ≡ Some item → map path_levels ps ≡ map leaf_levels (leaves item)
    → map path_levels (below (list_part (is_optional node) m os ∷ []) ps) ≡ map leaf_levels (leaves node)
node_item (leaf i p) item m os ps is so = absurd (cc)
node_item (group i ts) item m os ps is so = outer_item i ts item m os ps (is_repeated i) refl is so

-- ---- a struct

field_gain : Bool → ℕ × ℕ → ℕ × ℕ
field_gain b n = (up b n.0, n.1)

under_one : (i : Info) → is_repeated i ≡ false → (l : Leaf) → leaf_levels (under i l) ≡ field_gain (nat_eq (defines i.repetition) 1) (leaf_levels l)
unfolding field_gain
under_one i e l =
    let n = not_repeated i.repetition e (leaf_levels l).0 in
    let second : (leaf_levels (under i l)).1 ≡ (leaf_levels l).1 = omega (arith, n.1) in
    ap₂ (λ x y. (x, y)) (sym n.0) second

group_levels : (i : Info) (ts nodes : Trees) (m : Mask) (n : ℕ) (ps : List (List Part)) (b : Bool) → is_repeated i ≡ b → cond b None (Some ts) ≡ Some nodes → map path_levels ps ≡ map leaf_levels (leaves_of nodes)
    → map path_levels (below (struct_part (nat_eq (defines i.repetition) 1) m n ∷ []) ps) ≡ map leaf_levels (leaves (group i ts))
unfolding field_gain
group_levels i ts nodes m n ps true e is so = absurd (cc)
group_levels i ts nodes m n ps false e is so =
    all_paths (λ p. struct_part (nat_eq (defines i.repetition) 1) m n ∷ p) (field_gain (nat_eq (defines i.repetition) 1)) (λ p. refl) ps
    ∙ ap (map (field_gain (nat_eq (defines i.repetition) 1))) (so ∙ ap (λ u. map leaf_levels (leaves_of u)) (sym (same_some ts nodes is)))
    ∙ sym (all_leaves (under i) (field_gain (nat_eq (defines i.repetition) 1)) (under_one i e) (leaves_of ts))

node_fields : (node : Tree) (nodes : Trees) (m : Mask) (n : ℕ) (ps : List (List Part)) → field_nodes node ≡ Some nodes → map path_levels ps ≡ map leaf_levels (leaves_of nodes)
    → map path_levels (below (struct_part (is_optional node) m n ∷ []) ps) ≡ map leaf_levels (leaves node)
node_fields (leaf i p) nodes m n ps is so = absurd (cc)
node_fields (group i ts) nodes m n ps is so = group_levels i ts nodes m n ps (is_repeated i) refl is so

-- ---- a leaf

if_none : (b : Bool) → cond b None differs ≡ None → b ≡ true
if_none true e = refl
if_none false e = absurd (cc)

not_true : (b : Bool) → not b ≡ true → b ≡ false
not_true true e = absurd (true≢false (sym e))
not_true false e = refl

one_leaf : (node : Tree) → leaf_misfit node ≡ None → (up (is_optional node) 0, 0) ∷ [] ≡ map leaf_levels (leaves node)
one_leaf (leaf i p) e =
    let n = not_repeated i.repetition (not_true _ (if_none _ e)) 0 in
    let first : up (nat_eq (defines i.repetition) 1) 0 ≡ defines i.repetition + 0 = n.0 in
    let second : 0 ≡ repeats i.repetition + 0 = omega (arith, n.1) in
    ap₂ (λ x y. (x, y) ∷ []) first second
one_leaf (group i ts) e = absurd (cc)

-- ---- an array

counted_none : (b : Bool) (o : Option Error) → cond b o differs ≡ None → o ≡ None
counted_none true o e = e
counted_none false o e = absurd (cc)

first_none : (a b : Option Error) → first_of_two a b ≡ None → a ≡ None
first_none (Some x) b e = absurd (cc)
first_none None b e = refl

second_none : (a b : Option Error) → first_of_two a b ≡ None → b ≡ None
second_none (Some x) b e = absurd (cc)
second_none None b e = e

list_node : (c : ArrayTree) (m : Mask) (os : List ℕ) (node : Tree) (o : Option Tree) → item_node node ≡ o → given differs (misfit c) o ≡ None → ((item : Tree) → misfit c item ≡ None → map path_levels (paths c item) ≡ map leaf_levels (leaves item))
    → map path_levels (below (list_part (is_optional node) m os ∷ []) (given [] (paths c) o)) ≡ map leaf_levels (leaves node)
list_node c m os node None is e next = absurd (cc)
list_node c m os node (Some item) is e next = node_item node item m os (paths c item) is (next item e)

struct_node : (cs : ArrayTrees) (m : Mask) (node : Tree) (o : Option Trees) → field_nodes node ≡ o → given differs (counted (count_arrays cs) (misfits cs)) o ≡ None
    → ((nodes : Trees) → misfits cs nodes ≡ None → map path_levels (paths_in cs nodes) ≡ map leaf_levels (leaves_of nodes))
    → map path_levels (below (struct_part (is_optional node) m (first_len cs) ∷ []) (given [] (paths_in cs) o)) ≡ map leaf_levels (leaves node)
struct_node cs m node None is e next = absurd (cc)
struct_node cs m node (Some nodes) is e next = node_fields node nodes m (first_len cs) (paths_in cs nodes) is (next nodes (counted_none _ _ e))

mutual
  pub have_levels : PathsHaveLevels
  have_levels (null_array t n) node e = one_leaf node e
  have_levels (leaf_array t vs m) node e = one_leaf node e
  have_levels (list_array t os c m) node e = list_node c m os node (item_node node) refl e (λ item k. have_levels c item k)
  have_levels (fixed_list_array t w n c m) node e = absurd (cc)
  have_levels (struct_array t cs m) node e = struct_node cs m node (field_nodes node) refl e (λ nodes k. fields_have cs nodes k)
  have_levels (dictionary_array t ks c m) node e = one_leaf node e

  fields_have : (cs : ArrayTrees) (nodes : Trees) → misfits cs nodes ≡ None → map path_levels (paths_in cs nodes) ≡ map leaf_levels (leaves_of nodes)
  fields_have no_arrays no_trees e = refl
  fields_have no_arrays (tree node nodes) e = absurd (cc)
  fields_have (more_arrays c cs) no_trees e = absurd (cc)
  fields_have (more_arrays c cs) (tree node nodes) e =
      map-append path_levels (paths c node) (paths_in cs nodes)
      ∙ rw (have_levels c node (first_none (misfit c node) (misfits cs nodes) e), fields_have cs nodes (second_none (misfit c node) (misfits cs nodes) e)) (sym (map-append leaf_levels (leaves node) (leaves_of nodes)))
