-- The paths and leaf arrays of an array are as many as the leaves of its tree.
use Rattle.std.proofs.Common.{◌≡◌, suc, Bool, true, false, cond, ◌==◌, ◌||◌, Option, Some, None, List, [], ◌∷◌, length, map, refl, sym, ap, ◌∙◌}
use Rattle.std.proofs.lemmas.List.{length-map}
use Rattle.shredding.specs.Parts.{Part}
use Rattle.shredding.specs.Shape.{Way}
use Rattle.shredding.specs.Slot.{Slot}
use Rattle.columns_base.specs.declared.error.Error.{Error}
use Rattle.columns_slots.specs.Slots.{count_arrays}
use Rattle.columns_slots.specs.Tree.{ArrayTree, null_array, leaf_array, list_array, fixed_list_array, struct_array, dictionary_array, ArrayTrees, no_arrays, more_arrays}
use Rattle.nested_paths.specs.Leaves.{has_fixed_list, have_fixed_list}
use Rattle.nested_paths.specs.Nodes.{given, item_node, field_nodes}
use Rattle.nested_paths.specs.Paths.{counted, differs, first_of_two, misfit, misfits}
use Rattle.nested_paths.specs.Seen.{AreSeen}
use Rattle.pq_tree.specs.Tree.{Tree, Trees, no_trees, tree, count_trees}

pub seen_long : (rows : List Slot) (ws : List Way) (paths : List (List Part)) (leaves : List ArrayTree) → AreSeen rows ws paths leaves → length paths ≡ length leaves
seen_long rows [] [] [] h = refl
seen_long rows (w ∷ ws) (p ∷ ps) (a ∷ as_) h = ap suc (seen_long rows ws ps as_ h.1)
seen_long rows [] [] (a ∷ as_) h = absurd h
seen_long rows [] (p ∷ ps) as_ h = absurd h
seen_long rows (w ∷ ws) [] as_ h = absurd h
seen_long rows (w ∷ ws) (p ∷ ps) [] h = absurd h

pub mapped_long : {A B C : Type 0} (f : A → C) (g : B → C) (xs : List A) (ys : List B) → map f xs ≡ map g ys → length xs ≡ length ys
mapped_long f g xs ys e = sym (length-map xs f) ∙ (ap length e ∙ length-map ys g)

-- ---- where array and tree go together there are no lists of a fixed size

first_none : (a b : Option Error) → first_of_two a b ≡ None → a ≡ None
first_none None b e = refl
first_none (Some x) b e = absurd cc

then_none : (a b : Option Error) → first_of_two a b ≡ None → b ≡ None
then_none None b e = e
then_none (Some x) b e = absurd cc

neither : (a b : Bool) → a ≡ false → b ≡ false → a || b ≡ false
neither false b e f = f
neither true b e f = e

below_list : (c : ArrayTree) (o : Option Tree) → ((node : Tree) → misfit c node ≡ None → has_fixed_list c ≡ false) → given differs (misfit c) o ≡ None → has_fixed_list c ≡ false
below_list c (Some node) f e = f node e
below_list c None f e = absurd cc

by_count : (b : Bool) (cs : ArrayTrees) (nodes : Trees) → ((nodes : Trees) → misfits cs nodes ≡ None → have_fixed_list cs ≡ false) → cond b (misfits cs nodes) differs ≡ None → have_fixed_list cs ≡ false
by_count true cs nodes f e = f nodes e
by_count false cs nodes f e = absurd cc

below_struct : (cs : ArrayTrees) (o : Option Trees) → ((nodes : Trees) → misfits cs nodes ≡ None → have_fixed_list cs ≡ false) → given differs (counted (count_arrays cs) (misfits cs)) o ≡ None → have_fixed_list cs ≡ false
below_struct cs (Some nodes) f e = by_count (count_arrays cs == count_trees nodes) cs nodes f e
below_struct cs None f e = absurd cc

mutual
  pub none_fixed : (a : ArrayTree) (node : Tree) → misfit a node ≡ None → has_fixed_list a ≡ false
  none_fixed (null_array t n) node e = refl
  none_fixed (leaf_array t vs m) node e = refl
  none_fixed (list_array t os c m) node e = below_list c (item_node node) (λ n h. none_fixed c n h) e
  none_fixed (fixed_list_array t w n c m) node e = absurd cc
  none_fixed (struct_array t cs m) node e = below_struct cs (field_nodes node) (λ ns h. none_are_fixed cs ns h) e
  none_fixed (dictionary_array t ks c m) node e = refl

  none_are_fixed : (cs : ArrayTrees) (nodes : Trees) → misfits cs nodes ≡ None → have_fixed_list cs ≡ false
  none_are_fixed no_arrays nodes e = refl
  none_are_fixed (more_arrays c cs) no_trees e = absurd cc
  none_are_fixed (more_arrays c cs) (tree node nodes) e =
      neither (has_fixed_list c) (have_fixed_list cs) (none_fixed c node (first_none (misfit c node) (misfits cs nodes) e)) (none_are_fixed cs nodes (then_none (misfit c node) (misfits cs nodes) e))
