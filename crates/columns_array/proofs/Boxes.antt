-- A list of boxes that is cut one box after another.
use Rattle.std.proofs.Common.{◌≡◌, ℕ, zero, suc, ◌+◌, ◌≤◌, ◌<◌, List, [], ◌∷◌, length, take, get_or, slice_set, ◌++◌, add-one, refl, ap, sym, ◌∙◌, arith}
use Rattle.std.proofs.lemmas.List.{take_more}
use Rattle.columns_slots.specs.Tree.{ArrayTree, null_array, ArrayTrees, no_arrays, more_arrays}
use Rattle.columns_slots.specs.Slots.{tree_len, cut, cut_all, AreLong, tree_size, trees_size}
use Rattle.columns_core.specs.Tree.{t_null}
use Rattle.columns_array.specs.Boxed.{boxed, all_boxed}
use Rattle.columns_array.specs.declared.arrays.ArrayBox.{ArrayBox}

abbrev first_tree : ArrayTrees → ArrayTree
first_tree no_arrays = null_array t_null 0
first_tree (more_arrays c cs) = c

abbrev later_trees : ArrayTrees → ArrayTrees
later_trees no_arrays = no_arrays
later_trees (more_arrays c cs) = cs

set_step_suc : (xs ys : List ArrayBox) (i : ℕ) (b d : ArrayBox) (o n : ℕ) → i < length xs → length xs ≡ length ys → all_boxed (take i xs) ≡ cut_all (all_boxed (take i ys)) o n
    → boxed b ≡ cut (boxed (get_or ys i d)) o n → all_boxed (take (suc i) (slice_set xs i b)) ≡ cut_all (all_boxed (take (suc i) ys)) o n
set_step_suc [] ys i b d o n h e so is = absurd (omega (arith, h))
set_step_suc (x ∷ xs) [] i b d o n h e so is = absurd (omega (arith, e))
set_step_suc (x ∷ xs) (y ∷ ys) zero b d o n h e so is = ap (λ t. more_arrays t no_arrays) is
set_step_suc (x ∷ xs) (y ∷ ys) (suc i) b d o n h e so is =
    rw (ap first_tree so, set_step_suc xs ys i b d o n (omega (arith, h)) (omega (arith, e)) (ap later_trees so) is) refl

pub set_step : (xs ys : List ArrayBox) (i : ℕ) (b d : ArrayBox) (o n : ℕ) → i < length xs → length xs ≡ length ys → all_boxed (take i xs) ≡ cut_all (all_boxed (take i ys)) o n
    → boxed b ≡ cut (boxed (get_or ys i d)) o n → all_boxed (take (i + 1) (slice_set xs i b)) ≡ cut_all (all_boxed (take (i + 1) ys)) o n
set_step xs ys i b d o n h e so is = rw (add-one i) (set_step_suc xs ys i b d o n h e so is)

pub long_at : (ys : List ArrayBox) (k : ℕ) (d : ArrayBox) (n : ℕ) → AreLong n (all_boxed ys) → k < length ys → n ≤ tree_len (boxed (get_or ys k d))
long_at [] k d n a h = absurd (omega (arith, h))
long_at (y ∷ ys) zero d n a h = a.0
long_at (y ∷ ys) (suc k) d n a h = long_at ys k d n a.1 (omega (arith, h))

pub size_at : (ys : List ArrayBox) (k : ℕ) (d : ArrayBox) → k < length ys → tree_size (boxed (get_or ys k d)) ≤ trees_size (all_boxed ys)
size_at [] k d h = absurd (omega (arith, h))
size_at (y ∷ ys) zero d h = omega arith
size_at (y ∷ ys) (suc k) d h = omega (arith, size_at ys k d (omega (arith, h)))

-- ---- a list of boxes that grows
abbrev pub trees_more : ArrayTrees → ArrayTree → ArrayTrees
trees_more no_arrays c = more_arrays c no_arrays
trees_more (more_arrays d cs) c = more_arrays d (trees_more cs c)

pub boxes_more : (xs : List ArrayBox) (b : ArrayBox) → all_boxed (xs ++ b ∷ []) ≡ trees_more (all_boxed xs) (boxed b)
boxes_more [] b = refl
boxes_more (x ∷ xs) b = ap (λ t. more_arrays (boxed x) t) (boxes_more xs b)

-- one more copy
pub copy_step : (xs ys : List ArrayBox) (i : ℕ) (b d : ArrayBox) → i < length ys → all_boxed xs ≡ all_boxed (take i ys) → boxed b ≡ boxed (get_or ys i d) → all_boxed (xs ++ b ∷ []) ≡ all_boxed (take (i + 1) ys)
copy_step xs ys i b d h e is = boxes_more xs b ∙ rw (e, is, take_more ys i d h) (sym (boxes_more (take i ys) (get_or ys i d)))
