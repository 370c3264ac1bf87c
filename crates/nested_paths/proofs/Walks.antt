-- Steps of the walks to the leaves.
use Rattle.std.proofs.Common.{◌≡◌, ℕ, zero, suc, ◌+◌, ◌≤◌, ◌<◌, Bool, true, false, ◌||◌, ◌==◌, ◌≢◌, ◌⊎◌, cond, Option, Some, None, List, [], ◌∷◌, ◌++◌, length, drop, get_or, Result, Ok, Err, inl, inr, append_assoc, refl, sym, ap, ◌∙◌, arith}
use Rattle.std.proofs.lemmas.Bool.{eq-eqb}
use Rattle.std.proofs.lemmas.Bool.Decides.{eqb_tells}
use Rattle.std.proofs.lemmas.List.{at_drop_more}
use Rattle.shredding.specs.Parts.{Part}
use Rattle.columns_base.specs.declared.error.Error.{Error}
use Rattle.columns_slots.specs.Tree.{ArrayTree, list_array, struct_array}
use Rattle.columns_slots.specs.Slots.{type_of, mask_of, offsets_of, tree_size, trees_size, count_arrays}
use Rattle.columns_array.specs.Boxed.{boxed, all_boxed}
use Rattle.columns_array.specs.declared.arrays.ArrayBox.{ArrayBox}
use Rattle.pq_tree.specs.Tree.{Tree, count_trees}
use Rattle.pq_tree.specs.TreeViews.{trees_view}
use Rattle.pq_tree.specs.declared.types.ParquetType.{ParquetType}
use Rattle.nested_paths.specs.Leaves.{array_leaves, leaves_in, has_fixed_list, have_fixed_list}
use Rattle.nested_paths.specs.Nodes.{only_tree, given, is_optional, item_node, field_nodes}
use Rattle.nested_paths.specs.Paths.{differs, counted, part_at, misfit, misfits, below, paths, paths_in}
use Rattle.nested_paths.specs.Taken.{TakesPaths}

-- ---- the only child

pub not_one : (ts : List ParquetType) → length ts ≢ 1 → only_tree (trees_view ts) ≡ None
not_one [] e = refl
not_one (t ∷ []) e = absurd (e refl)
not_one (t ∷ u ∷ ts) e = refl

-- ---- an element of a list

pub size_at : (xs : List ArrayBox) (k : ℕ) (x : ArrayBox) → k < length xs → tree_size (boxed (get_or xs k x)) ≤ trees_size (all_boxed xs)
size_at [] k x h = absurd (omega (arith, h))
size_at (y ∷ xs) zero x h = omega arith
size_at (y ∷ xs) (suc k) x h = omega (arith, size_at xs k x (omega (arith, h)))

-- ---- leaves

pub leaves_step : (xs : List ArrayBox) (k : ℕ) (x : ArrayBox) (old new all : List ArrayTree) → k < length xs → old ++ leaves_in (all_boxed (drop k xs)) ≡ all
    → new ≡ old ++ array_leaves (boxed (get_or xs k x)) → new ++ leaves_in (all_boxed (drop (k + 1) xs)) ≡ all
leaves_step xs k x old new all h so grown =
    rw grown (append_assoc old (array_leaves (boxed (get_or xs k x))) (leaves_in (all_boxed (drop (k + 1) xs)))
    ∙ sym (at_drop_more (λ ys. old ++ leaves_in (all_boxed ys)) xs k x h) ∙ so)

pub fixed_step : (xs : List ArrayBox) (k : ℕ) (x : ArrayBox) (all : Bool) → k < length xs → have_fixed_list (all_boxed (drop k xs)) ≡ all → has_fixed_list (boxed (get_or xs k x)) ≡ false
    → have_fixed_list (all_boxed (drop (k + 1) xs)) ≡ all
fixed_step xs k x all h so is = ap (λ b. b || have_fixed_list (all_boxed (drop (k + 1) xs))) (sym is) ∙ sym (at_drop_more (λ ys. have_fixed_list (all_boxed ys)) xs k x h) ∙ so

-- ---- paths

abbrev fits_at : List ArrayBox → List ParquetType → Option Error
fits_at xs ns = misfits (all_boxed xs) (trees_view ns)

abbrev paths_at : List ArrayBox → List ParquetType → List (List Part)
paths_at xs ns = paths_in (all_boxed xs) (trees_view ns)

-- ---- the parts of one array

below_below : (parents : List Part) (part : Part) (ps : List (List Part)) → below parents (below (part ∷ []) ps) ≡ below (parents ++ part ∷ []) ps
below_below parents part [] = refl
below_below parents part (p ∷ ps) = rw (below_below parents part ps, append_assoc parents (part ∷ []) p) refl

deeper : (parents path : List Part) (part : Part) (old new inside outside : List (List Part)) (fault other : Option Error) (r : Result (Unit {0}) Error) → path ≡ parents ++ part ∷ [] → outside ≡ below (part ∷ []) inside → other ≡ fault
    → TakesPaths path old new inside fault r → TakesPaths parents old new outside other r
deeper parents path part old new inside outside fault other (Ok u) is out same h =
    (h.0 ∙ ap (λ ps. old ++ ps) (ap (λ q. below q inside) is ∙ sym (below_below parents part inside) ∙ ap (below parents) (sym out)), same ∙ h.1)
deeper parents path part old new inside outside fault other (Err e) is out same (inl m) = inl m
deeper parents path part old new inside outside fault other (Err e) is out same (inr f) = inr (same ∙ f)

pub items_taken : (parents path : List Part) (a c : ArrayTree) (node item : Tree) (old new : List (List Part)) (r : Result (Unit {0}) Error) → a ≡ list_array (type_of a) (offsets_of a) c (mask_of a) → item_node node ≡ Some item
    → path ≡ parents ++ part_at (is_optional node) a ∷ [] → TakesPaths path old new (paths c item) (misfit c item) r → TakesPaths parents old new (paths a node) (misfit a node) r
items_taken parents path a c node item old new r e is path_is h =
    let out : paths a node ≡ below (part_at (is_optional node) a ∷ []) (paths c item) =
    ap (λ b. paths b node) e ∙ ap (λ o. below (part_at (is_optional node) (list_array (type_of a) (offsets_of a) c (mask_of a)) ∷ []) (given [] (paths c) o)) is
    ∙ ap (λ b. below (part_at (is_optional node) b ∷ []) (paths c item)) (sym e) in
    let same : misfit a node ≡ misfit c item = ap (λ b. misfit b node) e ∙ ap (given differs (misfit c)) is in
    deeper parents path (part_at (is_optional node) a) old new (paths c item) (paths a node) (misfit c item) (misfit a node) r path_is out same h

other_count : (n m : ℕ) → (n ≡ m → ⊥) → (n == m) ≡ false
other_count n m e = by (eqb_tells n m)
  where
    by : (((n == m) ≡ true) × (n ≡ m)) ⊎ (((n == m) ≡ false) × (n ≢ m)) → (n == m) ≡ false
    by (inl same) = absurd (e same.1)
    by (inr other) = other.0

pub count_boxed : (xs : List ArrayBox) → count_arrays (all_boxed xs) ≡ length xs
count_boxed [] = refl
count_boxed (x ∷ xs) = omega (arith, count_boxed xs)

pub count_viewed : (ns : List ParquetType) → count_trees (trees_view ns) ≡ length ns
count_viewed [] = refl
count_viewed (n ∷ ns) = ap suc (count_viewed ns)

pub fields_taken : (parents path : List Part) (a : ArrayTree) (xs : List ArrayBox) (node : Tree) (ns : List ParquetType) (old new : List (List Part)) (r : Result (Unit {0}) Error) → a ≡ struct_array (type_of a) (all_boxed xs) (mask_of a)
    → field_nodes node ≡ Some (trees_view ns) → length xs ≡ length ns → path ≡ parents ++ part_at (is_optional node) a ∷ [] → TakesPaths path old new (paths_at xs ns) (fits_at xs ns) r
    → TakesPaths parents old new (paths a node) (misfit a node) r
fields_taken parents path a xs node ns old new r e is len path_is h =
    let cs = all_boxed xs in
    let out : paths a node ≡ below (part_at (is_optional node) a ∷ []) (paths_at xs ns) =
    ap (λ b. paths b node) e ∙ ap (λ o. below (part_at (is_optional node) (struct_array (type_of a) cs (mask_of a)) ∷ []) (given [] (paths_in cs) o)) is
    ∙ ap (λ b. below (part_at (is_optional node) b ∷ []) (paths_at xs ns)) (sym e) in
    let count : (count_arrays cs == count_trees (trees_view ns)) ≡ true = eq-eqb _ _ (count_boxed xs ∙ len ∙ sym (count_viewed ns)) in
    let same : misfit a node ≡ fits_at xs ns =
    ap (λ b. misfit b node) e ∙ ap (given differs (counted (count_arrays cs) (misfits cs))) is ∙ ap (λ b. cond b (fits_at xs ns) differs) count in
    deeper parents path (part_at (is_optional node) a) old new (paths_at xs ns) (paths a node) (fits_at xs ns) (misfit a node) r path_is out same h

pub other_fields : (a : ArrayTree) (xs : List ArrayBox) (node : Tree) (ns : List ParquetType) → a ≡ struct_array (type_of a) (all_boxed xs) (mask_of a) → field_nodes node ≡ Some (trees_view ns) → (length xs ≡ length ns → ⊥) → misfit a node ≡ differs
other_fields a xs node ns e is len =
    let cs = all_boxed xs in
    let count : (count_arrays cs == count_trees (trees_view ns)) ≡ false = other_count _ _ (λ k. len (sym (count_boxed xs) ∙ k ∙ count_viewed ns)) in
    ap (λ b. misfit b node) e ∙ ap (given differs (counted (count_arrays cs) (misfits cs))) is ∙ ap (λ b. cond b (fits_at xs ns) differs) count

-- ---- without parents

pub below_none : (ps : List (List Part)) → below [] ps ≡ ps
below_none [] = refl
below_none (p ∷ ps) = ap (λ qs. p ∷ qs) (below_none ps)
