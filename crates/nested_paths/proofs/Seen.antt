-- The paths of an array are what is seen of its slots.
use Rattle.std.proofs.Common.{◌≡◌, ℕ, zero, suc, ◌+◌, ◌-◌, ◌≤◌, ◌<◌, Bool, true, false, cond, Option, Some, None, List, [], ◌∷◌, map, length, get_or, refl, sym, ap, ◌∙◌, arith}
use Rattle.shredding.specs.Along.{along, thin}
use Rattle.shredding.specs.Parts as P
use Rattle.shredding.specs.Parts.{Part, leaf_part, list_part, struct_part, keeps, is_present, slot_count, slots_from, path_way, MaskFits}
use Rattle.shredding.specs.Shape.{Shapes, Way, at_leaf, in_list, in_struct, one_on, ways, ways_of}
use Rattle.shredding.specs.Slot as S
use Rattle.shredding.specs.Slot.{Slot, null, value, items, fields, Slots, no_slots, slot, slots_of, list_of}
use Rattle.shredding.proofs.Along.{list_of-slots_of, seen_along}
use Rattle.columns_base.specs.declared.error.Error.{Error}
use Rattle.columns_slots.specs.Tree.{Mask, ArrayTree, null_array, leaf_array, list_array, fixed_list_array, struct_array, dictionary_array, ArrayTrees, no_arrays, more_arrays}
use Rattle.columns_slots.specs.Slots.{slot_at, slots_at, slots, tree_len, first_len, count_arrays, mask_of, masked, IsPlaces, IsSound, AreSound}
use Rattle.columns_slots.proofs.Made.{places_last}
use Rattle.columns_slots.proofs.Sound.{some_place}
use Rattle.columns_slots.proofs.Rows.{slots_counted}
use Rattle.levels.specs.InBounds.{AreWithin, bounded_slot, bounded_slots}
use Rattle.levels.specs.Ranges.{leaf_count_or}
use Rattle.pq_tree.specs.Tree.{Tree, Trees, no_trees, tree}
use Rattle.nested_paths.specs.Laws.{PathsAreSeen}
use Rattle.nested_paths.specs.Leaves.{array_leaves, leaves_in}
use Rattle.nested_paths.specs.Nodes.{given, is_optional, item_node, field_nodes}
use Rattle.nested_paths.specs.PathLeaf.{leaf_mask, is_leaf_optional}
use Rattle.nested_paths.specs.Paths.{first_of_two, differs, counted, misfit, misfits, paths, paths_in, below}
use Rattle.nested_paths.specs.Seen.{read_by, read_all, leaf_shape, shape_by, shapes_by, leaf_slot, IsSeen, AreSeen}
use Rattle.nested_paths.proofs.Sides.{All3, map_two, map_one, join}

-- A path over len positions, each of which is what is seen of a slot along the way.
pub record IsSeenAt (len : ℕ) (at : ℕ → Slot) (w : Way) (parts : List Part) (last : ArrayTree) : Type 0 where
  pub some : 0 < length parts
  pub within : AreWithin parts
  pub count : slot_count parts ≡ len
  pub leaf_count : (n : ℕ) → leaf_count_or n parts ≡ tree_len last
  pub masks : is_leaf_optional parts ≡ true → (i : ℕ) → i < tree_len last → keeps (leaf_mask parts) i ≡ keeps (mask_of last) i
  pub way : path_way parts ≡ thin w
  pub slot : (i : ℕ) → bounded_slot (leaf_slot last) parts i ≡ along w (at i)

-- ---- masks

fits_too : (m : Mask) (n : ℕ) → MaskFits m n → P.MaskFits m n
fits_too None n h = tt
fits_too (Some bits) n h = h

-- the mask that is left is the one that is looked at
kept : (b : Bool) (m : Mask) (i : ℕ) → keeps (cond b m None) i ≡ is_present b m i
kept true m i = refl
kept false m i = refl

-- ---- tables

same_table : (f g : ℕ → Slot) (a n : ℕ) → ((i : ℕ) → f i ≡ g i) → slots_from f a n ≡ slots_from g a n
unfolding slots_from
same_table f g a zero e = refl
same_table f g a (suc n) e = rw (e a, same_table f g (a + 1) n e) refl

along_table : (w : Way) (f : ℕ → Slot) (a n : ℕ) → map (along w) (slots_from f a n) ≡ slots_from (λ i. along w (f i)) a n
unfolding slots_from
along_table w f a zero = refl
along_table w f a (suc n) = ap (λ ss. along w (f a) ∷ ss) (along_table w f (a + 1) n)

-- ---- a list

list_slot : (b k : Bool) (w : Way) (ss ts : List Slot) → ts ≡ map (along w) ss → cond k (items (slots_of ts)) null ≡ along (in_list b w) (cond k (items (slots_of ss)) null)
unfolding along
list_slot b true w ss ts e = ap (λ us. items (slots_of us)) (e ∙ sym (ap (map (along w)) (list_of-slots_of ss)))
list_slot b false w ss ts e = refl

items_seen : (b : Bool) (w : Way) (f g : ℕ → Slot) (a n : ℕ) (k l : Bool) → ((i : ℕ) → f i ≡ along w (g i)) → k ≡ l
    → cond k (items (slots_of (slots_from f a n))) null ≡ along (in_list b w) (cond l (items (slots_of (slots_from g a n))) null)
items_seen b w f g a n k l e is =
    rw is (list_slot b l w (slots_from g a n) (slots_from f a n) (same_table f (λ i. along w (g i)) a n e ∙ sym (along_table w g a n)))

last_within : (os : List ℕ) (n : ℕ) → IsPlaces os n → get_or os (length os - 1) 0 ≤ n
last_within os n h = places_last os n (length os - 1) h (omega (arith, some_place os n h))

under_list : (b : Bool) (os : List ℕ) (m : Mask) (n : ℕ) (f : ℕ → Slot) → IsPlaces os n → MaskFits m (length os - 1) → (w : Way) (parts : List Part) (last : ArrayTree)
    → IsSeenAt n f w parts last
    → IsSeenAt (length os - 1) (λ i. masked (cond b m None) i (items (slots_of (slots_from f (get_or os i 0) (get_or os (i + 1) 0 - get_or os i 0))))) (in_list b w) (list_part b m os ∷ parts) last
unfolding bounded_slot
under_list b os m n f places fits w parts last h =
    record {
      some = omega arith;
      within = ((fits_too m (length os - 1) fits, omega (arith, last_within os n places, h.count), h.some), h.within);
      count = refl;
      leaf_count = h.leaf_count;
      masks = h.masks;
      way = ap (in_list b) h.way;
      slot = λ i. items_seen b w (bounded_slot (leaf_slot last) parts) f (get_or os i 0) (get_or os (i + 1) 0 - get_or os i 0) _ _ h.slot (sym (kept b m i));
    }

-- ---- a struct

field_slot : (b k : Bool) (j : ℕ) (w : Way) (ss : Slots) (s : Slot) → s ≡ along w (S.slot_at ss j) → cond k (fields (slot s no_slots)) null ≡ along (in_struct b j w) (cond k (fields ss) null)
unfolding along
field_slot b true j w ss s e = ap (λ t. fields (slot t no_slots)) e
field_slot b false j w ss s e = refl

under_struct : (b : Bool) (m : Mask) (n : ℕ) (at : ℕ → Slots) → MaskFits m n → (p : ℕ × Way) (parts : List Part) (last : ArrayTree)
    → IsSeenAt n (λ i. S.slot_at (at i) p.0) p.1 parts last
    → IsSeenAt n (λ i. masked (cond b m None) i (fields (at i))) (in_struct b p.0 p.1) (struct_part b m n ∷ parts) last
unfolding bounded_slot
under_struct b m n at fits p parts last h =
    record {
      some = omega arith;
      within = ((fits_too m n fits, h.count, h.some), h.within);
      count = refl;
      leaf_count = h.leaf_count;
      masks = h.masks;
      way = ap (in_struct b zero) h.way;
      slot = λ i. rw (kept b m i) (field_slot b (is_present b m i) p.0 p.1 (at i) (bounded_slot (leaf_slot last) parts i) (h.slot i));
    }

-- ---- a leaf

leaf_seen : (b k : Bool) (s : Slot) → along (at_leaf b) s ≡ s → cond k s null ≡ along (at_leaf b) (cond k s null)
unfolding along
leaf_seen b true s e = sym e
leaf_seen b false s e = refl

-- what is seen of an entry
entry_seen : (b k : Bool) (s : Slot) → cond k (along (at_leaf true) s) null ≡ along (at_leaf b) (cond k s null)
unfolding along
entry_seen b true null = refl
entry_seen b true (value v) = refl
entry_seen b true (items ss) = refl
entry_seen b true (fields ss) = refl
entry_seen b false s = refl

value_seen : (b k : Bool) (v : S.Value) → cond k (value v) null ≡ along (at_leaf b) (cond k (value v) null)
unfolding along
value_seen b true v = refl
value_seen b false v = refl

null_seen : (b k : Bool) → cond k null null ≡ along (at_leaf b) null
unfolding along
null_seen b true = refl
null_seen b false = refl

one_leaf : (b : Bool) (m : Mask) (n : ℕ) (at : ℕ → Slot) (last : ArrayTree) → tree_len last ≡ n → m ≡ mask_of last → MaskFits m n → ((i : ℕ) → cond (is_present b m i) (leaf_slot last i) null ≡ along (at_leaf b) (at i))
    → IsSeenAt n at (at_leaf b) (leaf_part b m n ∷ []) last
unfolding bounded_slot
one_leaf b m n at last len same fits e =
    record {
      some = omega arith;
      within = ((fits_too m n fits, refl), tt);
      count = refl;
      leaf_count = λ k. sym len;
      masks = λ o i l. ap (λ k. keeps k i) same;
      way = refl;
      slot = e;
    }

-- ---- what goes together

no_second : (a b : Option Error) → first_of_two a b ≡ None → b ≡ None
no_second (Some e) b k = absurd (cc)
no_second None b k = k

no_first : (a b : Option Error) → first_of_two a b ≡ None → a ≡ None
no_first (Some e) b k = absurd (cc)
no_first None b k = refl

if_true : (b : Bool) (o : Option Error) → cond b o differs ≡ None → o ≡ None
if_true true o k = k
if_true false o k = absurd (cc)

-- ---- an array

list_paths : (b : Bool) (t : _) (os : List ℕ) (c : ArrayTree) (m : Mask) (node : Tree) (o : Option Tree) → IsPlaces os (tree_len c) → MaskFits m (length os - 1) → given differs (misfit c) o ≡ None
    → ((item : Tree) → misfit c item ≡ None → All3 (IsSeenAt (tree_len c) (slot_at (read_by c item))) (ways (shape_by c item)) (paths c item) (array_leaves c))
    → All3 (IsSeenAt (length os - 1) (slot_at (list_array t os (given c (read_by c) o) (cond b m None)))) (map (in_list b) (ways (given (leaf_shape c node) (shape_by c) o)))
    (below (list_part b m os ∷ []) (given [] (paths c) o)) (array_leaves c)
list_paths b t os c m node None places fits e next = absurd (cc)
list_paths b t os c m node (Some item) places fits e next =
    map_two _ _ (in_list b) (λ path. list_part b m os ∷ path) (under_list b os m (tree_len c) (slot_at (read_by c item)) places fits) (ways (shape_by c item)) (paths c item) (array_leaves c) (next item e)

struct_paths : (b : Bool) (t : _) (cs : ArrayTrees) (m : Mask) (o : Option Trees) → MaskFits m (first_len cs) → given differs (counted (count_arrays cs) (misfits cs)) o ≡ None
    → ((nodes : Trees) → misfits cs nodes ≡ None → All3 (λ p. IsSeenAt (first_len cs) (λ i. S.slot_at (slots_at (read_all cs nodes) i) p.0) p.1) (ways_of (shapes_by cs nodes)) (paths_in cs nodes) (leaves_in cs))
    → All3 (IsSeenAt (first_len cs) (slot_at (struct_array t (given cs (read_all cs) o) (cond b m None)))) (map (λ p. in_struct b p.0 p.1) (ways_of (given Shapes.no_shapes (shapes_by cs) o)))
    (below (struct_part b m (first_len cs) ∷ []) (given [] (paths_in cs) o)) (leaves_in cs)
struct_paths b t cs m None fits e next = absurd (cc)
struct_paths b t cs m (Some nodes) fits e next =
    map_two _ _ (λ (p : ℕ × Way). in_struct b p.0 p.1) (λ path. struct_part b m (first_len cs) ∷ path) (under_struct b m (first_len cs) (slots_at (read_all cs nodes)) fits) (ways_of (shapes_by cs nodes)) (paths_in cs nodes) (leaves_in cs)
    (next nodes (if_true _ _ e))

first_field : (n : ℕ) (c : ArrayTree) (cs : ArrayTrees) (node : Tree) (nodes : Trees) → tree_len c ≡ n → (w : Way) (parts : List Part) (last : ArrayTree)
    → IsSeenAt (tree_len c) (slot_at (read_by c node)) w parts last → IsSeenAt n (λ i. S.slot_at (slots_at (read_all (more_arrays c cs) (tree node nodes)) i) 0) w parts last
first_field n c cs node nodes len w parts last h =
    record { some = h.some; within = h.within; count = h.count ∙ len; leaf_count = h.leaf_count; masks = h.masks; way = h.way; slot = h.slot }

other_fields : (n : ℕ) (c : ArrayTree) (cs : ArrayTrees) (node : Tree) (nodes : Trees) → (p : ℕ × Way) (parts : List Part) (last : ArrayTree)
    → IsSeenAt n (λ i. S.slot_at (slots_at (read_all cs nodes) i) p.0) p.1 parts last → IsSeenAt n (λ i. S.slot_at (slots_at (read_all (more_arrays c cs) (tree node nodes)) i) (suc p.0)) p.1 parts last
other_fields n c cs node nodes p parts last h =
    record { some = h.some; within = h.within; count = h.count; leaf_count = h.leaf_count; masks = h.masks; way = h.way; slot = h.slot }

len_given : (cs : ArrayTrees) (o : Option Trees) → ((nodes : Trees) → first_len (read_all cs nodes) ≡ first_len cs) → first_len (given cs (read_all cs) o) ≡ first_len cs
len_given cs None h = refl
len_given cs (Some nodes) h = h nodes

mutual
  pub seen : (a : ArrayTree) (node : Tree) → IsSound a → misfit a node ≡ None → All3 (IsSeenAt (tree_len a) (slot_at (read_by a node))) (ways (shape_by a node)) (paths a node) (array_leaves a)
  seen (null_array t n) node s e = (one_leaf (is_optional node) None n _ (null_array t n) refl refl tt (λ i. null_seen (is_optional node) (is_present (is_optional node) None i)), tt)
  seen (leaf_array t vs m) node s e =
      (one_leaf (is_optional node) m (length vs) _ (leaf_array t vs m) refl refl s.0 (λ i. rw (kept (is_optional node) m i) (value_seen (is_optional node) (is_present (is_optional node) m i) _)), tt)
  seen (list_array t os c m) node s e =
      list_paths (is_optional node) t os c m node (item_node node) s.0 s.1 e (λ item k. seen c item s.2 k)
  seen (fixed_list_array t w n c m) node s e = absurd (cc)
  seen (struct_array t cs m) node s e =
      struct_paths (is_optional node) t cs m (field_nodes node) s.1 e (λ nodes k. seen_all (first_len cs) cs nodes s.0 k)
  seen (dictionary_array t ks c m) node s e =
      (one_leaf (is_optional node) m (length ks) _ (dictionary_array t ks c m) refl refl s.0 (λ i. rw (kept (is_optional node) m i) (entry_seen (is_optional node) (is_present (is_optional node) m i) _)), tt)

  seen_all : (n : ℕ) (cs : ArrayTrees) (nodes : Trees) → AreSound n cs → misfits cs nodes ≡ None
      → All3 (λ p. IsSeenAt n (λ i. S.slot_at (slots_at (read_all cs nodes) i) p.0) p.1) (ways_of (shapes_by cs nodes)) (paths_in cs nodes) (leaves_in cs)
  seen_all n no_arrays no_trees s e = tt
  seen_all n no_arrays (tree node nodes) s e = absurd (cc)
  seen_all n (more_arrays c cs) no_trees s e = absurd (cc)
  seen_all n (more_arrays c cs) (tree node nodes) s e =
      join _ (map (λ w. (zero, w)) (ways (shape_by c node))) (map one_on (ways_of (shapes_by cs nodes))) (paths c node) (paths_in cs nodes) (array_leaves c) (leaves_in cs)
      (map_one _ _ (λ w. (zero, w)) (first_field n c cs node nodes s.1) (ways (shape_by c node)) (paths c node) (array_leaves c) (seen c node s.0 (no_first _ _ e)))
      (map_one _ _ one_on (other_fields n c cs node nodes) (ways_of (shapes_by cs nodes)) (paths_in cs nodes) (leaves_in cs) (seen_all n cs nodes s.2 (no_second _ _ e)))

-- ---- the slots of all positions

mutual
  len_read : (a : ArrayTree) (node : Tree) → tree_len (read_by a node) ≡ tree_len a
  len_read (null_array t n) node = refl
  len_read (leaf_array t vs m) node = refl
  len_read (list_array t os c m) node = refl
  len_read (fixed_list_array t w n c m) node = refl
  len_read (struct_array t cs m) node = len_given cs (field_nodes node) (len_all cs)
  len_read (dictionary_array t ks c m) node = refl

  len_all : (cs : ArrayTrees) (nodes : Trees) → first_len (read_all cs nodes) ≡ first_len cs
  len_all no_arrays nodes = refl
  len_all (more_arrays c cs) no_trees = refl
  len_all (more_arrays c cs) (tree node nodes) = len_read c node

seen_rows : (n : ℕ) (u : ArrayTree) (w : Way) (parts : List Part) (last : ArrayTree) → tree_len u ≡ n → IsSeenAt n (slot_at u) w parts last → IsSeen (slots u) w parts last
unfolding bounded_slots
seen_rows n u w parts last len h =
    let all : bounded_slots (leaf_slot last) parts ≡ map (along w) (slots u) =
    rw (h.count, len) (same_table (bounded_slot (leaf_slot last) parts) (λ i. along w (slot_at u i)) 0 n h.slot ∙ sym (along_table w (slot_at u) 0 n)) in
    record {
      in_bounds = record { some = h.some; fits = h.within };
      count = h.count ∙ sym (slots_counted u ∙ len);
      leaf = record { count = h.leaf_count 0; masks = h.masks };
      way = h.way;
      slots = all;
      column = rw (h.way, all) (seen_along w (slots u));
    }

all_seen : (n : ℕ) (u : ArrayTree) → tree_len u ≡ n → (ws : List Way) (ps : List (List Part)) (ls : List ArrayTree) → All3 (IsSeenAt n (slot_at u)) ws ps ls → AreSeen (slots u) ws ps ls
all_seen n u len [] [] [] h = tt
all_seen n u len [] [] (l ∷ ls) h = absurd h
all_seen n u len [] (p ∷ ps) ls h = absurd h
all_seen n u len (w ∷ ws) [] ls h = absurd h
all_seen n u len (w ∷ ws) (p ∷ ps) [] h = absurd h
all_seen n u len (w ∷ ws) (p ∷ ps) (l ∷ ls) h = (seen_rows n u w p l len h.0, all_seen n u len ws ps ls h.1)

pub paths_are_seen : PathsAreSeen
paths_are_seen a node s e =
    all_seen (tree_len a) (read_by a node) (len_read a node) (ways (shape_by a node)) (paths a node) (array_leaves a) (seen a node s e)
