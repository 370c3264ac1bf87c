-- The columns of an array that is written by the tree of its type.
use Rattle.std.proofs.Common.{◌≡◌, ℕ, zero, suc, ◌+◌, ◌<◌, Bool, true, false, true≢false, cond, nat_eq, ◌==◌, Option, None, Some, List, [], ◌∷◌, ◌++◌, map, refl, sym, ap, subst, ◌∙◌, arith}
use Rattle.std.specs.Prelude.{codes}
use Rattle.std.proofs.lemmas.List.{map-append}
use Rattle.columns_base.specs.declared.error.Error.{Error}
use Rattle.columns_core.specs.Shapes.{base, leaf_type, type_shape}
use Rattle.columns_core.specs.Tree.{TypeTree, t_null, t_list, t_fixed_size_list, t_large_list, t_struct, t_map, t_dictionary, t_extension, field, FieldTrees, no_fields, more_fields}
use Rattle.columns_slots.specs.Slots.{IsSound, AreSound, AreTyped, type_of, first_len, count_arrays}
use Rattle.columns_slots.specs.Tree.{ArrayTree, null_array, leaf_array, list_array, fixed_list_array, struct_array, dictionary_array, ArrayTrees, no_arrays, more_arrays}
use Rattle.columns_slots.specs.Types.{is_leaf, is_null_type, list_item, part_types, entry_type}
use Rattle.nested_paths.specs.Leaves.{array_leaves, leaves_in}
use Rattle.nested_paths.specs.Nodes.{given, is_optional, item_node, field_nodes}
use Rattle.nested_paths.specs.Paths.{misfit, misfits, differs, counted, first_of_two}
use Rattle.nested_paths.specs.Seen.{shape_by, shapes_by, leaf_shape}
use Rattle.pq_headline.specs.Columns.{ArrowColumn, beneath_list, beneath_struct, leaf_column, type_columns, columns_from, small_limit, large_limit}
use Rattle.pq_tree.specs.Tree.{Tree, Trees, defines, count_trees}
use Rattle.pq_tree.specs.Types.{Converted, Logical}
use Rattle.schema_to_tree.specs.Table.{named, over, repetition_of, trees_of}
use Rattle.shredding.specs.Shape.{Shape, list, no_shapes, Way, at_leaf, in_list, in_struct, one_on, ways, ways_of}
use Rattle.typed_arrays.specs.Typed.{AreAlong, TypedColumnsAreOwn, node}

-- ---- the node may be missing as the field may be null

by_field : (b : Bool) → nat_eq (defines (repetition_of b)) 1 ≡ b
by_field true = refl
by_field false = refl

pub optional_is : (name : List ℕ) (b : Bool) (t : TypeTree) → is_optional (node name b t) ≡ b
optional_is name b (t_dictionary k t s) = optional_is name b t
optional_is name b (t_extension n t m) = optional_is name b t
optional_is name b t = by_field b

-- ---- a type whose arrays are leaves

is_single : TypeTree → Bool
is_single (t_list f) = false
is_single (t_large_list f) = false
is_single (t_fixed_size_list f n) = false
is_single (t_map f s) = false
is_single (t_struct fs) = false
is_single t = true

leaf_single : (t : TypeTree) → is_leaf t ≡ true → is_single t ≡ true
unfolding is_single
leaf_single (t_list f) e = absurd (true≢false (sym e))
leaf_single (t_large_list f) e = absurd (true≢false (sym e))
leaf_single (t_fixed_size_list f n) e = absurd (true≢false (sym e))
leaf_single (t_map f s) e = absurd (true≢false (sym e))
leaf_single (t_struct fs) e = absurd (true≢false (sym e))
leaf_single t e = refl

null_single : (t : TypeTree) → is_null_type t ≡ true → is_single t ≡ true
unfolding is_single
null_single t_null e = refl
null_single t e = absurd (true≢false (sym e))

entry_single : (t u : TypeTree) → entry_type t ≡ Some u → is_single t ≡ true
unfolding is_single
entry_single (t_dictionary k t s) u e = refl
entry_single t u e = absurd cc

record Single (b : Bool) (t : TypeTree) : Type 0 where
  pub kind : TypeTree
  pub columns : type_columns b t ≡ leaf_column b kind
  pub same : leaf_type t ≡ leaf_type kind

single : (b : Bool) (t : TypeTree) → is_single (base t) ≡ true → Single b t
unfolding is_single
single b (t_extension n t m) e = let r = single b t e in record { kind = r.kind; columns = r.columns; same = r.same }
single b (t_list f) e = absurd (true≢false (sym e))
single b (t_large_list f) e = absurd (true≢false (sym e))
single b (t_fixed_size_list f n) e = absurd (true≢false (sym e))
single b (t_map f s) e = absurd (true≢false (sym e))
single b (t_struct fs) e = absurd (true≢false (sym e))
single b t e = record { kind = t; columns = refl; same = refl }

one_leaf : (a : ArrayTree) (name : List ℕ) (b : Bool) → is_single (base (type_of a)) ≡ true → AreAlong (at_leaf (is_optional (node name b (type_of a))) ∷ []) (a ∷ []) (type_columns b (type_of a))
one_leaf a name b e =
    let r = single b (type_of a) e in
    subst (λ (cs : List ArrowColumn). AreAlong (at_leaf (is_optional (node name b (type_of a))) ∷ []) (a ∷ []) cs) (sym r.columns) (ap at_leaf (sym (optional_is name b (type_of a))), r.same, tt)

-- ---- the item of a list or a map

pub record ListParts (name : List ℕ) (b : Bool) (t u : TypeTree) : Type 0 where
  pub item_name : List ℕ
  pub is_nullable : Bool
  pub limit : ℕ
  pub item : item_node (node name b t) ≡ Some (node item_name is_nullable u)
  pub columns : type_columns b t ≡ map (beneath_list b limit) (type_columns is_nullable u)
  pub shape : type_shape b t ≡ list b (type_shape is_nullable u)

of_item : (name : List ℕ) (b : Bool) (t : Tree) (c : Converted) (l : Logical) (middle : List ℕ) → item_node (over (named name (repetition_of b)) c l middle t) ≡ Some t
of_item name true t c l middle = refl
of_item name false t c l middle = refl

inside : Option TypeTree → TypeTree → TypeTree
inside (Some t) d = t
inside None d = d

same_in : (t u : TypeTree) → ◌≡◌ {A = Option TypeTree} (Some t) (Some u) → t ≡ u
unfolding inside
same_in t u e = ap (λ (o : Option TypeTree). inside o t) e

pub list_parts : (name : List ℕ) (b : Bool) (t u : TypeTree) → list_item (base t) ≡ Some u → ListParts name b t u
list_parts name b (t_extension n t m) u e = let r = list_parts name b t u e in record { item_name = r.item_name; is_nullable = r.is_nullable; limit = r.limit; item = r.item; columns = r.columns; shape = r.shape }
list_parts name b (t_list (field n t k m)) u e =
    let same = same_in t u e in
    record { item_name = n; is_nullable = k; limit = small_limit; item = of_item name b (node n k t) Converted.list Logical.list (codes "list") ∙ ap (λ (x : TypeTree). Some (node n k x)) same; columns = ap (λ (x : TypeTree). map (beneath_list b small_limit) (type_columns k x)) same; shape = ap (λ (x : TypeTree). list b (type_shape k x)) same }
list_parts name b (t_large_list (field n t k m)) u e =
    let same = same_in t u e in
    record { item_name = n; is_nullable = k; limit = large_limit; item = of_item name b (node n k t) Converted.list Logical.list (codes "list") ∙ ap (λ (x : TypeTree). Some (node n k x)) same; columns = ap (λ (x : TypeTree). map (beneath_list b large_limit) (type_columns k x)) same; shape = ap (λ (x : TypeTree). list b (type_shape k x)) same }
list_parts name b (t_map (field n t k m) s) u e =
    let same = same_in t u e in
    record { item_name = n; is_nullable = k; limit = small_limit; item = of_item name b (node n k t) Converted.map Logical.map (codes "map") ∙ ap (λ (x : TypeTree). Some (node n k x)) same; columns = ap (λ (x : TypeTree). map (beneath_list b small_limit) (type_columns k x)) same; shape = ap (λ (x : TypeTree). list b (type_shape k x)) same }
list_parts name b t u e = absurd cc

along_list : (b k : Bool) (limit : ℕ) (ws : List Way) (arrays : List ArrayTree) (cs : List ArrowColumn) → b ≡ k → AreAlong ws arrays cs → AreAlong (map (in_list k) ws) arrays (map (beneath_list b limit) cs)
along_list b k limit [] [] [] e h = tt
along_list b k limit (w ∷ ws) (a ∷ arrays) (c ∷ cs) e h = (λ i. in_list (e i) (h.0 i), h.1, along_list b k limit ws arrays cs e h.2)
along_list b k limit [] [] (c ∷ cs) e h = absurd h
along_list b k limit [] (a ∷ arrays) cs e h = absurd h
along_list b k limit (w ∷ ws) [] cs e h = absurd h
along_list b k limit (w ∷ ws) (a ∷ arrays) [] e h = absurd h

of_list : (name : List ℕ) (b : Bool) (t : TypeTree) (c : ArrayTree) (d : Shape) (o : Option Tree) (p : ListParts name b t (type_of c)) → o ≡ Some (node p.item_name p.is_nullable (type_of c)) → given differs (misfit c) o ≡ None
    → (misfit c (node p.item_name p.is_nullable (type_of c)) ≡ None → AreAlong (ways (shape_by c (node p.item_name p.is_nullable (type_of c)))) (array_leaves c) (type_columns p.is_nullable (type_of c)))
    → AreAlong (map (in_list (is_optional (node name b t))) (ways (given d (shape_by c) o))) (array_leaves c) (type_columns b t)
of_list name b t c d o p e m next =
    let fits = subst (λ (x : Option Tree). given differs (misfit c) x ≡ None) e m in
    let inner = along_list b (is_optional (node name b t)) p.limit _ _ _ (sym (optional_is name b t)) (next fits) in
    subst (λ (x : Option Tree). AreAlong (map (in_list (is_optional (node name b t))) (ways (given d (shape_by c) x))) (array_leaves c) (type_columns b t)) (sym e)
    (subst (λ (cs : List ArrowColumn). AreAlong (map (in_list (is_optional (node name b t))) (ways (shape_by c (node p.item_name p.is_nullable (type_of c))))) (array_leaves c) cs) (sym p.columns) inner)

-- ---- the fields of a struct

pub record StructParts (name : List ℕ) (b : Bool) (t : TypeTree) (fs : FieldTrees) : Type 0 where
  pub nodes : field_nodes (node name b t) ≡ Some (trees_of fs)
  pub columns : type_columns b t ≡ columns_from b 0 fs

of_fields : (name : List ℕ) (b : Bool) (fs : FieldTrees) → field_nodes (node name b (t_struct fs)) ≡ Some (trees_of fs)
of_fields name true fs = refl
of_fields name false fs = refl

pub struct_parts : (name : List ℕ) (b : Bool) (t : TypeTree) (cs : ArrayTrees) → 0 < count_arrays cs → AreTyped (part_types (base t)) cs → StructParts name b t (part_types (base t))
struct_parts name b (t_extension n t m) cs some h = let r = struct_parts name b t cs some h in record { nodes = r.nodes; columns = r.columns }
struct_parts name b (t_struct fs) cs some h = record { nodes = of_fields name b fs; columns = refl }
struct_parts name b t no_arrays some h = absurd (omega (arith, some))
struct_parts name b t (more_arrays c cs) some h = absurd h

along_struct : (b k : Bool) (i : ℕ) (ws : List Way) (arrays : List ArrayTree) (cs : List ArrowColumn) → b ≡ k → AreAlong ws arrays cs → AreAlong (map (λ w. in_struct k i w) ws) arrays (map (beneath_struct b i) cs)
along_struct b k i [] [] [] e h = tt
along_struct b k i (w ∷ ws) (a ∷ arrays) (c ∷ cs) e h = (λ j. in_struct (e j) i (h.0 j), h.1, along_struct b k i ws arrays cs e h.2)
along_struct b k i [] [] (c ∷ cs) e h = absurd h
along_struct b k i [] (a ∷ arrays) cs e h = absurd h
along_struct b k i (w ∷ ws) [] cs e h = absurd h
along_struct b k i (w ∷ ws) (a ∷ arrays) [] e h = absurd h

along_both : (ws vs : List Way) (xs ys : List ArrayTree) (cs ds : List ArrowColumn) → AreAlong ws xs cs → AreAlong vs ys ds → AreAlong (ws ++ vs) (xs ++ ys) (cs ++ ds)
along_both [] vs [] ys [] ds h g = g
along_both (w ∷ ws) vs (x ∷ xs) ys (c ∷ cs) ds h g = (h.0, h.1, along_both ws vs xs ys cs ds h.2 g)
along_both [] vs [] ys (c ∷ cs) ds h g = absurd h
along_both [] vs (x ∷ xs) ys cs ds h g = absurd h
along_both (w ∷ ws) vs [] ys cs ds h g = absurd h
along_both (w ∷ ws) vs (x ∷ xs) ys [] ds h g = absurd h

-- ---- all of it

first_none : (a b : Option Error) → first_of_two a b ≡ None → a ≡ None
first_none None b e = refl
first_none (Some x) b e = absurd cc

then_none : (a b : Option Error) → first_of_two a b ≡ None → b ≡ None
then_none None b e = e
then_none (Some x) b e = absurd cc

by_count : (k : Bool) (x : Option Error) → cond k x differs ≡ None → x ≡ None
by_count true x e = e
by_count false x e = absurd cc

of_struct : (name : List ℕ) (b : Bool) (t : TypeTree) (cs : ArrayTrees) (fs : FieldTrees) (o : Option Trees) → o ≡ Some (trees_of fs) → type_columns b t ≡ columns_from b 0 fs → given differs (counted (count_arrays cs) (misfits cs)) o ≡ None
    → (misfits cs (trees_of fs) ≡ None → AreAlong (map (λ p. in_struct (is_optional (node name b t)) p.0 p.1) (ways_of (shapes_by cs (trees_of fs)))) (leaves_in cs) (columns_from b 0 fs))
    → AreAlong (map (λ p. in_struct (is_optional (node name b t)) p.0 p.1) (ways_of (given no_shapes (shapes_by cs) o))) (leaves_in cs) (type_columns b t)
of_struct name b t cs fs o e columns m next =
    let fits = subst (λ (x : Option Trees). given differs (counted (count_arrays cs) (misfits cs)) x ≡ None) e m in
    subst (λ (x : Option Trees). AreAlong (map (λ p. in_struct (is_optional (node name b t)) p.0 p.1) (ways_of (given no_shapes (shapes_by cs) x))) (leaves_in cs) (type_columns b t)) (sym e)
    (subst (λ (ds : List ArrowColumn). AreAlong (map (λ p. in_struct (is_optional (node name b t)) p.0 p.1) (ways_of (shapes_by cs (trees_of fs)))) (leaves_in cs) ds) (sym columns) (next (by_count (count_arrays cs == count_trees (trees_of fs)) (misfits cs (trees_of fs)) fits)))

map_twice : {A B C : Type 0} (f : B → C) (g : A → B) (xs : List A) → map f (map g xs) ≡ map (λ x. f (g x)) xs
map_twice f g [] = refl
map_twice f g (x ∷ xs) = ap (λ ys. f (g x) ∷ ys) (map_twice f g xs)

-- the ways of a struct's first field, and those of the others
field_ways : (k : Bool) (f : ℕ → ℕ) (ws : List Way) (ps : List (ℕ × Way)) → map (λ p. in_struct k (f p.0) p.1) (map (λ w. (zero, w)) ws ++ map one_on ps) ≡ map (λ w. in_struct k (f zero) w) ws ++ map (λ p. in_struct k (f (suc p.0)) p.1) ps
field_ways k f ws ps =
    map-append (λ (p : ℕ × Way). in_struct k (f p.0) p.1) (map (λ (w : Way). (zero, w)) ws) (map one_on ps)
    ∙ (λ i. map_twice {B = ℕ × Way} (λ (p : ℕ × Way). in_struct k (f p.0) p.1) (λ (w : Way). (zero, w)) ws i ++ map_twice {B = ℕ × Way} (λ (p : ℕ × Way). in_struct k (f p.0) p.1) one_on ps i)

mutual
  own_at : (a : ArrayTree) (name : List ℕ) (b : Bool) → IsSound a → misfit a (node name b (type_of a)) ≡ None → AreAlong (ways (shape_by a (node name b (type_of a)))) (array_leaves a) (type_columns b (type_of a))
  own_at (null_array t n) name b s m = one_leaf (null_array t n) name b (null_single (base t) s)
  own_at (leaf_array t vs k) name b s m = one_leaf (leaf_array t vs k) name b (leaf_single (base t) s.1)
  own_at (dictionary_array t ks c k) name b s m = one_leaf (dictionary_array t ks c k) name b (entry_single (base t) (type_of c) s.2)
  own_at (fixed_list_array t w n c k) name b s m = absurd cc
  own_at (list_array t os c k) name b s m =
      let p = list_parts name b t (type_of c) s.3 in
      of_list name b t c (leaf_shape c (node name b t)) (item_node (node name b t)) p p.item m (λ f. own_at c p.item_name p.is_nullable s.2 f)
  own_at (struct_array t cs k) name b s m =
      let p = struct_parts name b t cs s.3 s.2 in
      of_struct name b t cs (part_types (base t)) (field_nodes (node name b t)) p.nodes p.columns m
      (λ f. own_all cs (part_types (base t)) (first_len cs) b (is_optional (node name b t)) (λ n. n) 0 (sym (optional_is name b t)) (λ j. omega arith) s.0 s.2 f)

  own_all : (cs : ArrayTrees) (fs : FieldTrees) (n : ℕ) (b k : Bool) (f : ℕ → ℕ) (place : ℕ) → b ≡ k → ((j : ℕ) → f j ≡ place + j) → AreSound n cs → AreTyped fs cs → misfits cs (trees_of fs) ≡ None → AreAlong (map (λ p. in_struct k (f p.0) p.1) (ways_of (shapes_by cs (trees_of fs)))) (leaves_in cs) (columns_from b place fs)
  own_all no_arrays no_fields n b k f place e at s h m = tt
  own_all (more_arrays c cs) (more_fields (field name t c_null md) fs) n b k f place e at s h m =
      let first : misfit c (node name c_null t) ≡ None = first_none (misfit c (node name c_null t)) (misfits cs (trees_of fs)) m in
      let there = own_at c name c_null s.0 (subst (λ (x : TypeTree). misfit c (node name c_null x) ≡ None) h.0 first) in
      let mine = subst (λ (x : TypeTree). AreAlong (ways (shape_by c (node name c_null x))) (array_leaves c) (type_columns c_null x)) (sym h.0) there in
      let here : place ≡ f zero = sym (at zero ∙ omega arith) in
      let front = subst (λ (x : ℕ). AreAlong (map (λ w. in_struct k x w) (ways (shape_by c (node name c_null t)))) (array_leaves c) (map (beneath_struct b place) (type_columns c_null t))) here (along_struct b k place _ (array_leaves c) _ e mine) in
      let others = own_all cs fs n b k (λ j. f (suc j)) (suc place) e (λ j. at (suc j) ∙ omega arith) s.2 h.1 (then_none (misfit c (node name c_null t)) (misfits cs (trees_of fs)) m) in
      subst (λ (ws : List Way). AreAlong ws (array_leaves c ++ leaves_in cs) (map (beneath_struct b place) (type_columns c_null t) ++ columns_from b (suc place) fs)) (sym (field_ways k f (ways (shape_by c (node name c_null t))) (ways_of (shapes_by cs (trees_of fs)))))
      (along_both _ _ (array_leaves c) (leaves_in cs) _ _ front others)
  own_all no_arrays (more_fields (field x t y z) fs) n b k f place e at s h m = absurd h
  own_all (more_arrays c cs) no_fields n b k f place e at s h m = absurd h

pub own : TypedColumnsAreOwn
own a name b s m = own_at a name b s m
