-- The nodes of trees as they are written.
use Rattle.std.proofs.Common.{◌≡◌, suc, ◌<◌, ◌≤◌, ◌^◌, List, [], ◌∷◌, ◌++◌, length, map, Option, Some, None, Global, refl, ap, subst, sym, ◌∙◌, append_assoc, arith, rules, Result, Ok, Err, OnOk}
use Rattle.std.specs.declared.vec.Vec.{Vec}
use Rattle.pq_thrift.specs.declared.value.Thrift.{Thrift}
use Rattle.pq_thrift.specs.Value.{binary, struct, no_fields, view, values_view, values_of}
use Rattle.pq_tree.specs.declared.types.ConvertedType.{ConvertedType}
use Rattle.pq_tree.specs.declared.types.LogicalType.{LogicalType}
use Rattle.pq_tree.specs.declared.types.FieldInfo.{FieldInfo}
use Rattle.pq_tree.specs.declared.types.PrimitiveType.{PrimitiveType}
use Rattle.pq_tree.specs.declared.types.ParquetType.{ParquetType, the_lemmas, PrimitiveType as PrimitiveType', GroupType as GroupType'}
use Rattle.pq_tree.specs.Tree.{Tree, leaf, group, Trees, no_trees, tree, Schema, count_trees, preorder, preorder_of}
use Rattle.pq_tree.specs.TreeViews.{info_view, leaf_view, tree_view, trees_view}
use Rattle.pq_tree.specs.Views.{physical_view}
use Rattle.pq_files.specs.Written.{at, i32, element_of, element_value, elements_of, tree_root}
use Rattle.footer_write.specs.Room.{tree_room, trees_room}

length-map : {A B : Type 0} (f : A → B) (xs : List A) → length (map f xs) ≡ length xs
length-map f [] = refl
length-map f (x ∷ xs) = ap suc (length-map f xs)

pub view_leaf : (p : PrimitiveType) → tree_view (PrimitiveType' p) ≡ leaf_view p
view_leaf p = search (rules, the_lemmas)

pub view_group : (f : FieldInfo) (l : Option LogicalType) (c : Option ConvertedType) (ts : Vec ParquetType Global) → tree_view (GroupType' f l c ts) ≡ group (info_view f c l) (trees_view ts.items)
view_group f l c ts = search (rules, the_lemmas)

-- ---- how many they are

has_room : (t : Tree) → 1 ≤ tree_room t
has_room (leaf info p) = omega arith
has_room (group info ts) = omega arith

counts_less : (ts : Trees) → count_trees ts ≤ trees_room ts
counts_less no_trees = omega arith
counts_less (tree t ts) = omega (arith, has_room t, counts_less ts)

pub count_is : (ts : List ParquetType) → count_trees (trees_view ts) ≡ length ts
count_is [] = refl
count_is (t ∷ ts) = ap suc (count_is ts)

pub few : (ts : List ParquetType) → trees_room (trees_view ts) < 2 ^ 31 → length ts < 2 ^ 31
few ts h = omega (arith, count_is ts, counts_less (trees_view ts), h)

pub few_beneath : (t : ParquetType) (f : FieldInfo) (l : Option LogicalType) (c : Option ConvertedType) (ts : Vec ParquetType Global) → t ≡ GroupType' f l c ts → tree_room (tree_view t) < 2 ^ 31 → length ts.items < 2 ^ 31
few_beneath t f l c ts e h =
    let small : tree_room (group (info_view f c l) (trees_view ts.items)) < 2 ^ 31 = subst (λ x. tree_room x < 2 ^ 31) (ap tree_view e ∙ view_group f l c ts) h in
    few ts.items (omega (arith, small))

-- ---- one more

map-append : {A B : Type 0} (f : A → B) (xs ys : List A) → map f (xs ++ ys) ≡ map f xs ++ map f ys
map-append f [] ys = refl
map-append f (x ∷ xs) ys = ap (λ zs. f x ∷ zs) (map-append f xs ys)

pub leaf_pushed : (old : List Thrift) (v : Thrift) (t : ParquetType) (p : PrimitiveType) → t ≡ PrimitiveType' p → view v ≡ element_of (Some (physical_view p.physical_type)) 0 (info_view p.field_info p.converted_type p.logical_type)
    → map view (old ++ v ∷ []) ≡ map view old ++ map element_value (preorder (tree_view t))
leaf_pushed old v t p e h =
    map-append view old (v ∷ []) ∙ ap (λ x. map view old ++ x ∷ []) h ∙ ap (λ x. map view old ++ map element_value (preorder x)) (sym (ap tree_view e ∙ view_leaf p))

pub group_pushed : (old new : List Thrift) (v : Thrift) (t : ParquetType) (f : FieldInfo) (l : Option LogicalType) (c : Option ConvertedType) (ts : Vec ParquetType Global) → t ≡ GroupType' f l c ts
    → view v ≡ element_of None (length ts.items) (info_view f c l)
    → map view new ≡ map view (old ++ v ∷ []) ++ map element_value (preorder_of (trees_view ts.items))
    → map view new ≡ map view old ++ map element_value (preorder (tree_view t))
group_pushed old new v t f l c ts e h so_far =
    let rest = map element_value (preorder_of (trees_view ts.items)) in
    so_far
    ∙ ap (λ xs. xs ++ rest) (map-append view old (v ∷ []))
    ∙ append_assoc (map view old) (view v ∷ []) rest
    ∙ ap (λ x. map view old ++ (x ∷ rest)) (h ∙ ap (λ n. element_of None n (info_view f c l)) (sym (count_is ts.items)))
    ∙ ap (λ x. map view old ++ map element_value (preorder x)) (sym (ap tree_view e ∙ view_group f l c ts))

pub on_ok : {A E : Type 0} {P Q : Type 0} (r : Result A E) → (P → Q) → OnOk r P → OnOk r Q
on_ok (Ok a) f h = f h
on_ok (Err e) f h = h

pub both_ok : {A E : Type 0} (P Q : Type 0) (r : Result A E) → OnOk r P → OnOk r Q → OnOk r (P × Q)
both_ok P Q (Ok a) p q = (p, q)
both_ok P Q (Err e) p q = p

pub root_pushed : (new : List Thrift) (root : Thrift) (s : Schema) (ts : List ParquetType) → s.fields ≡ trees_view ts → view root ≡ struct (at 4 (binary s.name) (at 5 (i32 (length ts)) no_fields))
    → map view new ≡ map view (root ∷ []) ++ map element_value (preorder_of (trees_view ts)) → values_view new ≡ elements_of s
root_pushed new root s ts e h so_far =
    let is_root : view root ≡ tree_root s = h ∙ ap (λ n. struct (at 4 (binary s.name) (at 5 (i32 n) no_fields))) (sym (count_is ts) ∙ sym (ap count_trees e)) in
    ap values_of (so_far ∙ (λ i. is_root i ∷ map element_value (preorder_of (sym e i))))

-- ---- lists of one length

pub same_length : {A B C : Type 0} (f : A → C) (g : B → C) (xs : List A) (ys : List B) → map f xs ≡ map g ys → length xs ≡ length ys
same_length f g xs ys e = sym (length-map f xs) ∙ ap length e ∙ length-map g ys

pub same_const : {A B C : Type 0} (c : C) (xs : List A) (ys : List B) → length xs ≡ length ys → map (λ x. c) xs ≡ map (λ y. c) ys
same_const c [] [] e = refl
same_const c [] (y ∷ ys) e = absurd (omega (arith, e))
same_const c (x ∷ xs) [] e = absurd (omega (arith, e))
same_const c (x ∷ xs) (y ∷ ys) e = ap (λ zs. c ∷ zs) (same_const c xs ys (omega (arith, e)))
