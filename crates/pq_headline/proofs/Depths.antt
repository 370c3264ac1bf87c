-- The leaves of a skeleton, each with the repeated nodes, and the optional and repeated nodes, that stand above it.
use Rattle.std.proofs.Common.{◌≡◌, ℕ, suc, ◌+◌, Bool, true, false, List, [], ◌∷◌, ◌++◌, map, refl, sym, ap, ap₂, subst, ◌∙◌, append_assoc, append-nil, true≢false, arith}
use Rattle.std.proofs.lemmas.Bool.{and_parts, and_from}
use Rattle.std.proofs.lemmas.List.{map-append}
use Rattle.std.specs.List.{AllZip}
use Rattle.columns_core.specs.Tree.{TypeTree, t_list, t_fixed_size_list, t_large_list, t_struct, t_map, t_extension, FieldTree, field, FieldTrees, no_fields, more_fields}
use Rattle.pq_tree.specs.Tree.{Tree, leaf, group, Trees, no_trees, tree, Leaf, leaves, leaves_of, under as under_node, max_definition, max_repetition, defines, repeats}
use Rattle.pq_tree.specs.Types.{Info, Repetition, required, optional, repeated}
use Rattle.schema_fit.specs.declared.page_table.Asked.{Asked}
use Rattle.schema_fit.specs.Skeleton.{Bone, Bones, no_bones, bone, one, under_optional, under_repeated, and_then, under, same_bone, same_bones, StoredLeaf, tree_bones, trees_bones, ArrowLeaf, repetition_of, type_bones, field_bones, fields_bones}
use Rattle.schema_map.specs.Rows.{all_bone, all_bones, has_row}
use Rattle.shredding.specs.Shred.{max_definition as way_definition, max_repetition as way_repetition}
use Rattle.pq_headline.specs.Columns.{ArrowColumn, beneath_list, beneath_struct, ends_nullable, leaf_column, type_columns, field_columns, columns_from}
use Rattle.pq_headline.proofs.Written.{zip_more}

-- ---- leaves by their depths

pub record Deep (A : Type 0) : Type 0 where
  pub item : A
  pub repetition : ℕ
  pub definition : ℕ

abbrev pub deeper : {A : Type 0} → ℕ → ℕ → Deep A → Deep A
deeper r d x = record { item = x.item; repetition = r + x.repetition; definition = d + x.definition }

abbrev mutual
  pub in_bone : {A : Type 0} → Bone A → List (Deep A)
  in_bone (one a) = record { item = a; repetition = 0; definition = 0 } ∷ []
  in_bone (under_optional xs) = map (deeper 0 1) (in_bones xs)
  in_bone (under_repeated xs) = map (deeper 1 1) (in_bones xs)

  pub in_bones : {A : Type 0} → Bones A → List (Deep A)
  in_bones no_bones = []
  in_bones (bone x xs) = in_bone x ++ in_bones xs

same_depth : {A : Type 0} (x : Deep A) → deeper 0 0 x ≡ x
same_depth x =
    let r : 0 + x.repetition ≡ x.repetition = omega arith in
    let d : 0 + x.definition ≡ x.definition = omega arith in
    λ i. record { item = x.item; repetition = r i; definition = d i }

same_depths : {A : Type 0} (xs : List (Deep A)) → map (deeper 0 0) xs ≡ xs
same_depths [] = refl
same_depths (x ∷ xs) = ap₂ (λ y ys. y ∷ ys) (same_depth x) (same_depths xs)

-- what stands under a node is deeper by it
pub beneath_node : {A : Type 0} (r : Repetition) (xs : Bones A) → in_bones (under r xs) ≡ map (deeper (repeats r) (defines r)) (in_bones xs)
beneath_node r no_bones = refl
beneath_node required (bone x xs) = sym (same_depths (in_bones (bone x xs)))
beneath_node optional (bone x xs) = append-nil (map (deeper 0 1) (in_bones (bone x xs)))
beneath_node repeated (bone x xs) = append-nil (map (deeper 1 1) (in_bones (bone x xs)))

pub one_then : {A : Type 0} (xs ys : Bones A) → in_bones (and_then xs ys) ≡ in_bones xs ++ in_bones ys
one_then no_bones ys = refl
one_then (bone x xs) ys = ap (λ zs. in_bone x ++ zs) (one_then xs ys) ∙ sym (append_assoc (in_bone x) (in_bones xs) (in_bones ys))

-- ---- what holds of each leaf

all_beneath : {A : Type 0} (p : A → Bool) (r : Repetition) (xs : Bones A) → all_bones p (under r xs) ≡ true → all_bones p xs ≡ true
all_beneath p r no_bones h = refl
all_beneath p required (bone x xs) h = h
all_beneath p optional (bone x xs) h = (and_parts _ _ h).0
all_beneath p repeated (bone x xs) h = (and_parts _ _ h).0

all_parts : {A : Type 0} (p : A → Bool) (xs ys : Bones A) → all_bones p (and_then xs ys) ≡ true → (all_bones p xs ≡ true) × (all_bones p ys ≡ true)
all_parts p no_bones ys h = (refl, h)
all_parts p (bone x xs) ys h =
    let first = and_parts (all_bone p x) (all_bones p (and_then xs ys)) h in
    let more = all_parts p xs ys first.1 in
    (and_from _ _ first.0 more.0, more.1)

-- where leaves go together only if the first is so
mutual
  all_of_bone : {A B : Type 0} (g : A → B → Bool) (p : A → Bool) → ((a : A) (b : B) → g a b ≡ true → p a ≡ true) → (x : Bone A) (y : Bone B) → same_bone g x y ≡ true → all_bone p x ≡ true
  all_of_bone g p each (one a) (one b) h = each a b h
  all_of_bone g p each (under_optional xs) (under_optional ys) h = all_of_same g p each xs ys h
  all_of_bone g p each (under_repeated xs) (under_repeated ys) h = all_of_same g p each xs ys h
  all_of_bone g p each x y h = absurd (true≢false (sym h))

  pub all_of_same : {A B : Type 0} (g : A → B → Bool) (p : A → Bool) → ((a : A) (b : B) → g a b ≡ true → p a ≡ true) → (xs : Bones A) (ys : Bones B) → same_bones g xs ys ≡ true → all_bones p xs ≡ true
  all_of_same g p each no_bones no_bones h = refl
  all_of_same g p each (bone x xs) (bone y ys) h =
      let parts = and_parts (same_bone g x y) (same_bones g xs ys) h in
      and_from _ _ (all_of_bone g p each x y parts.0) (all_of_same g p each xs ys parts.1)
  all_of_same g p each xs ys h = absurd (true≢false (sym h))

-- ---- lists side by side

zip_map : {A B C D : Type 0} (R : A → B → Type 0) (S : C → D → Type 0) (f : A → C) (g : B → D) → ((a : A) (b : B) → R a b → S (f a) (g b)) → (xs : List A) (ys : List B) → AllZip R xs ys → AllZip S (map f xs) (map g ys)
zip_map R S f g each [] [] h = tt
zip_map R S f g each [] (y ∷ ys) h = absurd h
zip_map R S f g each (x ∷ xs) [] h = absurd h
zip_map R S f g each (x ∷ xs) (y ∷ ys) h = (each x y h.0, zip_map R S f g each xs ys h.1)

-- ---- leaves that go together

pub record Together {A B : Type 0} (g : A → B → Bool) (x : Deep A) (y : Deep B) : Type 0 where
  pub go : g x.item y.item ≡ true
  pub repetition : x.repetition ≡ y.repetition
  pub definition : x.definition ≡ y.definition

deeper_together : {A B : Type 0} (g : A → B → Bool) (r d : ℕ) (x : Deep A) (y : Deep B) → Together g x y → Together g (deeper r d x) (deeper r d y)
deeper_together g r d x y t = record { go = t.go; repetition = ap (λ k. r + k) t.repetition; definition = ap (λ k. d + k) t.definition }

mutual
  bone_together : {A B : Type 0} (g : A → B → Bool) (x : Bone A) (y : Bone B) → same_bone g x y ≡ true → AllZip (Together g) (in_bone x) (in_bone y)
  bone_together g (one a) (one b) h = (record { go = h; repetition = refl; definition = refl }, tt)
  bone_together g (under_optional xs) (under_optional ys) h = zip_map (Together g) (Together g) (deeper 0 1) (deeper 0 1) (deeper_together g 0 1) (in_bones xs) (in_bones ys) (bones_together g xs ys h)
  bone_together g (under_repeated xs) (under_repeated ys) h = zip_map (Together g) (Together g) (deeper 1 1) (deeper 1 1) (deeper_together g 1 1) (in_bones xs) (in_bones ys) (bones_together g xs ys h)
  bone_together g x y h = absurd (true≢false (sym h))

  pub bones_together : {A B : Type 0} (g : A → B → Bool) (xs : Bones A) (ys : Bones B) → same_bones g xs ys ≡ true → AllZip (Together g) (in_bones xs) (in_bones ys)
  bones_together g no_bones no_bones h = tt
  bones_together g (bone x xs) (bone y ys) h =
      let parts = and_parts (same_bone g x y) (same_bones g xs ys) h in
      zip_more (Together g) (in_bone x) (in_bones xs) (in_bone y) (in_bones ys) (bone_together g x y parts.0) (bones_together g xs ys parts.1)
  bones_together g no_bones (bone y ys) h = absurd (true≢false (sym h))
  bones_together g (bone x xs) no_bones h = absurd (true≢false (sym h))

-- ---- the leaves of a tree

pub record IsTreeLeaf (x : Deep StoredLeaf) (l : Leaf) : Type 0 where
  pub physical : l.physical ≡ x.item.physical
  pub repetition : max_repetition l ≡ x.repetition
  pub definition : max_definition l ≡ x.definition

deeper_leaf : (info : Info) (x : Deep StoredLeaf) (l : Leaf) → IsTreeLeaf x l → IsTreeLeaf (deeper (repeats info.repetition) (defines info.repetition) x) (under_node info l)
deeper_leaf info x l h = record { physical = h.physical; repetition = ap (λ k. repeats info.repetition + k) h.repetition; definition = ap (λ k. defines info.repetition + k) h.definition }

mutual
  pub tree_leaves : (t : Tree) → AllZip IsTreeLeaf (in_bones (tree_bones t)) (leaves t)
  tree_leaves (leaf info p) =
      subst (λ xs. AllZip IsTreeLeaf xs (leaves (leaf info p))) (sym (beneath_node info.repetition (bone (one (record { info = info; physical = p })) no_bones))) (record { physical = refl; repetition = refl; definition = refl }, tt)
  tree_leaves (group info ts) =
      subst (λ xs. AllZip IsTreeLeaf xs (leaves (group info ts))) (sym (beneath_node info.repetition (trees_bones ts)))
      (zip_map IsTreeLeaf IsTreeLeaf (deeper (repeats info.repetition) (defines info.repetition)) (under_node info) (deeper_leaf info) (in_bones (trees_bones ts)) (leaves_of ts) (trees_leaves ts))

  trees_leaves : (ts : Trees) → AllZip IsTreeLeaf (in_bones (trees_bones ts)) (leaves_of ts)
  trees_leaves no_trees = tt
  trees_leaves (tree t ts) =
      subst (λ xs. AllZip IsTreeLeaf xs (leaves t ++ leaves_of ts)) (sym (one_then (tree_bones t) (trees_bones ts)))
      (zip_more IsTreeLeaf (in_bones (tree_bones t)) (in_bones (trees_bones ts)) (leaves t) (leaves_of ts) (tree_leaves t) (trees_leaves ts))

-- ---- the columns of a field

pub record IsFieldLeaf (x : Deep ArrowLeaf) (c : ArrowColumn) : Type 0 where
  pub item : record { data_type = c.data_type; is_nullable = ends_nullable c.way } ≡ x.item
  pub repetition : way_repetition c.way ≡ x.repetition
  pub definition : way_definition c.way ≡ x.definition

abbrev depth_of : Bool → ℕ
depth_of n = defines (repetition_of n)

in_struct_leaf : (n : Bool) (place : ℕ) (x : Deep ArrowLeaf) (c : ArrowColumn) → IsFieldLeaf x c → IsFieldLeaf (deeper 0 (depth_of n) x) (beneath_struct n place c)
in_struct_leaf true place x c h = record { item = h.item; repetition = omega (arith, h.repetition); definition = omega (arith, h.definition) }
in_struct_leaf false place x c h = record { item = h.item; repetition = omega (arith, h.repetition); definition = omega (arith, h.definition) }

in_list_leaf : (n : Bool) (limit : ℕ) (x : Deep ArrowLeaf) (c : ArrowColumn) → IsFieldLeaf x c → IsFieldLeaf (deeper 0 (depth_of n) (deeper 1 1 x)) (beneath_list n limit c)
in_list_leaf true limit x c h = record { item = h.item; repetition = omega (arith, h.repetition); definition = omega (arith, h.definition) }
in_list_leaf false limit x c h = record { item = h.item; repetition = omega (arith, h.repetition); definition = omega (arith, h.definition) }

alone : (n : Bool) (t : TypeTree) → AllZip IsFieldLeaf (map (deeper 0 (depth_of n)) (in_bones (bone (one (record { data_type = t; is_nullable = n })) no_bones))) (leaf_column n t)
alone true t = (record { item = refl; repetition = refl; definition = refl }, tt)
alone false t = (record { item = refl; repetition = refl; definition = refl }, tt)

map_map : {A B C : Type 0} (f : B → C) (g : A → B) (xs : List A) → map f (map g xs) ≡ map (λ x. f (g x)) xs
map_map f g [] = refl
map_map f g (x ∷ xs) = ap (λ ys. f (g x) ∷ ys) (map_map f g xs)

in_list_leaves : (n : Bool) (limit : ℕ) (f : Bones ArrowLeaf) (cs : List ArrowColumn) → AllZip IsFieldLeaf (in_bones f) cs → AllZip IsFieldLeaf (map (deeper 0 (depth_of n)) (in_bones (under repeated f))) (map (beneath_list n limit) cs)
in_list_leaves n limit f cs h =
    subst (λ xs. AllZip IsFieldLeaf xs (map (beneath_list n limit) cs)) (sym (ap (map (deeper 0 (depth_of n))) (beneath_node repeated f) ∙ map_map (deeper 0 (depth_of n)) (deeper 1 1) (in_bones f)))
    (zip_map IsFieldLeaf IsFieldLeaf (λ x. deeper 0 (depth_of n) (deeper 1 1 x)) (beneath_list n limit) (in_list_leaf n limit) (in_bones f) cs h)

no_row : (asked : Asked) (n : Bool) (item : FieldTree) (size : ℕ) → all_bones (has_row asked) (bone (one (record { data_type = t_fixed_size_list item size; is_nullable = n })) no_bones) ≡ true → ⊥
no_row asked true item size h = true≢false (sym h)
no_row asked false item size h = true≢false (sym h)

mutual
  type_leaves : (asked : Asked) (n : Bool) (t : TypeTree) → all_bones (has_row asked) (type_bones n t) ≡ true → AllZip IsFieldLeaf (map (deeper 0 (depth_of n)) (in_bones (type_bones n t))) (type_columns n t)
  type_leaves asked n (t_list item) h = in_list_leaves n _ (field_bones item) (field_columns item) (field_leaves asked item (all_beneath (has_row asked) repeated (field_bones item) h))
  type_leaves asked n (t_large_list item) h = in_list_leaves n _ (field_bones item) (field_columns item) (field_leaves asked item (all_beneath (has_row asked) repeated (field_bones item) h))
  type_leaves asked n (t_map entry s) h = in_list_leaves n _ (field_bones entry) (field_columns entry) (field_leaves asked entry (all_beneath (has_row asked) repeated (field_bones entry) h))
  type_leaves asked n (t_fixed_size_list item size) h = absurd (no_row asked n item size h)
  type_leaves asked n (t_struct fs) h = struct_leaves asked n 0 fs h
  type_leaves asked n (t_extension name inner m) h = type_leaves asked n inner h
  type_leaves asked n t h = alone n t

  pub field_leaves : (asked : Asked) (f : FieldTree) → all_bones (has_row asked) (field_bones f) ≡ true → AllZip IsFieldLeaf (in_bones (field_bones f)) (field_columns f)
  field_leaves asked (field name t true m) h =
      subst (λ xs. AllZip IsFieldLeaf xs (type_columns true t)) (sym (beneath_node optional (type_bones true t))) (type_leaves asked true t (all_beneath (has_row asked) optional (type_bones true t) h))
  field_leaves asked (field name t false m) h =
      subst (λ xs. AllZip IsFieldLeaf xs (type_columns false t)) (sym (beneath_node required (type_bones false t))) (type_leaves asked false t (all_beneath (has_row asked) required (type_bones false t) h))

  struct_leaves : (asked : Asked) (n : Bool) (place : ℕ) (fs : FieldTrees) → all_bones (has_row asked) (fields_bones fs) ≡ true → AllZip IsFieldLeaf (map (deeper 0 (depth_of n)) (in_bones (fields_bones fs))) (columns_from n place fs)
  struct_leaves asked n place no_fields h = tt
  struct_leaves asked n place (more_fields f fs) h =
      let parts = all_parts (has_row asked) (field_bones f) (fields_bones fs) h in
      subst (λ xs. AllZip IsFieldLeaf xs (columns_from n place (more_fields f fs))) (sym (ap (map (deeper 0 (depth_of n))) (one_then (field_bones f) (fields_bones fs)) ∙ map-append (deeper 0 (depth_of n)) (in_bones (field_bones f)) (in_bones (fields_bones fs))))
      (zip_more IsFieldLeaf (map (deeper 0 (depth_of n)) (in_bones (field_bones f))) (map (deeper 0 (depth_of n)) (in_bones (fields_bones fs))) (map (beneath_struct n place) (field_columns f)) (columns_from n (suc place) fs)
      (zip_map IsFieldLeaf IsFieldLeaf (deeper 0 (depth_of n)) (beneath_struct n place) (in_struct_leaf n place) (in_bones (field_bones f)) (field_columns f) (field_leaves asked f parts.0))
      (struct_leaves asked n (suc place) fs parts.1))
