-- Trees made one after another.
use Rattle.std.proofs.Common.{◌≡◌, ℕ, ◌+◌, ◌<◌, ◌≤◌, false, Bool, Option, Some, None, List, [], ◌∷◌, ◌++◌, length, ◌==◌, Vec, vec_len, Global, string_bytes, drop, get_or, Result, ◌⊎◌, inl, inr, refl, ap, sym, subst, ◌∙◌, rules}
use Rattle.std.proofs.lemmas.List.{at_drop_more, at_drop_all, drop_all}
use Rattle.columns_core.specs.Tree.{TypeTree, t_list, t_fixed_size_list, t_large_list, t_struct, t_map, t_dictionary, t_extension, FieldTree, field}
use Rattle.columns_core.specs.View.{type_view, type_step, field_view, field_step, fields_view}
use Rattle.std.specs.declared.boxed.Box.{Box}
use Rattle.columns_core.specs.declared.types.DataType.{DataType, the_lemmas}
use Rattle.columns_core.specs.declared.types.DataType as D
use Rattle.columns_core.specs.declared.types.Field.{Field, fold_out-Field}
use Rattle.columns_base.specs.declared.error.Error.{Error}
use Rattle.pq_tree.specs.Types.{Info}
use Rattle.schema_to_tree.specs.Table.{list_over, map_over, type_tree, tree_of, trees_of, leaf_of, stored_as, is_compound}
use Rattle.schema_to_tree.specs.Faults.{leaf_fault, fault, field_fault, fields_fault, first_of_two, Gives}
use Rattle.pq_tree.specs.Tree.{Trees, no_trees, tree}
use Rattle.pq_tree.specs.TreeViews.{tree_view, trees_view}
use Rattle.pq_tree.specs.declared.types.ParquetType.{ParquetType}

-- the trees made so far, and those still to come
abbrev pub join : Trees → Trees → Trees
join no_trees us = us
join (tree t ts) us = tree t (join ts us)

pub join_none : (ts : Trees) → join ts no_trees ≡ ts
join_none no_trees = refl
join_none (tree t ts) = ap (tree t) (join_none ts)

pub join_push : (xs : List ParquetType) (x : ParquetType) (us : Trees) → join (trees_view (xs ++ x ∷ [])) us ≡ join (trees_view xs) (tree (tree_view x) us)
join_push [] x us = refl
join_push (y ∷ xs) x us = ap (tree (tree_view y)) (join_push xs x us)

abbrev rest : List Field → Trees
rest fs = trees_of (fields_view fs)

pub join_step : (ts : List ParquetType) (fs : List Field) (k : ℕ) (f : Field) (t : ParquetType) (all : Trees) → k < length fs
    → join (trees_view ts) (rest (drop k fs)) ≡ all → tree_view t ≡ tree_of (field_view (get_or fs k f)) → join (trees_view (ts ++ t ∷ [])) (rest (drop (k + 1) fs)) ≡ all
join_step ts fs k f t all h so is =
    join_push ts t _ ∙ ap (λ u. join (trees_view ts) (tree u (rest (drop (k + 1) fs)))) is ∙ sym (at_drop_more (λ gs. join (trees_view ts) (rest gs)) fs k f h) ∙ so

pub join_done : (ts : List ParquetType) (fs : List Field) (k : ℕ) (all : Trees) → length fs ≤ k → join (trees_view ts) (rest (drop k fs)) ≡ all → trees_view ts ≡ all
join_done ts fs k all h so = rw (drop_all k fs h, join_none) at so

-- ---- faults

abbrev faults : List Field → Option Error
faults fs = fields_fault (fields_view fs)

pub fault_step : (fs : List Field) (k : ℕ) (f : Field) (all : Option Error) → k < length fs → faults (drop k fs) ≡ all → field_fault (field_view (get_or fs k f)) ≡ None
    → faults (drop (k + 1) fs) ≡ all
fault_step fs k f all h so is = ap (λ o. first_of_two o (faults (drop (k + 1) fs))) (sym is) ∙ sym (at_drop_more faults fs k f h) ∙ so

pub fault_here : (fs : List Field) (k : ℕ) (f : Field) (all : Option Error) (e : Error) → k < length fs → faults (drop k fs) ≡ all → field_fault (field_view (get_or fs k f)) ≡ Some e
    → all ≡ Some e
fault_here fs k f all e h so is = sym so ∙ at_drop_more faults fs k f h ∙ ap (λ o. first_of_two o (faults (drop (k + 1) fs))) is

pub fault_done : (fs : List Field) (k : ℕ) (all : Option Error) → length fs ≤ k → faults (drop k fs) ≡ all → all ≡ None
fault_done fs k all h so = sym so ∙ at_drop_all faults fs k h

some_faults : (fs : List Field) (n : ℕ) → length fs ≡ n → false ≡ (n == 0) → fault (t_struct (fields_view fs)) ≡ faults fs
some_faults [] n e h = absurd (cc)
some_faults (f ∷ fs) n e h = refl

pub fault_struct : (v : Vec Field Global) → false ≡ (vec_len v == 0) → fault (t_struct (fields_view v.items)) ≡ faults v.items
fault_struct v h = some_faults v.items (vec_len v) (sym v.ok.0) h

-- ---- a field by its parts

pub seen : (f : Field) → field_view f ≡ field (string_bytes f.name) (type_view f.data_type) f.is_nullable f.metadata
seen f = fold_out-Field TypeTree FieldTree type_step field_step f

-- ---- types that stand for themselves

pub tree_leaf : (i : Info) (t : TypeTree) → is_compound t ≡ false → type_tree i t ≡ leaf_of i (stored_as t)
tree_leaf i (t_list f) h = absurd (cc)
tree_leaf i (t_large_list f) h = absurd (cc)
tree_leaf i (t_fixed_size_list f n) h = absurd (cc)
tree_leaf i (t_map f sorted) h = absurd (cc)
tree_leaf i (t_struct fs) h = absurd (cc)
tree_leaf i (t_dictionary key t sorted) h = absurd (cc)
tree_leaf i (t_extension name t m) h = absurd (cc)
tree_leaf i t h = refl

pub fault_leaf : (t : TypeTree) → is_compound t ≡ false → fault t ≡ leaf_fault t
fault_leaf (t_list f) h = absurd (cc)
fault_leaf (t_large_list f) h = absurd (cc)
fault_leaf (t_fixed_size_list f n) h = absurd (cc)
fault_leaf (t_map f sorted) h = absurd (cc)
fault_leaf (t_struct fs) h = absurd (cc)
fault_leaf (t_dictionary key t sorted) h = absurd (cc)
fault_leaf (t_extension name t m) h = absurd (cc)
fault_leaf t h = refl

-- ---- types by their parts

seen_list : (b : Box Field Global) → type_view (D.List b) ≡ t_list (field_view b.value)
seen_list b = search (rules, the_lemmas)

seen_large_list : (b : Box Field Global) → type_view (D.LargeList b) ≡ t_large_list (field_view b.value)
seen_large_list b = search (rules, the_lemmas)

seen_fixed_size_list : (b : Box Field Global) (n : ℕ) → type_view (D.FixedSizeList b n) ≡ t_fixed_size_list (field_view b.value) n
seen_fixed_size_list b n = search (rules, the_lemmas)

seen_map : (b : Box Field Global) (s : Bool) → type_view (D.Map b s) ≡ t_map (field_view b.value) s
seen_map b s = search (rules, the_lemmas)

abbrev Found : Info → TypeTree → Result ParquetType Error → Type 0
Found i t r = Gives tree_view (type_tree i t) (fault t) r

pub map_gives : (i : Info) (x : DataType) (b : Box Field Global) (s : Bool) (f : Field) (r : Result ParquetType Error) → x ≡ D.Map b s → f ≡ b.value
    → Gives tree_view (map_over i (tree_of (field_view f))) (field_fault (field_view f)) r → Found i (type_view x) r
map_gives i x b s f r is to h =
    let e : type_view x ≡ t_map (field_view f) s = ap type_view is ∙ seen_map b s ∙ ap (λ (y : Field). t_map (field_view y) s) (sym to) in subst (λ (t : TypeTree). Found i t r) (sym e) h

pub list_gives : (i : Info) (x : DataType) (b : Box Field Global) (f : Field) (r : Result ParquetType Error)
    → (x ≡ D.List b) ⊎ ((x ≡ D.LargeList b) ⊎ ((n : ℕ) × (x ≡ D.FixedSizeList b n))) → f ≡ b.value
    → Gives tree_view (list_over i (tree_of (field_view f))) (field_fault (field_view f)) r → Found i (type_view x) r
list_gives i x b f r (inl is) to h =
    let e : type_view x ≡ t_list (field_view f) = ap type_view is ∙ seen_list b ∙ ap (λ (y : Field). t_list (field_view y)) (sym to) in subst (λ (t : TypeTree). Found i t r) (sym e) h
list_gives i x b f r (inr (inl is)) to h =
    let e : type_view x ≡ t_large_list (field_view f) = ap type_view is ∙ seen_large_list b ∙ ap (λ (y : Field). t_large_list (field_view y)) (sym to) in
    subst (λ (t : TypeTree). Found i t r) (sym e) h
list_gives i x b f r (inr (inr (n, is))) to h =
    let e : type_view x ≡ t_fixed_size_list (field_view f) n = ap type_view is ∙ seen_fixed_size_list b n ∙ ap (λ (y : Field). t_fixed_size_list (field_view y) n) (sym to) in
    subst (λ (t : TypeTree). Found i t r) (sym e) h
