-- Plans.
use Rattle.std.proofs.Common.{◌≡◌, ◌≢◌, inl, inr, ◌+◌, ◌<◌, ◌≤◌, ◌++◌, ℕ, zero, suc, List, [], ◌∷◌, length, map, drop, get_or, Bool, true, false, Option, Some, None, Vec, Result, Ok, Err, refl, sym, ap, subst, ◌∙◌, arith, true≢false}
use Rattle.std.specs.Prelude.{OnOk, string_bytes}
use Rattle.columns_base.specs.declared.error.Error.{Error}
use Rattle.std.specs.Global.{Global}
use Rattle.std.proofs.lemmas.List.{append-nil, append_assoc}
use Rattle.std.proofs.Math.ListN.{drop_of_length-le}
use Rattle.columns_core.specs.Tree.{TypeTree, t_null, t_boolean, t_int8, t_int16, t_int32, t_int64, t_uint8, t_uint16, t_uint32, t_uint64, t_timestamp, t_date32, t_date64, t_time32, t_time64, t_duration, t_interval, t_binary, t_fixed_size_binary, t_large_binary, t_utf8, t_large_utf8, t_decimal, t_extension, FieldTree, field, FieldTrees, no_fields, more_fields}
use Rattle.columns_core.specs.Shapes.{base}
use Rattle.columns_core.specs.View.{field_view, fields_view, type_view, type_step, field_step}
use Rattle.columns_core.specs.declared.types.IntervalUnit.TheVariants.{YearMonth, DayTime}
use Rattle.columns_slots.specs.Types.{is_leaf}
use Rattle.columns_core.specs.declared.types.Field.{Field, fold_out-Field}
use Rattle.pq_tree.specs.Tree.{Leaf, Tree, Trees, no_trees, tree, leaves, under, nesting_of}
use Rattle.pq_tree.specs.TreeViews.{pairs_view, tree_view, trees_view}
use Rattle.pq_tree.specs.Types.{Info}
use Rattle.pq_tree.specs.declared.types.Encoding.{Encoding}
use Rattle.pq_tree.specs.declared.types.KeyValue.{KeyValue}
use Rattle.pq_tree.specs.declared.types.ParquetType.{ParquetType}
use Rattle.schema_fit.specs.Fits.{fits_to}
use Rattle.schema_key.specs.Key.{keys_in}
use Rattle.schema_map.specs.Laws.{RowsDecide}
use Rattle.schema_map.specs.Rows.{HasRows}
use Rattle.schema_to_tree.specs.Table.{tree_of, trees_of}
use Rattle.pq_files.specs.Reasons.{AnyOf}
use Rattle.pq_headline.specs.Stages.{HaveRows, list_fields}
use Rattle.write_values.specs.Deltas.{IsLeafType, encoding_name}
use Rattle.write_groups.specs.Laid.{AreChosen, field_encoding}
use Rattle.rewrite_whole.specs.Plans.{names_of}

pub named_under : (wanted : Bool) (t : TypeTree) (info : Info) (ls : List Leaf) → names_of wanted t (map (under info) ls) ≡ names_of wanted t ls
named_under wanted t info [] = refl
named_under wanted t info (l ∷ ls) = ap (λ (q : List Encoding). encoding_name (field_encoding wanted t l) ∷ q) (named_under wanted t info ls)

pub same_keys : (o : Option (Vec KeyValue Global)) → keys_in o ≡ pairs_view o
same_keys None = refl
same_keys (Some v) = refl

pub some_fields : (fs : List Field) → (length fs ≡ 0 → ⊥) → fields_view fs ≢ no_fields
some_fields [] h = absurd (h refl)
some_fields (f ∷ fs) h = λ e. cc

pub on_ok : {A : Type 0} (r : Result A Error) (P Q : Type 0) → (P → Q) → OnOk r P → OnOk r Q
on_ok (Ok x) P Q f h = f h
on_ok (Err e) P Q f h = tt

-- ---- rows of the page table

-- the fields from a place on are one and those behind it, and so are their trees
pub tail_of : (fs : FieldTrees) (f : FieldTree) (gs : FieldTrees) (ts : Trees) (t : Tree) (us : Trees) → fs ≡ more_fields f gs → ts ≡ tree t us → ts ≡ trees_of fs → (t ≡ tree_of f) × (us ≡ trees_of gs)
tail_of fs f gs ts t us e k h =
    let q : tree t us ≡ tree (tree_of f) (trees_of gs) = sym k ∙ h ∙ ap trees_of e in
    (first q, rest q)
  where
    first : tree t us ≡ tree (tree_of f) (trees_of gs) → t ≡ tree_of f
    first q = cc

    rest : tree t us ≡ tree (tree_of f) (trees_of gs) → us ≡ trees_of gs
    rest q = cc

pub trees_on : (ts : List ParquetType) (i : ℕ) (t : ParquetType) → i < length ts → t ≡ get_or ts i t → trees_view (drop i ts) ≡ tree (tree_view t) (trees_view (drop (i + 1) ts))
trees_on [] i t lt e = absurd (omega arith)
trees_on (u ∷ ts) zero t lt e = ap (λ (z : ParquetType). tree (tree_view z) (trees_view ts)) (sym e)
trees_on (u ∷ ts) (suc i) t lt e = let k : suc i + 1 ≡ suc (i + 1) = omega arith in trees_on ts i t (omega arith) e ∙ ap (λ n. tree (tree_view t) (trees_view (drop n (u ∷ ts)))) (sym k)

-- a field that does not fit its own tree has a leaf without a row
pub no_row : RowsDecide → (f : FieldTree) (t : Tree) → t ≡ tree_of f → fits_to f t ≡ false → HasRows f → ⊥
no_row law f t e n h = true≢false (sym (subst (λ k. fits_to f k ≡ true) (sym e) ((law f).1 h)) ∙ n)

pub its_row : RowsDecide → (f : FieldTree) (t : Tree) → t ≡ tree_of f → fits_to f t ≡ true → HasRows f
its_row law f t e y = (law f).0 (subst (λ k. fits_to f k ≡ true) e y)

pub rows_on : (fs : FieldTrees) (f : FieldTree) (gs : FieldTrees) → fs ≡ more_fields f gs → HasRows f → HaveRows gs → HaveRows fs
rows_on fs f gs e h hs = subst HaveRows (sym e) (h, hs)

pub any_here : (fs : FieldTrees) (f : FieldTree) (gs : FieldTrees) → fs ≡ more_fields f gs → (HasRows f → ⊥) → AnyOf (λ g. ¬ HasRows g) (list_fields fs)
any_here fs f gs e h = subst (λ k. AnyOf (λ g. ¬ HasRows g) (list_fields k)) (sym e) (inl h)

pub any_on : (fs : FieldTrees) (f : FieldTree) (gs : FieldTrees) → fs ≡ more_fields f gs → AnyOf (λ g. ¬ HasRows g) (list_fields gs) → AnyOf (λ g. ¬ HasRows g) (list_fields fs)
any_on fs f gs e h = subst (λ k. AnyOf (λ g. ¬ HasRows g) (list_fields k)) (sym e) (inr h)

pub nest_on : (ts : Trees) (t : Tree) (us : Trees) → ts ≡ tree t us → nesting_of ts ≤ 128 → nesting_of us ≤ 128
nest_on ts t us e h = let k : nesting_of (tree t us) ≤ 128 = subst (λ q. nesting_of q ≤ 128) e h in omega (arith, k)

-- a tree is left where a field is
pub tree_left : (ts : List ParquetType) (i : ℕ) (fs : FieldTrees) (f : FieldTree) (gs : FieldTrees) → fs ≡ more_fields f gs → trees_view (drop i ts) ≡ trees_of fs → i < length ts
tree_left ts i fs f gs e h = go ts i (h ∙ ap trees_of e)
  where
    go : (ts : List ParquetType) (i : ℕ) → trees_view (drop i ts) ≡ tree (tree_of f) (trees_of gs) → i < length ts
    go [] zero q = absurd (never q)
      where
        never : no_trees ≡ tree (tree_of f) (trees_of gs) → ⊥
        never q = cc
    go [] (suc i) q = absurd (never q)
      where
        never : no_trees ≡ tree (tree_of f) (trees_of gs) → ⊥
        never q = cc
    go (t ∷ ts) zero q = omega arith
    go (t ∷ ts) (suc i) q = omega (arith, go ts i q)

-- ---- encodings

-- a field as it is viewed
field_seen : (x : Field) → field_view x ≡ field (string_bytes x.name) (type_view x.data_type) x.is_nullable x.metadata
field_seen x = fold_out-Field TypeTree FieldTree type_step field_step x

pub chosen_on :
    (wanted : Bool) (x : Field) (fs gs : FieldTrees) (ts : Trees) (t : Tree) (us : Trees) (es : List Encoding) (ess : List (List Encoding)) → fs ≡ more_fields (field_view x) gs → ts ≡ tree t us
    → es ≡ names_of wanted (type_view x.data_type) (leaves t) → AreChosen wanted gs us ess → AreChosen wanted fs ts (es ∷ ess)
chosen_on wanted x fs gs ts t us es ess ef et names h =
    let seen : fs ≡ more_fields (field (string_bytes x.name) (type_view x.data_type) x.is_nullable x.metadata) gs = ef ∙ ap (λ (f : FieldTree). more_fields f gs) (field_seen x) in
    subst (λ (k : FieldTrees). AreChosen wanted k ts (es ∷ ess)) (sym seen) (subst (λ (k : Trees). AreChosen wanted (more_fields (field (string_bytes x.name) (type_view x.data_type) x.is_nullable x.metadata) gs) k (es ∷ ess)) (sym et) (names, h))

abbrev pub texts_of : List (Vec Encoding Global) → List (List Encoding)
texts_of ess = map (λ es. es.items) ess

-- one more list behind those of the fields so far
pub chosen_more :
    (wanted : Bool) (x : Field) (all fs gs : FieldTrees) (trees ts : Trees) (t : Tree) (us : Trees) (done after : List (Vec Encoding Global)) (es : Vec Encoding Global) → fs ≡ more_fields (field_view x) gs → ts ≡ tree t us
    → es.items ≡ names_of wanted (type_view x.data_type) (leaves t) → after ≡ done ++ es ∷ []
    → ((rest : List (Vec Encoding Global)) → AreChosen wanted fs ts (texts_of rest) → AreChosen wanted all trees (texts_of (done ++ rest)))
    → (rest : List (Vec Encoding Global)) → AreChosen wanted gs us (texts_of rest) → AreChosen wanted all trees (texts_of (after ++ rest))
chosen_more wanted x all fs gs trees ts t us done after es ef et names more h rest r =
    subst (λ (ess : List (Vec Encoding Global)). AreChosen wanted all trees (texts_of ess)) (sym (ap (λ (q : List (Vec Encoding Global)). q ++ rest) more ∙ append_assoc done (es ∷ []) rest))
    (h (es ∷ rest) (chosen_on wanted x fs gs ts t us es.items (texts_of rest) ef et names r))

pub chosen_all :
    (wanted : Bool) (xs : List Field) (trees : List ParquetType) (n : ℕ) (ess : List (Vec Encoding Global)) → length xs ≤ n → trees_view (drop n trees) ≡ trees_of (fields_view (drop n xs))
    → ((rest : List (Vec Encoding Global)) → AreChosen wanted (fields_view (drop n xs)) (trees_view (drop n trees)) (texts_of rest) → AreChosen wanted (fields_view xs) (trees_view trees) (texts_of (ess ++ rest)))
    → AreChosen wanted (fields_view xs) (trees_view trees) (texts_of ess)
chosen_all wanted xs trees n ess le same h =
    let none : fields_view (drop n xs) ≡ no_fields = ap fields_view (drop_of_length-le xs le) in
    let no_more : trees_view (drop n trees) ≡ no_trees = same ∙ ap trees_of none in
    subst (λ (q : List (Vec Encoding Global)). AreChosen wanted (fields_view xs) (trees_view trees) (texts_of q)) (append-nil ess)
    (h [] (subst (λ (k : FieldTrees). AreChosen wanted k (trees_view (drop n trees)) []) (sym none) (subst (λ (k : Trees). AreChosen wanted no_fields k []) (sym no_more) tt)))

-- a type of values has some
pub values_have : (t : TypeTree) → is_leaf (base t) ≡ true → IsLeafType t
values_have (t_extension n t m) e = values_have t e
values_have t_null e = absurd (true≢false (sym e))
values_have t_boolean e = λ h. absurd cc
values_have t_int8 e = λ h. absurd cc
values_have t_int16 e = λ h. absurd cc
values_have t_int32 e = λ h. absurd cc
values_have t_int64 e = λ h. absurd cc
values_have t_uint8 e = λ h. absurd cc
values_have t_uint16 e = λ h. absurd cc
values_have t_uint32 e = λ h. absurd cc
values_have t_uint64 e = λ h. absurd cc
values_have (t_timestamp u z) e = λ h. absurd cc
values_have t_date32 e = λ h. absurd cc
values_have t_date64 e = λ h. absurd cc
values_have (t_time32 u) e = λ h. absurd cc
values_have (t_time64 u) e = λ h. absurd cc
values_have (t_duration u) e = λ h. absurd cc
values_have (t_interval YearMonth) e = λ h. absurd cc
values_have (t_interval DayTime) e = λ h. absurd cc
values_have t_binary e = λ h. absurd cc
values_have (t_fixed_size_binary n) e = λ h. absurd cc
values_have t_large_binary e = λ h. absurd cc
values_have t_utf8 e = λ h. absurd cc
values_have t_large_utf8 e = λ h. absurd cc
values_have (t_decimal p s) e = λ h. absurd cc
values_have t e = absurd (true≢false (sym e))
