-- Leaves whose types are read are read along their ways too, by the page table.
use Rattle.std.proofs.Common.{◌≡◌, ◌⊎◌, inl, inr, ℕ, zero, Bool, true, false, Option, Some, None, List, [], ◌∷◌, refl, sym, ap, subst, ◌∙◌, true≢false}
use Rattle.std.specs.Prelude.{◌&&◌, ◌||◌, if◌then◌else◌}
use Rattle.std.specs.List.{AllByRecursion as Each}
use Rattle.columns_core.specs.Shapes.{base}
use Rattle.columns_core.specs.Tree.{TypeTree, t_list, t_fixed_size_list, t_large_list, t_struct, t_map, t_dictionary, t_extension, t_boolean, t_uint64, t_timestamp, t_fixed_size_binary, t_decimal, t_null, t_interval, FieldTree, field}
use Rattle.columns_core.specs.declared.types.IntegerType.{IntegerType}
use Rattle.columns_core.specs.declared.types.IntervalUnit.TheVariants.{YearMonth, DayTime, MonthDayNano}
use Rattle.pq_tree.specs.Physical.{Physical}
use Rattle.pq_tree.specs.Tree.{Leaf}
use Rattle.read_state.specs.Initial.{IsWay}
use Rattle.read_state.specs.declared.init.InitNested.{InitNested}
use Rattle.read_state.specs.declared.init.InitNested.TheVariants.{Primitive, List as ListOf, Struct}
use Rattle.schema_fit.specs.Fits.{asked_of}
use Rattle.schema_fit.specs.PageTable.{entry_row, row_of, is_allowed, is_stored_length, only_flat}
use Rattle.schema_fit.specs.declared.page_table.Asked.{Asked}
use Rattle.schema_fit.specs.declared.page_table.Asked.TheVariants as A
use Rattle.schema_fit.specs.declared.page_table.Row.{Row}
use Rattle.schema_fit.specs.declared.page_table.Stored.TheVariants as S
use Rattle.schema_map.specs.Rows.{asked_by}
use Rattle.shredding.specs.Along.{thin}
use Rattle.shredding.specs.Shape.{Way, at_leaf, in_list, in_struct}
use Rattle.pq_headline.specs.Columns.{ArrowColumn, type_columns, field_columns, ends_nullable, is_alone}
use Rattle.pq_headline.specs.Openings.{IsAlike}
use Rattle.read_leaves.specs.Leaf.{ends_optional, is_leaf_alone, is_read_along}
use Rattle.read_column.specs.Queues.{is_leaf_alone as alone_so}
use Rattle.read_columns.specs.Columns.{is_column_read}
use Rattle.dictionary_leaves.specs.Dictionaries.{entry_nests, may_be_entry}
use Rattle.read_types.specs.LeafTypes.{is_read, reads_nested, reads_required}
use Rattle.assembly.specs.Paths.{Path}
use Rattle.assembly.specs.Read.{IsLeafRead, reads_nodes, reads_nodes_of, value_type}
use Rattle.assembly.proofs.Openings.{IsPath}

-- ---- a type that may be nested is read so

abbrev flat_row : Bool → Option Row → Type 0
flat_row b None = Unit {0}
flat_row b (Some row) = row.is_nested ≡ b

row_nests : (o : Option Row) (row : Row) → o ≡ Some row → flat_row false o → row.is_nested ≡ true → ⊥
row_nests o row e f n = true≢false (sym n ∙ subst (flat_row false) e f)

no_row : (row : Row) → None ≡ Some row → ⊥
no_row row e = cc

flat_chunks : (b : Bool) (m : ℕ) → flat_row false (if b then only_flat (S.Fixed m) else None)
flat_chunks true m = refl
flat_chunks false m = tt

nests : (b : Bool) (t : TypeTree) (row : Row) → row_of (record { data_type = t; is_nullable = b }) ≡ Some row → row.is_nested ≡ true → reads_nested t ≡ true
nests true (t_decimal p s) row e n = absurd (row_nests _ row e refl n)
nests false (t_decimal p s) row e n = absurd (row_nests _ row e refl n)
nests true (t_interval YearMonth) row e n = absurd (row_nests _ row e refl n)
nests false (t_interval YearMonth) row e n = absurd (row_nests _ row e refl n)
nests true (t_interval DayTime) row e n = absurd (row_nests _ row e refl n)
nests false (t_interval DayTime) row e n = absurd (row_nests _ row e refl n)
nests true (t_interval MonthDayNano) row e n = absurd (no_row row e)
nests false (t_interval MonthDayNano) row e n = absurd (no_row row e)
nests true (t_fixed_size_binary m) row e n = absurd (row_nests _ row e (flat_chunks (is_stored_length m) m) n)
nests false (t_fixed_size_binary m) row e n = absurd (row_nests _ row e (flat_chunks (is_stored_length m) m) n)
nests b t row e n = refl

-- ---- a leaf that may be null where its type asks for it

required : (b : Bool) (t : TypeTree) (row : Row) → row_of (record { data_type = t; is_nullable = b }) ≡ Some row → (reads_required t || b) ≡ true
required true t_null row e = refl
required false t_null row e = absurd (no_row row e)
required b t row e = refl

leaf-list : (n m : Bool) (w : Way) → at_leaf m ≡ in_list n w → ⊥
leaf-list n m w e = cc

leaf-struct : (n m : Bool) (i : ℕ) (w : Way) → at_leaf m ≡ in_struct n i w → ⊥
leaf-struct n m i w e = cc

list-struct : (n m : Bool) (i : ℕ) (v w : Way) → in_list m v ≡ in_struct n i w → ⊥
list-struct n m i v w e = cc

same-leaf : (n m : Bool) → at_leaf m ≡ at_leaf n → n ≡ m
same-leaf n m e = cc

same-list : (n m : Bool) (v w : Way) → in_list m v ≡ in_list n w → w ≡ v
same-list n m v w e = cc

same-struct : (n m : Bool) (i j : ℕ) (v w : Way) → in_struct m i v ≡ in_struct n j w → w ≡ v
same-struct n m i j v w e = cc

ends_so : (parts : List InitNested) (w : Way) → IsWay parts (thin w) → ends_optional parts ≡ ends_nullable w
ends_so [] w h = absurd h
ends_so (Primitive n ∷ parts) (at_leaf m) h = same-leaf n m h.1
ends_so (Primitive n ∷ parts) (in_list m w) h = absurd (leaf-list m n (thin w) (sym h.1))
ends_so (Primitive n ∷ parts) (in_struct m i w) h = absurd (leaf-struct m n zero (thin w) (sym h.1))
ends_so (ListOf n ∷ parts) (at_leaf m) h = absurd (leaf-list n m h.0 h.2)
ends_so (ListOf n ∷ parts) (in_list m w) h = ends_so parts w (subst (IsWay parts) (same-list n m (thin w) h.0 h.2) h.1)
ends_so (ListOf n ∷ parts) (in_struct m i w) h = absurd (list-struct m n zero h.0 (thin w) (sym h.2))
ends_so (Struct n ∷ parts) (at_leaf m) h = absurd (leaf-struct n m zero h.0 h.2)
ends_so (Struct n ∷ parts) (in_list m w) h = absurd (list-struct n m zero (thin w) h.0 h.2)
ends_so (Struct n ∷ parts) (in_struct m i w) h = ends_so parts w (subst (IsWay parts) (same-struct n m zero zero (thin w) h.0 h.2) h.1)

-- ---- a column is asked to be nested, or is a leaf alone

abbrev pub IsNestedSo : Asked → ArrowColumn → Type 0
IsNestedSo asked c = (asked ≡ A.Nested) ⊎ (is_alone c.way ≡ true)

all_asked : (asked : Asked) (cs : List ArrowColumn) → asked ≡ A.Nested → Each (IsNestedSo asked) cs
all_asked asked [] e = tt
all_asked asked (c ∷ cs) e = (inl e, all_asked asked cs e)

nested_of : (n : Bool) (t : TypeTree) → reads_nodes t ≡ true → Each (IsNestedSo (asked_of (base t))) (type_columns n t)
nested_of n (t_list item) h = all_asked A.Nested (type_columns n (t_list item)) refl
nested_of n (t_large_list item) h = all_asked A.Nested (type_columns n (t_large_list item)) refl
nested_of n (t_fixed_size_list item w) h = absurd (true≢false (sym h))
nested_of n (t_map entry s) h = all_asked A.Nested (type_columns n (t_map entry s)) refl
nested_of n (t_struct fs) h = all_asked A.Nested (type_columns n (t_struct fs)) refl
nested_of n (t_extension name inner m) h = nested_of n inner h
nested_of n t h = (inr refl, tt)

pub nested_columns : (f : FieldTree) → reads_nodes_of f ≡ true → Each (IsNestedSo (asked_by f)) (field_columns f)
nested_columns (field name t n m) h = nested_of n t h

-- ---- the path of a leaf alone

alone_path : (parts : List InitNested) (w : Way) → is_alone w ≡ true → IsWay parts (thin w) → is_leaf_alone parts ≡ true
alone_path [] w a h = absurd h
alone_path (Primitive n ∷ parts) w a h = ap (λ ps. is_leaf_alone (Primitive n ∷ ps)) h.0
alone_path (ListOf n ∷ parts) (at_leaf m) a h = absurd (leaf-list n m h.0 h.2)
alone_path (Struct n ∷ parts) (at_leaf m) a h = absurd (leaf-struct n m zero h.0 h.2)
alone_path (ListOf n ∷ parts) (in_list m w) a h = absurd (true≢false (sym a))
alone_path (ListOf n ∷ parts) (in_struct m i w) a h = absurd (true≢false (sym a))
alone_path (Struct n ∷ parts) (in_list m w) a h = absurd (true≢false (sym a))
alone_path (Struct n ∷ parts) (in_struct m i w) a h = absurd (true≢false (sym a))

-- ---- a leaf along its way

both_true : (x y : Bool) → x ≡ true → y ≡ true → (x && y) ≡ true
both_true true y a b = b
both_true false y a b = absurd (true≢false (sym a))

first_true : (x y : Bool) → x ≡ true → (x || y) ≡ true
first_true true y a = refl
first_true false y a = absurd (true≢false (sym a))

second_true : (x y : Bool) → y ≡ true → (x || y) ≡ true
second_true true y a = refl
second_true false y a = a

asked_nested : (asked : Asked) (row : Row) → asked ≡ A.Nested → is_allowed asked row ≡ true → row.is_nested ≡ true
asked_nested asked row e h = subst (λ q. is_allowed q row ≡ true) e h

-- what is known of a leaf of this type at the end of its path
pub record IsReadable (t : TypeTree) (parts : List InitNested) (asked : Asked) (w : Way) (row : Row) : Type 0 where
  pub has_row : row_of (record { data_type = t; is_nullable = ends_nullable w }) ≡ Some row
  pub nests : is_allowed asked row ≡ true
  pub asked_so : (asked ≡ A.Nested) ⊎ (is_alone w ≡ true)
  pub way : IsWay parts (thin w)

plain_read : (t : TypeTree) (parts : List InitNested) (asked : Asked) (w : Way) (row : Row) (p : Physical) → IsReadable t parts asked w row → is_read t p ≡ true → is_read_along parts t p ≡ true
plain_read t parts asked w row p a r =
    let nested : (reads_nested t || is_leaf_alone parts) ≡ true = elim a.asked_so [
      | inl e ↦ first_true (reads_nested t) (is_leaf_alone parts) (nests (ends_nullable w) t row a.has_row (asked_nested asked row e a.nests))
      | inr e ↦ second_true (reads_nested t) (is_leaf_alone parts) (alone_path parts w e a.way)
    ] in
    let optional : (reads_required t || ends_optional parts) ≡ true = ap (λ (b : Bool). reads_required t || b) (ends_so parts w a.way) ∙ required (ends_nullable w) t row a.has_row in
    both_true (is_read t p) _ r (both_true (reads_nested t || is_leaf_alone parts) _ nested optional)

-- ---- the entries of a dictionary along its way

may_enter : (t : TypeTree) (row : Row) → entry_row t ≡ Some row → may_be_entry t ≡ true
may_enter t_boolean row e = absurd (no_row row e)
may_enter t_null row e = absurd (no_row row e)
may_enter (t_decimal p s) row e = absurd (no_row row e)
may_enter (t_interval u) row e = absurd (no_row row e)
may_enter t row e = refl

enters_nested : (t : TypeTree) (row : Row) → entry_row t ≡ Some row → row.is_nested ≡ true → entry_nests t ≡ true
enters_nested t_uint64 row e n = absurd (row_nests _ row e refl n)
enters_nested (t_timestamp u z) row e n = absurd (row_nests _ row e refl n)
enters_nested t row e n = refl

alone_same : (parts : List InitNested) → alone_so parts ≡ is_leaf_alone parts
alone_same [] = refl
alone_same (Primitive n ∷ []) = refl
alone_same (Primitive n ∷ (p ∷ parts)) = refl
alone_same (ListOf n ∷ parts) = refl
alone_same (Struct n ∷ parts) = refl

entries_read : (key : IntegerType) (t : TypeTree) (s : Bool) (parts : List InitNested) (asked : Asked) (w : Way) (row : Row) (p : Physical) → IsReadable (t_dictionary key t s) parts asked w row → is_read (base t) p ≡ true → is_column_read parts (t_dictionary key t s) p ≡ true
entries_read key t s parts asked w row p a r =
    let nested : (entry_nests (base t) || alone_so parts) ≡ true = elim a.asked_so [
      | inl e ↦ first_true (entry_nests (base t)) (alone_so parts) (enters_nested (base t) row a.has_row (asked_nested asked row e a.nests))
      | inr e ↦ second_true (entry_nests (base t)) (alone_so parts) (alone_same parts ∙ alone_path parts w e a.way)
    ] in
    both_true (is_read (base t) p) _ r (both_true (may_be_entry (base t)) _ (may_enter (base t) row a.has_row) nested)

column_read : (t : TypeTree) (parts : List InitNested) (asked : Asked) (w : Way) (row : Row) (p : Physical) → IsReadable t parts asked w row → is_read (value_type t) p ≡ true → is_column_read parts t p ≡ true
column_read (t_dictionary key t s) parts asked w row p a r = entries_read key t s parts asked w row p a r
column_read t parts asked w row p a r = plain_read t parts asked w row p a r

pub leaf_read : (asked : Asked) (c : ArrowColumn) (l : Leaf) (t : TypeTree) (p : Path) → IsAlike asked c l → IsLeafRead c l → IsNestedSo asked c → IsPath [] c t p → is_column_read p.0 c.data_type l.physical ≡ true
leaf_read asked c l t p a r n h = column_read c.data_type p.0 asked c.way a.row l.physical (record { has_row = a.has_row; nests = a.nests; asked_so = n; way = h.way }) r
