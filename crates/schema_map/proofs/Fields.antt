-- A field fits its tree where each of its leaves has a row, and nowhere else.
use Rattle.std.proofs.Common.{◌≡◌, ◌≤◌, suc, arith, Bool, true, false, Option, Some, None, refl, sym, subst, true≢false}
use Rattle.std.proofs.lemmas.Bool.{and_parts}
use Rattle.columns_core.specs.Tree.{TypeTree, t_list, t_large_list, t_struct, t_map, t_dictionary, t_extension, FieldTree, field, FieldTrees, no_fields, more_fields}
use Rattle.columns_core.specs.Measures.{fields_nesting}
use Rattle.columns_core.specs.Shapes.{base}
use Rattle.pq_tree.specs.Tree.{Tree, Schema, nesting, nesting_of}
use Rattle.pq_tree.specs.Types.{Info, optional, required, repeated}
use Rattle.schema_fit.specs.declared.page_table.Asked.{Asked}
use Rattle.schema_fit.specs.declared.page_table.Asked.TheVariants as A
use Rattle.schema_fit.specs.declared.page_table.Row.{Row}
use Rattle.schema_fit.specs.Fits.{asked_of, fits_to}
use Rattle.schema_fit.specs.PageTable.{row_of, is_allowed, go_by, go_together}
use Rattle.schema_fit.specs.Skeleton.{no_bones, and_then, under, StoredLeaf, ArrowLeaf, type_bones, field_bones, fields_bones, tree_bones, trees_bones, same_bones}
use Rattle.schema_map.specs.Laws.{EachFits, WrittenFieldsFit, WrittenSchemasFit, RowsDecide, FittingFieldsAgree}
use Rattle.schema_map.specs.Rows.{all_bones, allows_asked, has_row, HasRows}
use Rattle.schema_map.proofs.Bones.{all_beneath, all_parts, same_under, same_and_then, same_alone, all_of_same, same_of_same}
use Rattle.schema_map.proofs.Leaves.{value_fits, dictionary_fits}
use Rattle.schema_to_tree.specs.Table.{named, type_tree, tree_of, trees_of}

module _ (asked : Asked) where
  -- a list or a map of the field, in an optional or a required group over a repeated one
  over_fits : (i : Info) (f : FieldTree) → same_bones (go_together asked) (field_bones f) (tree_bones (tree_of f)) ≡ true
      → same_bones (go_together asked) (under i.repetition (under repeated (field_bones f))) (tree_bones (type_tree i (t_list f))) ≡ true
  over_fits i f h =
      let g = go_together asked in
      let inner = same_under g repeated (field_bones f) (and_then (tree_bones (tree_of f)) no_bones) (same_alone g (field_bones f) (tree_bones (tree_of f)) h) in
      same_under g i.repetition (under repeated (field_bones f)) (and_then (under repeated (and_then (tree_bones (tree_of f)) no_bones)) no_bones)
      (same_alone g (under repeated (field_bones f)) (under repeated (and_then (tree_bones (tree_of f)) no_bones)) inner)

  mutual
    type_fits : (t : TypeTree) (i : Info) (b : Bool) → all_bones (has_row asked) (type_bones b t) ≡ true → same_bones (go_together asked) (under i.repetition (type_bones b t)) (tree_bones (type_tree i t)) ≡ true
    type_fits (t_list f) i b h = over_fits i f (field_fits f (all_beneath (has_row asked) repeated (field_bones f) h))
    type_fits (t_large_list f) i b h = over_fits i f (field_fits f (all_beneath (has_row asked) repeated (field_bones f) h))
    type_fits (t_map f sorted) i b h = over_fits i f (field_fits f (all_beneath (has_row asked) repeated (field_bones f) h))
    type_fits (t_struct fs) i b h = same_under (go_together asked) i.repetition (fields_bones fs) (trees_bones (trees_of fs)) (fields_fit fs h)
    type_fits (t_extension name t m) i b h = type_fits t i b h
    type_fits (t_dictionary keys values sorted) i b h = dictionary_fits asked i (record { data_type = t_dictionary keys values sorted; is_nullable = b }) values refl refl (and_parts _ _ h).0
    type_fits t i b h = value_fits asked i b t refl (and_parts (has_row asked (record { data_type = t; is_nullable = b })) true h).0

    field_fits : (f : FieldTree) → all_bones (has_row asked) (field_bones f) ≡ true → same_bones (go_together asked) (field_bones f) (tree_bones (tree_of f)) ≡ true
    field_fits (field name t true m) h = type_fits t (named name optional) true (all_beneath (has_row asked) optional (type_bones true t) h)
    field_fits (field name t false m) h = type_fits t (named name required) false (all_beneath (has_row asked) required (type_bones false t) h)

    fields_fit : (fs : FieldTrees) → all_bones (has_row asked) (fields_bones fs) ≡ true → same_bones (go_together asked) (fields_bones fs) (trees_bones (trees_of fs)) ≡ true
    fields_fit no_fields h = refl
    fields_fit (more_fields f fs) h =
        let parts = all_parts (has_row asked) (field_bones f) (fields_bones fs) h in
        same_and_then (go_together asked) (field_bones f) (tree_bones (tree_of f)) (fields_bones fs) (trees_bones (trees_of fs)) (field_fits f parts.0) (fields_fit fs parts.1)

pub rows_fit : (f : FieldTree) → HasRows f → fits_to f (tree_of f) ≡ true
rows_fit (field name t b m) h = field_fits (asked_of (base t)) (field name t b m) h

-- ---- the fields of a schema

each_fits : (fs : FieldTrees) → fields_nesting fs ≤ 128 → nesting_of (trees_of fs) ≤ 128 → EachFits fs (trees_of fs)
each_fits no_fields shallow low = tt
each_fits (more_fields f fs) shallow low =
    (λ rows. record { field_depth = omega (arith, shallow); tree_depth = omega (arith, low); fits = rows_fit f rows }, each_fits fs (omega (arith, shallow)) (omega (arith, low)))

pub written_schemas_fit : WrittenSchemasFit
written_schemas_fit fs s written =
    let low : suc (nesting_of (trees_of fs)) ≤ 128 = written.1.tree_nesting in
    subst (λ (other : Schema). EachFits fs other.fields) (sym written.0) (each_fits fs written.1.type_nesting (omega (arith, low)))

-- ---- and the other way

abbrev is_strict : Asked → Bool
is_strict A.Agreement = false
is_strict asked = true

strict : (t : TypeTree) → is_strict (asked_of t) ≡ true
strict (t_list f) = refl
strict (t_large_list f) = refl
strict (t_map f sorted) = refl
strict (t_struct fs) = refl
strict t = refl

row_needed : (asked : Asked) (row : Option Row) (t : TypeTree) (l : StoredLeaf) → is_strict asked ≡ true → go_by asked row t l ≡ true → allows_asked asked row ≡ true
row_needed A.Agreement row t l s h = absurd (true≢false (sym s))
row_needed A.Flat None t l s h = h
row_needed A.Nested None t l s h = h
row_needed A.Flat (Some row) t l s h = (and_parts _ _ h).0
row_needed A.Nested (Some row) t l s h = (and_parts _ _ h).0

pub fits_rows : (f : FieldTree) → fits_to f (tree_of f) ≡ true → HasRows f
fits_rows (field name t b m) h =
    let asked = asked_of (base t) in
    all_of_same (go_together asked) (has_row asked) (λ (a : ArrowLeaf) (l : StoredLeaf) k. row_needed asked (row_of a) a.data_type l (strict (base t)) k) (field_bones (field name t b m)) (tree_bones (tree_of (field name t b m))) h

pub written_fields_fit : WrittenFieldsFit
written_fields_fit f t written rows =
    record {
      field_depth = written.1.type_nesting;
      tree_depth = subst (λ (u : Tree). nesting u ≤ 128) (sym written.0) written.1.tree_nesting;
      fits = subst (λ (u : Tree). fits_to f u ≡ true) (sym written.0) (rows_fit f rows);
    }

pub rows_decide : RowsDecide
rows_decide f = (fits_rows f, rows_fit f)

-- ---- and agreement

row_agrees : (asked : Asked) (row : Option Row) (t : TypeTree) (l : StoredLeaf) → go_by asked row t l ≡ true → go_by A.Agreement row t l ≡ true
row_agrees asked None t l h = refl
row_agrees A.Agreement (Some row) t l h = h
row_agrees A.Flat (Some row) t l h = (and_parts (is_allowed A.Flat row) (go_by A.Agreement (Some row) t l) h).1
row_agrees A.Nested (Some row) t l h = (and_parts (is_allowed A.Nested row) (go_by A.Agreement (Some row) t l) h).1

pub fitting_fields_agree : FittingFieldsAgree
fitting_fields_agree (field name t b m) tree h =
    let asked = asked_of (base t) in
    same_of_same (go_together asked) (go_together A.Agreement) (λ (a : ArrowLeaf) (l : StoredLeaf) k. row_agrees asked (row_of a) a.data_type l k) (field_bones (field name t b m)) (tree_bones tree) h
