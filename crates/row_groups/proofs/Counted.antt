-- Fields and their encodings, one by one.
use Rattle.std.proofs.Common.{◌≡◌, ◌⊎◌, inl, inr, ℕ, suc, ◌+◌, ◌≤◌, List, [], ◌∷◌, length, map, drop, Vec, refl, ap, sym, subst, ◌∙◌, arith}
use Rattle.std.specs.Global.{Global}
use Rattle.std.specs.Prelude.{string_bytes, IfErr, Ok, Err, Result}
use Rattle.columns_base.specs.declared.error.A.TheVariants.{A8}
use Rattle.columns_base.specs.declared.error.Error.{Error}
use Rattle.columns_base.specs.declared.error.Error.TheVariants.{InvalidArgumentError, Memory}
use Rattle.columns_slots.specs.Tree.{ArrayTrees}
use Rattle.typed_rows.specs.Own.{AreRowsOf}
use Rattle.write_groups.specs.Columns.{AreSoMany, RefusesFields}
use Rattle.write_groups.specs.declared.group.RowGroupIter.{RowGroupIter}
use Rattle.write_pages.specs.declared.options.WriteOptions.{WriteOptions}
use Rattle.columns_core.specs.Measures.{fields_nesting, nesting}
use Rattle.columns_core.specs.Tree.{FieldTree, FieldTrees, TypeTree, field, more_fields}
use Rattle.columns_core.specs.View.{field_step, field_view, fields_view, type_step, type_view}
use Rattle.columns_core.specs.declared.types.Field.{Field, fold_out-Field}
use Rattle.pq_tree.specs.Tree.{Trees, count_trees}
use Rattle.pq_tree.specs.TreeViews.{trees_view}
use Rattle.pq_tree.specs.declared.types.Encoding.{Encoding}
use Rattle.pq_tree.specs.declared.types.ParquetType.{ParquetType}
use Rattle.row_groups.specs.Groups.{AreNumbered, IsNumbered, RefusesGroup}

abbrev pub lists : List (Vec Encoding Global) → List (List Encoding)
lists ess = map (λ es. es.items) ess

seen : (f : Field) → field_view f ≡ field (string_bytes f.name) (type_view f.data_type) f.is_nullable f.metadata
seen f = fold_out-Field TypeTree FieldTree type_step field_step f

opened : (f : Field) (fs : List Field) → fields_view (f ∷ fs) ≡ more_fields (field (string_bytes f.name) (type_view f.data_type) f.is_nullable f.metadata) (fields_view fs)
opened f fs = ap (λ (t : FieldTree). more_fields t (fields_view fs)) (seen f)

numbered_open : (f : Field) (fs : List Field) (es : Vec Encoding Global) (ess : List (Vec Encoding Global)) → AreNumbered (fields_view (f ∷ fs)) (lists (es ∷ ess)) → IsNumbered (type_view f.data_type) es.items × AreNumbered (fields_view fs) (lists ess)
numbered_open f fs es ess h = subst (λ (t : FieldTrees). AreNumbered t (lists (es ∷ ess))) (opened f fs) h

pub same_number : (fs : List Field) (ess : List (Vec Encoding Global)) → AreNumbered (fields_view fs) (lists ess) → length fs ≡ length ess
same_number [] [] h = refl
same_number [] (es ∷ ess) h = absurd h
same_number (f ∷ fs) [] h = let g = subst (λ (t : FieldTrees). AreNumbered t []) (opened f fs) h in absurd g
same_number (f ∷ fs) (es ∷ ess) h = ap suc (same_number fs ess (numbered_open f fs es ess h).1)

module _ (fs : List Field) (ess : List (Vec Encoding Global)) (i : ℕ) (f : Field) (es : Vec Encoding Global) (lf : drop i fs ≡ f ∷ drop (i + 1) fs) (le : drop i ess ≡ es ∷ drop (i + 1) ess) where
  pub numbered_step : AreNumbered (fields_view (drop i fs)) (lists (drop i ess)) → IsNumbered (type_view f.data_type) es.items × AreNumbered (fields_view (drop (i + 1) fs)) (lists (drop (i + 1) ess))
  numbered_step h =
      numbered_open f (drop (i + 1) fs) es (drop (i + 1) ess)
      (subst (λ (ys : List (Vec Encoding Global)). AreNumbered (fields_view (f ∷ drop (i + 1) fs)) (lists ys)) le
      (subst (λ (ys : List Field). AreNumbered (fields_view ys) (lists (drop i ess))) lf h))

  pub numbered_more : IsNumbered (type_view f.data_type) es.items → AreNumbered (fields_view (drop (i + 1) fs)) (lists (drop (i + 1) ess)) → AreNumbered (fields_view (drop i fs)) (lists (drop i ess))
  numbered_more e h =
      subst (λ (ys : List Field). AreNumbered (fields_view ys) (lists (drop i ess))) (sym lf)
      (subst (λ (ys : List (Vec Encoding Global)). AreNumbered (fields_view (f ∷ drop (i + 1) fs)) (lists ys)) (sym le)
      (subst (λ (t : FieldTrees). AreNumbered t (lists (es ∷ drop (i + 1) ess))) (sym (opened f (drop (i + 1) fs))) (e, h)))

  pub shallow_step : fields_nesting (fields_view (drop i fs)) ≤ 128 → (nesting (type_view f.data_type) ≤ 128) × (fields_nesting (fields_view (drop (i + 1) fs)) ≤ 128)
  shallow_step h =
      let g = subst (λ (t : FieldTrees). fields_nesting t ≤ 128) (opened f (drop (i + 1) fs)) (subst (λ (ys : List Field). fields_nesting (fields_view ys) ≤ 128) lf h) in
      (omega (arith, g), omega (arith, g))

pub counted : (xs : List ParquetType) → count_trees (trees_view xs) ≡ length xs
counted [] = refl
counted (x ∷ xs) = ap suc (counted xs)

pub listed : (ess : List (Vec Encoding Global)) → length (lists ess) ≡ length ess
listed [] = refl
listed (es ∷ ess) = ap suc (listed ess)

-- why there is no group
pub refuses_group : (fs : FieldTrees) (ts : Trees) (ess : List (List Encoding)) (o : WriteOptions) (chunk : ArrayTrees) (encodings : List (Vec Encoding Global)) (trees : List ParquetType) (r : Result RowGroupIter Error) → AreRowsOf fs chunk
    → trees_view trees ≡ ts → lists encodings ≡ ess
    → IfErr r (λ e. (e ≡ Memory) ⊎ ((e ≡ InvalidArgumentError A8) × (¬ AreSoMany chunk (length encodings) (length trees))) ⊎ RefusesFields o chunk (trees_view trees) (lists encodings) e)
    → IfErr r (λ e. RefusesGroup fs ts ess o chunk e)
refuses_group fs ts ess o chunk encodings trees (Ok g) rows a b h = tt
refuses_group fs ts ess o chunk encodings trees (Err e) rows a b h = inr (rows, by h)
  where
    by : (e ≡ Memory) ⊎ ((e ≡ InvalidArgumentError A8) × (¬ AreSoMany chunk (length encodings) (length trees))) ⊎ RefusesFields o chunk (trees_view trees) (lists encodings) e
        → (e ≡ Memory) ⊎ ((e ≡ InvalidArgumentError A8) × (¬ AreSoMany chunk (length ess) (count_trees ts))) ⊎ RefusesFields o chunk ts ess e
    by (inl m) = inl m
    by (inr (inl q)) = inr (inl (q.0, λ n. q.1 (sym (listed encodings) ∙ (ap length b ∙ n.0), sym (counted trees) ∙ (ap count_trees a ∙ n.1))))
    by (inr (inr f)) = inr (inr (subst (λ (x : Trees). RefusesFields o chunk x ess e) a (subst (λ (y : List (List Encoding)). RefusesFields o chunk (trees_view trees) y e) b f)))
