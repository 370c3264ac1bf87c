-- A schema that passed its stage is not refused at it.
use Rattle.std.proofs.Common.{◌≡◌, ◌⊎◌, suc, true, false, List, [], ◌∷◌, length, Option, Some, None, refl, sym, ap, subst, ◌∙◌, inl, inr, arith, true≢false, is_some}
use Rattle.std.specs.List.{AllZip}
use Rattle.columns_base.specs.declared.error.Error.{Error}
use Rattle.columns_base.specs.declared.error.Error.TheVariants.{OutOfSpec, NotYetImplemented, InvalidArgumentError}
use Rattle.columns_base.specs.declared.error.S.TheVariants as S
use Rattle.columns_base.specs.declared.error.N.TheVariants as N
use Rattle.columns_base.specs.declared.error.A.TheVariants as A
use Rattle.columns_core.specs.Tree.{FieldTree, FieldTrees, no_fields, more_fields}
use Rattle.columns_core.specs.View.{SchemaTree}
use Rattle.pq_metadata.specs.Footer.{Footer}
use Rattle.pq_tree.specs.Tree.{Tree}
use Rattle.pq_files.specs.Reasons.{AnyOf, AnyZip}
use Rattle.schema_fit.specs.Fits.{agrees_with}
use Rattle.schema_key.specs.declared.infer.KeyRule.{KeyRule}
use Rattle.schema_map.specs.Rows.{HasRows as FieldHasRows}
use Rattle.schema_to_tree.specs.Conditions.{RefusesSchema}
use Rattle.pq_headline.specs.Rewrites.{Codec, InfersSchema}
use Rattle.pq_headline.specs.Served.{are_served_fields}
use Rattle.pq_headline.specs.Stages.{HaveRows, Misfits, RefusesSchema6, SchemaFits, fields_with_columns, list_fields, trees_with_columns}

abbrev or_else : {A : Type 0} → A → Option A → A
or_else a None = a
or_else a (Some b) = b

-- one schema is inferred
same_schema : (codec : Codec) (rule : KeyRule) (f : Footer) (s other : SchemaTree) → InfersSchema codec rule f s → InfersSchema codec rule f other → s ≡ other
same_schema codec rule f s other a b = ap (or_else s) (sym a ∙ b)

zipped_lengths : {A B : Type 0} (R : A → B → Type 0) (xs : List A) (ys : List B) → AllZip R xs ys → length xs ≡ length ys
zipped_lengths R [] [] h = refl
zipped_lengths R [] (y ∷ ys) h = absurd h
zipped_lengths R (x ∷ xs) [] h = absurd h
zipped_lengths R (x ∷ xs) (y ∷ ys) h = ap suc (zipped_lengths R xs ys h.1)

-- each pair agrees, and none does not
no_pair : (fs : List FieldTree) (ts : List Tree) → AllZip (λ g t. agrees_with g t ≡ true) fs ts → AnyZip (λ g t. agrees_with g t ≡ false) fs ts → ⊥
no_pair [] [] a h = h
no_pair [] (t ∷ ts) a h = h
no_pair (f ∷ fs) [] a h = h
no_pair (f ∷ fs) (t ∷ ts) a (inl h) = true≢false (sym a.0 ∙ h)
no_pair (f ∷ fs) (t ∷ ts) a (inr h) = no_pair fs ts a.1 h

no_misfit : (fs : FieldTrees) (f : Footer) → SchemaFits fs f → Misfits fs f.schema.fields → ⊥
no_misfit fs f fit (inl h) = h (zipped_lengths (λ g t. agrees_with g t ≡ true) (fields_with_columns fs) (trees_with_columns f.schema.fields) fit.agree)
no_misfit fs f fit (inr h) = no_pair (fields_with_columns fs) (trees_with_columns f.schema.fields) fit.agree h

no_rowless : (fs : FieldTrees) → HaveRows fs → AnyOf (λ g. ¬ FieldHasRows g) (list_fields fs) → ⊥
no_rowless no_fields a h = h
no_rowless (more_fields f fs) a (inl h) = h a.0
no_rowless (more_fields f fs) a (inr h) = no_rowless fs a.1 h

-- of the schema that fits
pub sixth : (codec : Codec) (rule : KeyRule) (f : Footer) (s : SchemaTree) (e : Error) → InfersSchema codec rule f s → SchemaFits s.fields f → RefusesSchema6 codec rule f e → ⊥
sixth codec rule f s (InvalidArgumentError A.A2) i fit h = true≢false (ap is_some (sym i ∙ h))
sixth codec rule f s (InvalidArgumentError A.A3) i fit h = fit.some (subst (λ (x : SchemaTree). x.fields ≡ no_fields) (same_schema codec rule f h.0 s h.1 i) h.2)
sixth codec rule f s (OutOfSpec S.S8) i fit h = no_misfit s.fields f fit (subst (λ (x : SchemaTree). Misfits x.fields f.schema.fields) (same_schema codec rule f h.0 s h.1 i) h.3)
sixth codec rule f s (NotYetImplemented N.N6) i fit h = no_misfit s.fields f fit (subst (λ (x : SchemaTree). Misfits x.fields f.schema.fields) (same_schema codec rule f h.0 s h.1 i) h.3)
sixth codec rule f s (NotYetImplemented N.N5) i fit h =
    not_n5 (subst (λ (x : SchemaTree). RefusesSchema x.fields (NotYetImplemented N.N5) ⊎ AnyOf (λ g. ¬ FieldHasRows g) (list_fields x.fields) ⊎ (are_served_fields x.fields ≡ false)) (same_schema codec rule f h.0 s h.1 i) h.2)
  where
    not_n5 : RefusesSchema s.fields (NotYetImplemented N.N5) ⊎ AnyOf (λ g. ¬ FieldHasRows g) (list_fields s.fields) ⊎ (are_served_fields s.fields ≡ false) → ⊥
    not_n5 (inl k) = true≢false (sym k.0 ∙ fit.written.types)
    not_n5 (inr (inl k)) = no_rowless s.fields fit.rows k
    not_n5 (inr (inr k)) = true≢false (sym fit.served ∙ k)
sixth codec rule f s (NotYetImplemented N.N7) i fit h =
    not_n7 (subst (λ (x : SchemaTree). RefusesSchema x.fields (NotYetImplemented N.N7)) (same_schema codec rule f h.0 s h.1 i) h.2)
  where
    not_n7 : RefusesSchema s.fields (NotYetImplemented N.N7) → ⊥
    not_n7 (inl k) = omega (arith, k, fit.written.type_nesting)
    not_n7 (inr k) = omega (arith, k, fit.written.tree_nesting)
sixth codec rule f s (InvalidArgumentError A.A4) i fit h =
    let k = subst (λ (x : SchemaTree). RefusesSchema x.fields (InvalidArgumentError A.A4)) (same_schema codec rule f h.0 s h.1 i) h.2 in
    true≢false (sym k ∙ fit.written.structs)
sixth codec rule f s (InvalidArgumentError A.A5) i fit h =
    let k = subst (λ (x : SchemaTree). RefusesSchema x.fields (InvalidArgumentError A.A5)) (same_schema codec rule f h.0 s h.1 i) h.2 in
    true≢false (sym k ∙ fit.written.decimals)
sixth codec rule f s (InvalidArgumentError A.A6) i fit h =
    let k = subst (λ (x : SchemaTree). RefusesSchema x.fields (InvalidArgumentError A.A6)) (same_schema codec rule f h.0 s h.1 i) h.2 in
    true≢false (sym k ∙ fit.written.times)
sixth codec rule f s e i fit h = h
