-- The tree of a schema and why it is refused.
use Rattle.std.proofs.Common.{◌≡◌, ℕ, ◌<◌, List, codes, false, Some, ◌⊎◌, inl, inr, Result, Ok, Err, IfOk, IfErr, refl, ap, sym, subst, ◌∙◌, arith}
use Rattle.columns_core.specs.Tree.{FieldTrees}
use Rattle.columns_base.specs.declared.error.Error.{Error}
use Rattle.columns_base.specs.declared.error.Error.TheVariants.{Memory, NotYetImplemented}
use Rattle.columns_base.specs.declared.error.N.TheVariants.{N7}
use Rattle.pq_tree.specs.Tree.{nesting_of}
use Rattle.pq_tree.specs.TreeViews.{trees_view, schema_view}
use Rattle.pq_tree.specs.declared.types.ParquetType.{ParquetType}
use Rattle.pq_tree.specs.declared.schema.SchemaDescriptor.{SchemaDescriptor}
use Rattle.schema_to_tree.specs.Table.{trees_of, schema_of}
use Rattle.schema_to_tree.specs.Conditions.{is_bad_time64, some_fields, AreWritten, RefusesSchema}
use Rattle.schema_to_tree.specs.Faults.{fields_fault}
use Rattle.schema_to_tree.proofs.Faulty.{schema-refused}

pub schema_answered : (fs : FieldTrees) (ts : List ParquetType) (name : List ℕ) (r : Result SchemaDescriptor Error) → IfOk r (λ s. s.name ≡ name) → IfOk r (λ s. s.fields ≡ ts)
    → name ≡ codes "root" → trees_view ts ≡ trees_of fs → AreWritten fs → IfOk r (λ s. (schema_view s ≡ schema_of fs) × AreWritten fs)
schema_answered fs ts name (Ok s) a b c d w =
    let e : s.name ≡ codes "root" = a ∙ c in
    let t : trees_view s.fields ≡ trees_of fs = ap trees_view b ∙ d in
    (rw (e, t) refl, w)
schema_answered fs ts name (Err e) a b c d w = tt

pub schema_short : (fs : FieldTrees) (ts : List ParquetType) (r : Result SchemaDescriptor Error) → IfErr r (λ e. (e ≡ Memory) ⊎ ((e ≡ NotYetImplemented N7) × (127 < nesting_of (trees_view ts))))
    → trees_view ts ≡ trees_of fs → IfErr r (RefusesSchema fs)
schema_short fs ts (Ok s) h d = tt
schema_short fs ts (Err e) (inl is) d = subst (λ (x : Error). RefusesSchema fs x) (sym is) tt
schema_short fs ts (Err e) (inr (is, deep)) d =
    let deeper : 127 < nesting_of (trees_of fs) = subst (λ u. 127 < nesting_of u) d deep in subst (λ (x : Error). RefusesSchema fs x) (sym is) (inr (omega arith))

pub schema_refuses : (fs : FieldTrees) (e : Error) → (e ≡ Memory) ⊎ (fields_fault fs ≡ Some e) → some_fields is_bad_time64 fs ≡ false → RefusesSchema fs e
schema_refuses fs e (inl is) t = subst (λ (x : Error). RefusesSchema fs x) (sym is) tt
schema_refuses fs e (inr is) t = schema-refused fs e is t
