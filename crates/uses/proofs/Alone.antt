-- What no answer of a call is.
use Rattle.std.proofs.Common.{◌≡◌, ◌⊎◌, ◌<◌, ◌≤◌, ◌-◌, ℕ, List, [], ◌∷◌, length, flat_map, Option, Some, None, Result, Ok, Err, inl, inr, sym, ap, subst, ◌∙◌, arith, is_some, true≢false}
use Rattle.std.specs.Prelude.{IfErr}
use Rattle.std.proofs.lemmas.List.{append-nil}
use Rattle.columns_base.specs.declared.error.Error.{Error}
use Rattle.columns_base.specs.declared.error.Error.TheVariants.{InvalidArgumentError, Memory, NotYetImplemented}
use Rattle.columns_base.specs.declared.error.A.TheVariants.{A2}
use Rattle.columns_base.specs.declared.error.N.TheVariants.{N7}
use Rattle.columns_core.specs.Measures.{fields_nesting}
use Rattle.columns_core.specs.View.{SchemaTree}
use Rattle.columns_slots.proofs.Rows.{slots_counted}
use Rattle.columns_slots.specs.Slots.{slots, tree_len}
use Rattle.columns_slots.specs.Tree.{ArrayTree}
use Rattle.pq_headline.specs.Openings.{Opening, IsItem, piece_size}
use Rattle.schema_to_tree.specs.Conditions.{RefusesSchema}
use Rattle.uses.specs.Schemas.{IsTooLong}

-- of a field that is read in one piece there is no second array
pub only_one : (o : Opening) (a b : ArrayTree) → o.chunk_size ≡ None → IsItem o 0 a → IsItem o (length (flat_map slots (a ∷ []))) b → ⊥
only_one o a b none x y =
    let all : length (flat_map slots (a ∷ [])) ≡ tree_len a = ap length (append-nil (slots a)) ∙ slots_counted a in
    let first : tree_len a ≡ o.rows - 0 = subst (λ (n : Option ℕ). tree_len a ≡ piece_size n (o.rows - 0)) none x.count in
    let second : tree_len b ≡ o.rows - length (flat_map slots (a ∷ [])) = subst (λ (n : Option ℕ). tree_len b ≡ piece_size n (o.rows - length (flat_map slots (a ∷ [])))) none y.count in
    omega (arith, all, first, second, y.some)

abbrev or_else : {A : Type 0} → A → Option A → A
or_else a None = a
or_else a (Some b) = b

-- where a schema is inferred that nests within the limit, memory alone is wanting
pub wants_memory : {S : Type 0} (o : Option SchemaTree) (s : SchemaTree) (bytes : List ℕ) (r : Result S Error) → o ≡ Some s → fields_nesting s.fields ≤ 128
    → IfErr r (λ e. (e ≡ Memory) ⊎ ((e ≡ InvalidArgumentError A2) × (o ≡ None)) ⊎ ((e ≡ NotYetImplemented N7) × (t : SchemaTree) × (o ≡ Some t) × (128 < fields_nesting t.fields)))
    → IfErr r (λ e. RefusesSchema s.fields e ⊎ IsTooLong bytes e)
wants_memory o s bytes (Ok x) is few h = tt
wants_memory o s bytes (Err e) is few (inl m) = inl (subst (RefusesSchema s.fields) (sym m) tt)
wants_memory o s bytes (Err e) is few (inr (inl x)) = absurd (true≢false (ap is_some (sym is ∙ x.1)))
wants_memory o s bytes (Err e) is few (inr (inr x)) =
    let same : x.1 ≡ s = ap (or_else s) (sym x.2 ∙ is) in
    absurd (omega (arith, few, subst (λ (t : SchemaTree). 128 < fields_nesting t.fields) same x.3))
