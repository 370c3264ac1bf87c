-- What is stored for decimals are bytes.
use Rattle.std.proofs.Common.{◌≡◌, ◌⊎◌, inl, inr, ℕ, zero, suc, ◌<◌, true, false, true≢false, List, [], ◌∷◌, length, map, refl, sym, subst, ◌∙◌, arith, All}
use Rattle.std.specs.List.{AllByRecursion as Each}
use Rattle.std.proofs.lemmas.List.Elements.{All-from_recursion}
use Rattle.shredding.specs.Shape.{LeafType, nothing, decimal, IsInRange}
use Rattle.shredding.specs.Parts.{Part}
use Rattle.shredding.specs.Slot.{Value, truth, number}
use Rattle.columns_core.specs.Shapes.{base, leaf_type}
use Rattle.columns_core.specs.Tree.{TypeTree}
use Rattle.columns_slots.specs.Types.{is_null_type}
use Rattle.columns_slots.specs.Slots.{IsSound, leaf_at, type_of}
use Rattle.columns_slots.specs.Tree.{ArrayTree, null_array, leaf_array, list_array, fixed_list_array, struct_array, dictionary_array}
use Rattle.levels.specs.declared.nested.Nested.{Nested}
use Rattle.levels.specs.Nested.{parts_of}
use Rattle.page_statistics.specs.Spelled.{HasOwnBytes}
use Rattle.pq_tree.specs.Physical.{Physical, int32, int64, fixed}
use Rattle.pq_files.specs.Once.{HasBytes}
use Rattle.std.specs.Int.{w128, cast_unsigned}
use Rattle.write_places.specs.Places.{path_places}
use Rattle.write_places.proofs.Values.{values_are_at_places}
use Rattle.write_values.specs.Pages.{stored_column}
use Rattle.write_values.specs.Nulls.{TellsNulls}
use Rattle.write_values.specs.Served.{is_served}
use Rattle.write_values.specs.Stored.{stored_value, stored_at}
use Rattle.write_values.proofs.DecimalBytes.{all_below}
use Rattle.write_values.proofs.ServedDeltas.{null_nothing}
use Rattle.write_values.proofs.ServedTypes.{leaf_base, no_others}
use Rattle.write_pages.specs.Holds.{HaveBytes}

decimal_bytes : (p : Physical) (v : Value) → IsInRange decimal v → HasBytes (stored_value decimal p v)
decimal_bytes int32 (number z) h = tt
decimal_bytes int64 (number z) h = tt
decimal_bytes (fixed n) (number z) h = all_below n (cast_unsigned w128 z)
decimal_bytes p (number z) h = tt
decimal_bytes p v h = absurd h

blank_bytes : (p : Physical) → HasBytes (stored_value decimal p (truth false))
blank_bytes int32 = tt
blank_bytes int64 = tt
blank_bytes (fixed n) = tt
blank_bytes p = tt

-- past the end there is a truth value
within_or : (vs : List Value) (i : ℕ) → (i < length vs) ⊎ (leaf_at vs i ≡ truth false)
within_or [] i = inr refl
within_or (v ∷ vs) zero = inl (omega arith)
within_or (v ∷ vs) (suc i) = elim (within_or vs i) [ inl l ↦ inl (omega (arith, l)) | inr e ↦ inr e ]

-- nulls alone are no decimals
no_decimals : (t : TypeTree) → is_null_type (base t) ≡ true → leaf_type t ≡ decimal → ⊥
no_decimals t s d = let e : nothing ≡ decimal = sym (null_nothing (base t) s) ∙ (leaf_base t ∙ d) in cc

-- so that masks need not tell the nulls of an array of decimals
pub decimals_told : (a : ArrayTree) (parts : List Part) → IsSound a → leaf_type (type_of a) ≡ decimal → TellsNulls a parts
decimals_told (null_array t n) parts s d = absurd (no_decimals t s d)
decimals_told (leaf_array t vs m) parts s d = tt
decimals_told (list_array t os c m) parts s d = tt
decimals_told (fixed_list_array t w n c m) parts s d = tt
decimals_told (struct_array t cs m) parts s d = tt
decimals_told (dictionary_array t ks c m) parts s d = tt

stored_bytes : (a : ArrayTree) (p : Physical) (i : ℕ) → IsSound a → is_served (base (type_of a)) p ≡ true → leaf_type (type_of a) ≡ decimal → HasBytes (stored_at a p i)
stored_bytes (leaf_array t vs m) p i s e d =
    subst (λ (l : LeafType). HasBytes (stored_value l p (leaf_at vs i))) (sym d)
    (elim (within_or vs i) [
      | inl l ↦ decimal_bytes p (leaf_at vs i) (subst (λ (k : LeafType). IsInRange k (leaf_at vs i)) (leaf_base t ∙ d) (s.2 i (truth false) l))
      | inr b ↦ subst (λ (v : Value). HasBytes (stored_value decimal p v)) (sym b) (blank_bytes p)
    ])
stored_bytes (null_array t n) p i s e d = absurd (no_decimals t s d)
stored_bytes (list_array t os c m) p i s e d = absurd (true≢false (sym e ∙ no_others (list_array t os c m) p refl s))
stored_bytes (fixed_list_array t w n c m) p i s e d = absurd (true≢false (sym e ∙ no_others (fixed_list_array t w n c m) p refl s))
stored_bytes (struct_array t cs m) p i s e d = absurd (true≢false (sym e ∙ no_others (struct_array t cs m) p refl s))
stored_bytes (dictionary_array t ks c m) p i s e d = absurd (true≢false (sym e ∙ no_others (dictionary_array t ks c m) p refl s))

each_stored : (l : LeafType) (f : ℕ → Value) (places : List ℕ) → ((i : ℕ) → HasOwnBytes l (f i)) → Each (HasOwnBytes l) (map f places)
each_stored l f [] h = tt
each_stored l f (i ∷ is) h = (h i, each_stored l f is h)

pub column_bytes : (a : ArrayTree) (p : Physical) (nested : List Nested) → IsSound a → is_served (base (type_of a)) p ≡ true → HaveBytes (leaf_type (type_of a)) (stored_column a p nested)
column_bytes a p nested s e =
    let l = leaf_type (type_of a) in
    let places = path_places (parts_of nested) in
    subst (λ (vs : List Value). All (HasOwnBytes l) vs) (sym (values_are_at_places (stored_at a p) nested))
    (All-from_recursion (HasOwnBytes l) (map (stored_at a p) places) (each_stored l (stored_at a p) places (λ i d. stored_bytes a p i s e d)))
