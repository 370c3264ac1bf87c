-- Values of the type of entries are stored.
use Rattle.std.proofs.Common.{◌≡◌, ◌≢◌, ◌∙◌, ℕ, true, option_map, Option, Some, None, List, [], ◌∷◌, map, All, refl, sym, subst}
use Rattle.std.specs.List.{AllByRecursion as Each}
use Rattle.std.proofs.lemmas.List.Elements.{All-from_recursion, recursion_from_All}
use Rattle.shredding.specs.Shape.{LeafType, nothing, truths, text, binary, signed, unsigned, fixed_bytes, decimal, months, days, IsInRange}
use Rattle.shredding.specs.Shred.{Triple}
use Rattle.shredding.specs.Slot.{Value}
use Rattle.columns_core.specs.Shapes.{base, leaf_type}
use Rattle.columns_core.specs.Tree.{TypeTree}
use Rattle.pq_tree.specs.Physical.{Physical}
use Rattle.pq_files.specs.Page.{values_in}
use Rattle.pq_files.specs.Stored.{AreStored, IsStored}
use Rattle.page_statistics.specs.Spelled.{HasOwnBytes}
use Rattle.write_values.specs.Stored.{stored_value}
use Rattle.write_values.proofs.ServedTypes.{IsHeld, leaf_base, served_stored}
use Rattle.dictionary_pages.specs.Entries.{is_entry}
use Rattle.dictionary_pages.proofs.EntryTypes.{entry_kind, entry_served, is_entry_kind, kind_no_decimal}
use Rattle.write_pages.specs.Holds.{HaveBytes}

-- what is no decimal is held
not_decimal : (t : LeafType) (p : Physical) (v : Value) → t ≢ decimal → IsHeld t p v
not_decimal nothing p v n = tt
not_decimal truths p v n = tt
not_decimal text p v n = tt
not_decimal binary p v n = tt
not_decimal (signed w) p v n = tt
not_decimal (unsigned w) p v n = tt
not_decimal (fixed_bytes k) p v n = tt
not_decimal decimal p v n = absurd (n refl)
not_decimal months p v n = tt
not_decimal days p v n = tt

own_bytes : (t : LeafType) (vs : List Value) → t ≢ decimal → Each (HasOwnBytes t) vs
own_bytes t [] n = tt
own_bytes t (v ∷ vs) n = (λ e. absurd (n e), own_bytes t vs n)

module _ (u : TypeTree) (p : Physical) (are : is_entry (base u) p ≡ true) where
  abbrev t : LeafType
  t = leaf_type u

  own_kind : is_entry_kind t ≡ true
  own_kind = subst (λ (k : LeafType). is_entry_kind k ≡ true) (leaf_base u) (entry_kind (base u) p are)

  one_stored : (v : Value) → IsInRange t v → IsStored t p v (stored_value t p v)
  one_stored v h =
      let held : IsHeld (leaf_type (base u)) p v = not_decimal (leaf_type (base u)) p v (λ e. kind_no_decimal t own_kind (sym (leaf_base u) ∙ e)) in
      subst (λ (k : LeafType). IsStored k p v (stored_value k p v)) (leaf_base u)
      (served_stored (base u) p v (entry_served (base u) p are) (subst (λ (k : LeafType). IsInRange k v) (sym (leaf_base u)) h) held)

  abbrev store : Triple → Triple
  store x = record { repetition = x.repetition; definition = x.definition; «value» = option_map (stored_value t p) x.value }

  more : (r d : ℕ) (v : Option Value) (ts : List Triple) → (Each (IsInRange t) (values_in ts) → AreStored t p ts (map store ts)) → Each (IsInRange t) (values_in (record { repetition = r; definition = d; «value» = v } ∷ ts))
      → AreStored t p (record { repetition = r; definition = d; «value» = v } ∷ ts) (map store (record { repetition = r; definition = d; «value» = v } ∷ ts))
  more r d None ts f h = (record { repetition = refl; definition = refl; «value» = tt }, f h)
  more r d (Some v) ts f h = (record { repetition = refl; definition = refl; «value» = one_stored v h.0 }, f h.1)

  all_stored : (ts : List Triple) → Each (IsInRange t) (values_in ts) → AreStored t p ts (map store ts)
  all_stored [] h = tt
  all_stored (x ∷ ts) h = more x.repetition x.definition x.value ts (all_stored ts) h

  -- a column of them has a stored one
  pub entries_keep : (k : LeafType) → t ≡ k → (ts : List Triple) → All (IsInRange k) (values_in ts) → (stored : List Triple) × AreStored k p ts stored × HaveBytes k stored
  entries_keep k e ts h =
      let own : Each (IsInRange t) (values_in ts) = recursion_from_All (IsInRange t) (values_in ts) (subst (λ (x : LeafType). All (IsInRange x) (values_in ts)) (sym e) h) in
      let bytes : HaveBytes t (map store ts) = All-from_recursion (HasOwnBytes t) (values_in (map store ts)) (own_bytes t (values_in (map store ts)) (kind_no_decimal t own_kind)) in
      (map store ts, subst (λ (x : LeafType). AreStored x p ts (map store ts)) e (all_stored ts own), subst (λ (x : LeafType). HaveBytes x (map store ts)) e bytes)
