-- The slots of a dictionary's array by those of its keys' column.
use Rattle.std.proofs.Common.{◌≡◌, inl, inr, ℕ, zero, suc, ◌+◌, ◌<◌, ℤ, pos, negsuc, Bool, true, false, cond, Some, List, [], ◌∷◌, length, map, refl, arith, ap, sym, ◌∙◌, subst, true≢false}
use Rattle.std.specs.Prelude.{slice_index_or}
use Rattle.std.proofs.lemmas.Bool.{cases_lt, lt-ltb, le-ltb}
use Rattle.columns_core.specs.Rising.{IsWhole, whole}
use Rattle.columns_core.specs.Tree.{TypeTree}
use Rattle.columns_slots.specs.Slots.{AreKeys, slot_at, slots, tree_len}
use Rattle.columns_slots.specs.Tree.{ArrayTree, dictionary_array}
use Rattle.dictionary_columns.specs.Keys.{entry_from, found}
use Rattle.shredding.specs.Parts.{slots_from}
use Rattle.shredding.specs.Slot.{Slot, Value, truth, number, bytes, null, value, items, fields}
use Rattle.dictionary_leaves.specs.KeySlots.{AreKeysOf, IsKeyOf}

-- ---- an entry

run-at : (f : ℕ → Slot) (place n i : ℕ) (vs : List Value) → slots_from f place n ≡ map value vs → i < length vs → f (place + i) ≡ value (entry_from vs i)
unfolding slots_from
run-at f place n i [] e h = absurd (omega (arith, h))
run-at f place zero i (v ∷ vs) e h = absurd (cc e)
run-at f place (suc n) zero (v ∷ vs) e h =
    let here : place + 0 ≡ place = omega arith in
    ap f here ∙ cc e
run-at f place (suc n) (suc i) (v ∷ vs) e h =
    let there : place + suc i ≡ (place + 1) + i = omega arith in
    ap f there ∙ run-at f (place + 1) n i vs (cc e) (omega (arith, h))

entry-slot : (a : ArrayTree) (vs : List Value) (i : ℕ) → slots a ≡ map value vs → i < length vs → slot_at a i ≡ value (entry_from vs i)
entry-slot a vs i e h =
    let same : i ≡ 0 + i = omega arith in
    ap (slot_at a) same ∙ run-at (slot_at a) 0 (tree_len a) i vs e h

-- ---- one key

found-key : (vs : List Value) (i : ℕ) → i < length vs → found vs (value (number (pos i))) ≡ value (entry_from vs i)
found-key vs i h = rw (lt-ltb i (length vs) h) refl

found-none : (vs : List Value) (s : Slot) → ((i : ℕ) → i < length vs → s ≡ value (number (pos i)) → ⊥) → null ≡ found vs s
found-none vs null h = refl
found-none vs (items ss) h = refl
found-none vs (fields ss) h = refl
found-none vs (value (truth b)) h = refl
found-none vs (value (bytes s)) h = refl
found-none vs (value (number (negsuc i))) h = refl
found-none vs (value (number (pos i))) h = elim (cases_lt i (length vs)) [
  | inl less ↦ absurd (h i less refl)
  | inr more ↦ rw (le-ltb i (length vs) more) refl
]

key-slot : (a : ArrayTree) (vs : List Value) (s : Slot) (b : Bool) (key : ℤ) → slots a ≡ map value vs → IsKeyOf (length vs) s b key → cond b (slot_at a (whole key)) null ≡ found vs s
key-slot a vs s true key e k = ap (λ (z : ℤ). slot_at a (whole z)) k.2 ∙ (entry-slot a vs k.0 e k.1 ∙ (sym (found-key vs k.0 k.1) ∙ ap (found vs) (sym k.3)))
key-slot a vs s false key e k = found-none vs s k

-- ---- all keys

keys-run : (a : ArrayTree) (vs : List Value) (f : ℕ → Slot) (place : ℕ) (leaf : List Slot) (bits : List Bool) (keys : List ℤ) → slots a ≡ map value vs → AreKeysOf (length vs) leaf bits keys → ((i : ℕ) → i < length keys → f (place + i) ≡ cond (slice_index_or bits i true) (slot_at a (whole (slice_index_or keys i (pos 0)))) null) → slots_from f place (length keys) ≡ map (found vs) leaf
unfolding slots_from
keys-run a vs f place [] [] [] e k same = refl
keys-run a vs f place [] [] (z ∷ keys) e k same = absurd k
keys-run a vs f place [] (b ∷ bits) keys e k same = absurd k
keys-run a vs f place (s ∷ leaf) [] keys e k same = absurd k
keys-run a vs f place (s ∷ leaf) (b ∷ bits) [] e k same = absurd k
keys-run a vs f place (s ∷ leaf) (b ∷ bits) (z ∷ keys) e k same =
    let head : f place ≡ found vs s = ap f (omega arith) ∙ (same 0 (omega arith) ∙ key-slot a vs s b z e k.0) in
    let rest = keys-run a vs f (place + 1) leaf bits keys e k.1 (λ i h. ap f (omega arith) ∙ same (suc i) (omega (arith, h))) in
    cc (head, rest)

pub dictionary_slots : (t : TypeTree) (a : ArrayTree) (vs : List Value) (leaf : List Slot) (bits : List Bool) (keys : List ℤ) → slots a ≡ map value vs → AreKeysOf (length vs) leaf bits keys → slots (dictionary_array t keys a (Some bits)) ≡ map (found vs) leaf
dictionary_slots t a vs leaf bits keys e k = keys-run a vs (slot_at (dictionary_array t keys a (Some bits))) 0 leaf bits keys e k (λ i h. ap (slot_at (dictionary_array t keys a (Some bits))) (omega arith))

pub keys_fit : (n : ℕ) (leaf : List Slot) (bits : List Bool) (keys : List ℤ) → AreKeysOf n leaf bits keys → AreKeys (Some bits) keys n
keys_fit n [] [] [] k i h there = absurd (omega (arith, h))
keys_fit n [] [] (z ∷ keys) k i h there = absurd k
keys_fit n [] (b ∷ bits) keys k i h there = absurd k
keys_fit n (s ∷ leaf) [] keys k i h there = absurd k
keys_fit n (s ∷ leaf) (b ∷ bits) [] k i h there = absurd k
keys_fit n (s ∷ leaf) (b ∷ bits) (z ∷ keys) k (suc i) h there = keys_fit n leaf bits keys k.1 i (omega (arith, h)) there
keys_fit n (s ∷ leaf) (false ∷ bits) (z ∷ keys) k zero h there = absurd (true≢false (sym there))
keys_fit n (s ∷ leaf) (true ∷ bits) (z ∷ keys) k zero h there =
    (subst IsWhole (sym k.0.2) tt, subst (λ (y : ℤ). whole y < n) (sym k.0.2) k.0.1)
