-- Triples of keys, stored and not, and with their entries.
use Rattle.std.proofs.Common.{◌≡◌, ℕ, zero, suc, ◌<◌, ◌≤◌, pos, Option, Some, None, List, [], ◌∷◌, map, length, All, refl, arith, ap, sym, subst, ◌∙◌}
use Rattle.std.specs.Prelude.{option_map}
use Rattle.std.specs.Int.{cast_unsigned, w32, w64}
use Rattle.std.specs.List.{AllZip, cons_option}
use Rattle.std.proofs.lemmas.Int.{to_z_pos}
use Rattle.std.proofs.lemmas.List.Elements.{All-head, All-tail}
use Rattle.columns_core.specs.Shapes.{leaf_type}
use Rattle.columns_core.specs.declared.types.IntegerType.{IntegerType}
use Rattle.columns_core.specs.declared.types.IntegerType.TheVariants as K
use Rattle.pq_files.specs.Page.{values_in}
use Rattle.pq_files.specs.Stored.{AreStored, IsStored, IsStoredOption}
use Rattle.pq_headline.specs.FieldReasons.{key_room}
use Rattle.pq_tree.specs.Physical.{Physical}
use Rattle.shredding.specs.Shape.{LeafType}
use Rattle.shredding.specs.Shred.{Triple}
use Rattle.shredding.specs.Slot.{Value, number}
use Rattle.dictionary_columns.specs.Keys.{IsEntryKey, entered, entry_from, entry_of, entry_of_stored, key_physical, key_tree, key_width, stored_key, with_value}
use Rattle.dictionary_columns.proofs.Kept.{AreGood, IsGood}
use Rattle.dictionary_columns.proofs.Numbers.{IsKey, is-stored, stored-as, unstored}

-- the key of one of so many entries
abbrev pub EntryKey : ℕ → Value → Type 0
EntryKey n v = IsEntryKey n v

-- as it is stored
abbrev pub StoredKey : IntegerType → ℕ → Value → Type 0
StoredKey key n s = (i : ℕ) × (i < n) × (s ≡ stored_key key i)

good-cons : (P : Value → Type 0) (o : Option Value) (vs : List Value) → All P (cons_option o vs) → IsGood P o × All P vs
good-cons P None vs a = (tt, a)
good-cons P (Some v) vs a = (All-head P v vs a, All-tail P v vs a)

pub good-values : (P : Value → Type 0) (ts : List Triple) → All P (values_in ts) → AreGood P ts
good-values P [] a = tt
good-values P (t ∷ ts) a = let c = good-cons P t.value (values_in ts) a in (c.0, good-values P ts c.1)

-- ---- from what is stored
option-key : (key : IntegerType) (n : ℕ) (v s : Option Value) → n ≤ key_room key → IsStoredOption (leaf_type (key_tree key)) (key_physical key) v s → IsGood (StoredKey key n) s → IsGood (EntryKey n) v
option-key key n None s few h g = tt
option-key key n (Some v) None few h g = absurd h
option-key key n (Some v) (Some s) few h g = (g.0, g.1, stored-as key v g.0 (omega (arith, g.1, few)) (subst (IsStored (leaf_type (key_tree key)) (key_physical key) v) g.2 h))

pub keys-of-stored : (key : IntegerType) (n : ℕ) (ts zs : List Triple) → n ≤ key_room key → AreStored (leaf_type (key_tree key)) (key_physical key) ts zs → AreGood (StoredKey key n) zs → AreGood (EntryKey n) ts
keys-of-stored key n [] zs few a g = tt
keys-of-stored key n (t ∷ ts) [] few a g = absurd a
keys-of-stored key n (t ∷ ts) (z ∷ zs) few a g = (option-key key n t.value z.value few a.0.value g.0, keys-of-stored key n ts zs few a.1 g.1)

-- ---- with the entries
stored-is : (key : IntegerType) (n : ℕ) (s : Value) → n < key_room key → IsStored (leaf_type (key_tree key)) (key_physical key) (number (pos n)) s → s ≡ stored_key key n
stored-is K.Int8 n s h i = i.2 ∙ ap number (sym (to_z_pos w32 n (omega (arith, h))))
stored-is K.Int16 n s h i = i.2 ∙ ap number (sym (to_z_pos w32 n (omega (arith, h))))
stored-is K.Int32 n s h i = i.2 ∙ ap number (sym (to_z_pos w32 n (omega (arith, h))))
stored-is K.Int64 n s h i = i.2 ∙ ap number (sym (to_z_pos w64 n (omega (arith, h))))
stored-is K.UInt8 n s h i = i.2
stored-is K.UInt16 n s h i = i.2
stored-is K.UInt32 n s h i = i.2
stored-is K.UInt64 n s h i = i.2

pub zip-at : (R : Value → Value → Type 0) (vs es : List Value) (i : ℕ) → AllZip R vs es → i < length vs → R (entry_from vs i) (entry_from es i)
zip-at R [] es i a h = absurd (omega (arith, h))
zip-at R (v ∷ vs) [] i a h = absurd a
zip-at R (v ∷ vs) (e ∷ es) zero a h = a.0
zip-at R (v ∷ vs) (e ∷ es) (suc i) a h = zip-at R vs es i a.1 (omega (arith, h))

option-entered : (t : LeafType) (p : Physical) (key : IntegerType) (vs es : List Value) (v s : Option Value) → length vs ≤ key_room key → AllZip (IsStored t p) vs es → IsGood (EntryKey (length vs)) v → IsStoredOption (leaf_type (key_tree key)) (key_physical key) v s →
    IsStoredOption t p (option_map (entry_of vs) v) (option_map (entry_of_stored key es) s)
option-entered t p key vs es None None few a g h = tt
option-entered t p key vs es None (Some s) few a g h = absurd h
option-entered t p key vs es (Some v) None few a g h = absurd h
option-entered t p key vs es (Some v) (Some s) few a g h =
    let own = subst (λ (x : Value). IsStored (leaf_type (key_tree key)) (key_physical key) x s) g.2 h in
    let is : s ≡ stored_key key g.0 = stored-is key g.0 s (omega (arith, g.1, few)) own in
    let entry : entry_of_stored key es s ≡ entry_from es g.0 = ap (entry_of_stored key es) is ∙ ap (entry_from es) (unstored key g.0 (omega (arith, g.1, few))) in
    let found : entry_of vs v ≡ entry_from vs g.0 = ap (entry_of vs) g.2 in
    rw (found, entry) (zip-at (IsStored t p) vs es g.0 a g.1)

pub stored-entered : (t : LeafType) (p : Physical) (key : IntegerType) (vs es : List Value) (ts zs : List Triple) → length vs ≤ key_room key → AllZip (IsStored t p) vs es → AreGood (EntryKey (length vs)) ts → AreStored (leaf_type (key_tree key)) (key_physical key) ts zs →
    AreStored t p (entered vs ts) (map (with_value (entry_of_stored key es)) zs)
stored-entered t p key vs es [] [] few a g h = tt
stored-entered t p key vs es [] (z ∷ zs) few a g h = absurd h
stored-entered t p key vs es (u ∷ ts) [] few a g h = absurd h
stored-entered t p key vs es (u ∷ ts) (z ∷ zs) few a g h = (record { repetition = h.0.repetition; definition = h.0.definition; value = option-entered t p key vs es u.value z.value few a g.0 h.0.value }, stored-entered t p key vs es ts zs few a g.1 h.1)

-- ---- the keys that are stored so
abbrev pub key_value : IntegerType → Value → Value
key_value key (number z) = number (pos (cast_unsigned (key_width key) z))
key_value key v = v

option-keyed : (key : IntegerType) (s : Option Value) → IsGood (IsKey key) s → IsStoredOption (leaf_type (key_tree key)) (key_physical key) (option_map (key_value key) s) s
option-keyed key None g = tt
option-keyed key (Some s) g =
    let is : key_value key s ≡ number (pos g.place) = ap (key_value key) g.is ∙ ap (λ (n : ℕ). number (pos n)) (unstored key g.place g.few) in
    rw is (subst (λ (x : Value). IsStored (leaf_type (key_tree key)) (key_physical key) (number (pos g.place)) x) (sym g.is) (is-stored key g.place g.few))

pub stored-keyed : (key : IntegerType) (zs : List Triple) → AreGood (IsKey key) zs → AreStored (leaf_type (key_tree key)) (key_physical key) (map (with_value (key_value key)) zs) zs
stored-keyed key [] g = tt
stored-keyed key (z ∷ zs) g = (record { repetition = refl; definition = refl; value = option-keyed key z.value g.0 }, stored-keyed key zs g.1)
