-- The keys of entries as numbers.
use Rattle.std.proofs.Common.{◌≡◌, inr, ℕ, zero, suc, ◌+◌, ◌<◌, ◌≤◌, ℤ, pos, Some, List, length, refl, arith, ap, sym, ◌∙◌}
use Rattle.std.specs.Prelude.{◌^◌, false, negsuc, slice_get}
use Rattle.std.specs.Int.{cast_signed, cast_unsigned, w32, w64}
use mir.Val.{bits}
use Rattle.std.proofs.lemmas.Int.{of_z-to_z, to_z_pos}
use Rattle.std.proofs.lemmas.Option.{same_Some, slice_get-get_or, slice_get_within}
use Rattle.columns_core.specs.Shapes.{leaf_type}
use Rattle.columns_core.specs.declared.types.IntegerType.{IntegerType}
use Rattle.columns_core.specs.declared.types.IntegerType.TheVariants as K
use Rattle.pq_files.specs.Stored.{IsStored}
use Rattle.pq_headline.specs.FieldReasons.{key_room}
use Rattle.pq_tree.specs.Physical.{boolean}
use Rattle.shredding.specs.Slot.{Value, truth, number, bytes}
use Rattle.dictionary_columns.specs.Keys.{entry_from, entry_of_stored, key_physical, key_tree, key_width, stored_key, stored_keys}
use Rattle.dictionary_columns.proofs.Looked.{Looks}
use Rattle.dictionary_columns.proofs.Zeros.{HasZero, zero_32, zero_64}

-- ---- a number of the key's type
pub room-bits : (key : IntegerType) (n : ℕ) → n < key_room key → n < 2 ^ bits (key_width key)
room-bits K.Int8 n h = omega (arith, h)
room-bits K.Int16 n h = omega (arith, h)
room-bits K.Int32 n h = omega (arith, h)
room-bits K.Int64 n h = omega (arith, h)
room-bits K.UInt8 n h = omega (arith, h)
room-bits K.UInt16 n h = omega (arith, h)
room-bits K.UInt32 n h = h
room-bits K.UInt64 n h = h

pub unstored : (key : IntegerType) (n : ℕ) → n < key_room key → cast_unsigned (key_width key) (cast_signed (key_width key) n) ≡ n
unstored key n h = of_z-to_z (key_width key) n (room-bits key n h)

pub is-stored : (key : IntegerType) (n : ℕ) → n < key_room key → IsStored (leaf_type (key_tree key)) (key_physical key) (number (pos n)) (stored_key key n)
is-stored K.Int8 n h = (omega arith, h, ap number (to_z_pos w32 n (omega (arith, h))))
is-stored K.Int16 n h = (omega arith, h, ap number (to_z_pos w32 n (omega (arith, h))))
is-stored K.Int32 n h = (omega arith, h, ap number (to_z_pos w32 n (omega (arith, h))))
is-stored K.Int64 n h = (refl, h, ap number (to_z_pos w64 n (omega (arith, h))))
is-stored K.UInt8 n h = (omega arith, h, refl)
is-stored K.UInt16 n h = (omega arith, h, refl)
is-stored K.UInt32 n h = (omega arith, h, refl)
is-stored K.UInt64 n h = (inr refl, h, refl)

abbrev number_in : Value → ℤ
number_in (number z) = z
number_in v = pos 0

same-signed : (m n : ℕ) → m < 2 ^ 32 → n < 2 ^ 32 → number (cast_signed w32 n) ≡ number (cast_signed w32 m) → m ≡ n
same-signed m n a b e = sym (of_z-to_z w32 m a) ∙ (ap (λ (v : Value). cast_unsigned w32 (number_in v)) (sym e) ∙ of_z-to_z w32 n b)

same-wide : (m n : ℕ) → m < 2 ^ 64 → n < 2 ^ 64 → number (cast_signed w64 n) ≡ number (cast_signed w64 m) → m ≡ n
same-wide m n a b e = sym (of_z-to_z w64 m a) ∙ (ap (λ (v : Value). cast_unsigned w64 (number_in v)) (sym e) ∙ of_z-to_z w64 n b)

-- the value of the key's type that is stored as the key of an entry
pub stored-as : (key : IntegerType) (v : Value) (n : ℕ) → n < key_room key → IsStored (leaf_type (key_tree key)) (key_physical key) v (stored_key key n) → v ≡ number (pos n)
stored-as K.Int8 (number z) n h s = sym s.2 ∙ ap number (to_z_pos w32 n (omega (arith, h)))
stored-as K.Int16 (number z) n h s = sym s.2 ∙ ap number (to_z_pos w32 n (omega (arith, h)))
stored-as K.Int32 (number z) n h s = sym s.2 ∙ ap number (to_z_pos w32 n (omega (arith, h)))
stored-as K.Int64 (number z) n h s = sym s.2 ∙ ap number (to_z_pos w64 n (omega (arith, h)))
stored-as K.UInt8 (number (pos m)) n h s = ap (λ (k : ℕ). number (pos k)) (same-signed m n (omega (arith, s.1)) (omega (arith, h)) s.2)
stored-as K.UInt16 (number (pos m)) n h s = ap (λ (k : ℕ). number (pos k)) (same-signed m n (omega (arith, s.1)) (omega (arith, h)) s.2)
stored-as K.UInt32 (number (pos m)) n h s = ap (λ (k : ℕ). number (pos k)) (same-signed m n s.1 h s.2)
stored-as K.UInt64 (number (pos m)) n h s = ap (λ (k : ℕ). number (pos k)) (same-wide m n s.1 h s.2)
stored-as K.UInt8 (number (negsuc m)) n h s = absurd s
stored-as K.UInt16 (number (negsuc m)) n h s = absurd s
stored-as K.UInt32 (number (negsuc m)) n h s = absurd s
stored-as K.UInt64 (number (negsuc m)) n h s = absurd s
stored-as K.Int8 (truth b) n h s = absurd s
stored-as K.Int16 (truth b) n h s = absurd s
stored-as K.Int32 (truth b) n h s = absurd s
stored-as K.Int64 (truth b) n h s = absurd s
stored-as K.UInt8 (truth b) n h s = absurd s
stored-as K.UInt16 (truth b) n h s = absurd s
stored-as K.UInt32 (truth b) n h s = absurd s
stored-as K.UInt64 (truth b) n h s = absurd s
stored-as K.Int8 (bytes b) n h s = absurd s
stored-as K.Int16 (bytes b) n h s = absurd s
stored-as K.Int32 (bytes b) n h s = absurd s
stored-as K.Int64 (bytes b) n h s = absurd s
stored-as K.UInt8 (bytes b) n h s = absurd s
stored-as K.UInt16 (bytes b) n h s = absurd s
stored-as K.UInt32 (bytes b) n h s = absurd s
stored-as K.UInt64 (bytes b) n h s = absurd s

pub key-zero : (key : IntegerType) → HasZero (key_physical key)
key-zero K.Int8 = zero_32
key-zero K.Int16 = zero_32
key-zero K.Int32 = zero_32
key-zero K.Int64 = zero_64
key-zero K.UInt8 = zero_32
key-zero K.UInt16 = zero_32
key-zero K.UInt32 = zero_32
key-zero K.UInt64 = zero_64

pub not-truths : (key : IntegerType) → key_physical key ≡ boolean → ⊥
not-truths K.Int8 e = cc e
not-truths K.Int16 e = cc e
not-truths K.Int32 e = cc e
not-truths K.Int64 e = cc e
not-truths K.UInt8 e = cc e
not-truths K.UInt16 e = cc e
not-truths K.UInt32 e = cc e
not-truths K.UInt64 e = cc e

-- the key of an entry, in the room of the key's type
pub record IsKey (key : IntegerType) (s : Value) : Type 0 where
  pub place : ℕ
  pub few : place < key_room key
  pub is : s ≡ stored_key key place

pub zero-key : (key : IntegerType) → IsKey key (number (pos 0))
zero-key K.Int8 = record { place = 0; few = omega arith; is = refl }
zero-key K.Int16 = record { place = 0; few = omega arith; is = refl }
zero-key K.Int32 = record { place = 0; few = omega arith; is = refl }
zero-key K.Int64 = record { place = 0; few = omega arith; is = refl }
zero-key K.UInt8 = record { place = 0; few = omega arith; is = refl }
zero-key K.UInt16 = record { place = 0; few = omega arith; is = refl }
zero-key K.UInt32 = record { place = 0; few = omega arith; is = refl }
zero-key K.UInt64 = record { place = 0; few = omega arith; is = refl }

-- ---- the keys of so many entries
pub length-keys : (key : IntegerType) (place n : ℕ) → length (stored_keys key place n) ≡ n
length-keys key place zero = refl
length-keys key place (suc n) = ap suc (length-keys key (suc place) n)

pub key-at : (key : IntegerType) (place n i : ℕ) (v : Value) → slice_get (stored_keys key place n) i ≡ Some v → (i < n) × (v ≡ stored_key key (place + i))
key-at key place zero i v e = absurd (cc e)
key-at key place (suc n) zero v e = (omega arith, sym (same_Some _ _ e) ∙ ap (stored_key key) (omega arith))
key-at key place (suc n) (suc i) v e =
    let r = key-at key (suc place) n i v e in
    (omega (arith, r.0), r.1 ∙ ap (stored_key key) (omega arith))

key-there : (key : IntegerType) (place n i : ℕ) → i < n → slice_get (stored_keys key place n) i ≡ Some (stored_key key (place + i))
key-there key place zero i h = absurd (omega (arith, h))
key-there key place (suc n) zero h = ap (λ (k : ℕ). Some (stored_key key k)) (omega arith)
key-there key place (suc n) (suc i) h = key-there key (suc place) n i (omega (arith, h)) ∙ ap (λ (k : ℕ). Some (stored_key key k)) (omega arith)

pub entry-there : (es : List Value) (i : ℕ) → i < length es → slice_get es i ≡ Some (entry_from es i)
entry-there es i h = slice_get-get_or es i (truth false) h

pub keys-look : (key : IntegerType) (es : List Value) → length es ≤ key_room key → Looks (stored_keys key 0 (length es)) es (entry_of_stored key es)
keys-look key es few = record { forth = forth; back = back }
  where
    forth : (i : ℕ) (k : Value) → slice_get (stored_keys key 0 (length es)) i ≡ Some k → slice_get es i ≡ Some (entry_of_stored key es k)
    forth i k e =
        let at = key-at key 0 (length es) i k e in
        let is : k ≡ stored_key key i = at.1 ∙ ap (stored_key key) (omega arith) in
        entry-there es i at.0 ∙ ap Some (ap (entry_from es) (sym (unstored key i (omega (arith, at.0, few)))) ∙ ap (entry_of_stored key es) (sym is))

    back : (i : ℕ) (e : Value) → slice_get es i ≡ Some e → (k : Value) × (slice_get (stored_keys key 0 (length es)) i ≡ Some k) × (entry_of_stored key es k ≡ e)
    back i e h =
        let within : i < length es = slice_get_within es i e h in
        let there : slice_get (stored_keys key 0 (length es)) i ≡ Some (stored_key key i) = key-there key 0 (length es) i within ∙ ap (λ (n : ℕ). Some (stored_key key n)) (omega arith) in
        (stored_key key i, there, ap (entry_from es) (unstored key i (omega (arith, within, few))) ∙ same_Some _ _ (sym (entry-there es i within) ∙ h))

pub keys-good : (key : IntegerType) (n i : ℕ) (v : Value) → n ≤ key_room key → slice_get (stored_keys key 0 n) i ≡ Some v → IsKey key v
keys-good key n i v few e =
    let at = key-at key 0 n i v e in
    record { place = i; few = omega (arith, at.0, few); is = at.1 ∙ ap (stored_key key) (omega arith) }
