-- Keys as plain numbers, one behind the other.
use Rattle.std.proofs.Common.{◌≡◌, ℕ, zero, suc, ◌+◌, ◌<◌, List, [], ◌∷◌, ◌++◌, refl, arith, ap, sym, ◌∙◌}
use Rattle.std.specs.Prelude.{◌^◌}
use Rattle.std.specs.Int.{cast_signed, to_le_bytes, w32, w64}
use Rattle.columns_core.specs.declared.types.IntegerType.{IntegerType}
use Rattle.columns_core.specs.declared.types.IntegerType.TheVariants as K
use Rattle.pq_delta_reads.proofs.Filling.{row_push}
use Rattle.pq_files.specs.Plain.{IsOne, InARow}
use Rattle.pq_numbers.proofs.LittleEndianBytes.{eight_bytes, four_bytes}
use Rattle.pq_tree.specs.Physical.{int32, int64}
use Rattle.shredding.specs.Slot.{Value, number}
use Rattle.dictionary_columns.specs.Keys.{key_width, stored_key, stored_keys}

pub same_keys : (key other : IntegerType) (place n : ℕ) → key_width key ≡ key_width other → stored_keys key place n ≡ stored_keys other place n
same_keys key other place zero e = refl
same_keys key other place (suc n) e = cc (ap (λ w. number (cast_signed w place)) e, same_keys key other (suc place) n e)

keys-on : (key : IntegerType) (place n : ℕ) → stored_keys key place (suc n) ≡ stored_keys key place n ++ stored_key key (place + n) ∷ []
keys-on key place zero = ap (λ (k : ℕ). stored_key key k ∷ []) (omega arith)
keys-on key place (suc n) = ap (λ (vs : List Value). stored_key key place ∷ vs) (keys-on key (suc place) n ∙ ap (λ (k : ℕ). stored_keys key (suc place) n ++ stored_key key k ∷ []) (omega arith))

pub one_more : (key : IntegerType) (n : ℕ) → stored_keys key 0 n ++ stored_key key n ∷ [] ≡ stored_keys key 0 (n + 1)
one_more key n =
    let place : 0 + n ≡ n = omega arith in
    let next : suc n ≡ n + 1 = omega arith in
    ap (λ (k : ℕ). stored_keys key 0 n ++ stored_key key k ∷ []) (sym place) ∙ (sym (keys-on key 0 n) ∙ ap (stored_keys key 0) next)

pub small_on : (n : ℕ) (body after : List ℕ) → n < 2 ^ 32 → InARow int32 body (stored_keys K.UInt32 0 n) → after ≡ body ++ to_le_bytes w32 n → InARow int32 after (stored_keys K.UInt32 0 (n + 1))
small_on n body after few r e =
    let one : IsOne int32 (to_le_bytes w32 n) (stored_key K.UInt32 n) = (refl, ap (cast_signed w32) (sym (four_bytes n few))) in
    rw (e, ← one_more K.UInt32 n) (row_push int32 body (to_le_bytes w32 n) (stored_keys K.UInt32 0 n) (stored_key K.UInt32 n) r one)

pub wide_on : (n : ℕ) (body after : List ℕ) → n < 2 ^ 64 → InARow int64 body (stored_keys K.UInt64 0 n) → after ≡ body ++ to_le_bytes w64 n → InARow int64 after (stored_keys K.UInt64 0 (n + 1))
wide_on n body after few r e =
    let one : IsOne int64 (to_le_bytes w64 n) (stored_key K.UInt64 n) = (refl, ap (cast_signed w64) (sym (eight_bytes n few))) in
    rw (e, ← one_more K.UInt64 n) (row_push int64 body (to_le_bytes w64 n) (stored_keys K.UInt64 0 n) (stored_key K.UInt64 n) r one)
