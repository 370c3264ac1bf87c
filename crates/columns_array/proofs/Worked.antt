-- The examples of keys.
use Rattle.std.proofs.Common.{◌≡◌, zero, suc, pos, [], ◌∷◌, true, false, Some, refl, sym, true≢false, arith}
use Rattle.columns_core.specs.declared.types.IntegerType.TheVariants as key
use Rattle.columns_core.specs.Tree.{t_null, t_int32}
use Rattle.columns_slots.specs.Slots.{AreKeys}
use Rattle.columns_array.specs.Examples.{KeysAreWorked}

keys_fit : AreKeys (Some (true ∷ false ∷ true ∷ [])) (pos 1 ∷ pos 9 ∷ pos 0 ∷ []) 2
keys_fit zero h e = (tt, omega arith)
keys_fit (suc zero) h e = absurd (true≢false (sym e))
keys_fit (suc (suc zero)) h e = (tt, omega arith)
keys_fit (suc (suc (suc i))) h e = absurd (omega (arith, h))

pub keys_worked : KeysAreWorked
keys_worked =
    record {
      keys = (refl, refl, keys_fit);
      key_of_no_entry = λ h. omega (arith, (h.2 0 (omega arith) refl).1);
      other_keys = λ h. other_kind h.1;
      other_entries = λ h. other_type h.0;
    }
  where
    other_kind : Some key.Int16 ≡ Some key.Int8 → ⊥
    other_kind e = cc

    other_type : Some t_int32 ≡ Some t_null → ⊥
    other_type e = cc
