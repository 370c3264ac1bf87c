-- The examples.
use Rattle.std.proofs.Common.{◌≡◌, zero, suc, pos, [], ◌∷◌, All, true, false, Some, None, refl, sym, true≢false, arith}
use Rattle.std.proofs.lemmas.List.Elements.{All-from_recursion, recursion_from_All}
use Rattle.std.proofs.lemmas.Str.{IsUtf8-from_is_utf8, is_utf8-from_IsUtf8}
use Rattle.std.specs.Str.{IsUtf8, is_utf8, chars}
use lib.Utf8.{encode}
use Rattle.shredding.specs.Slot.{truth, bytes}
use Rattle.shredding.specs.Shape.{IsInRange, signed, truths, text}
use Rattle.shredding.specs.Parts.{slots_from}
use Rattle.columns_core.specs.Tree.{t_int32, t_boolean}
use Rattle.columns_slots.specs.Tree.{leaf_array}
use Rattle.columns_slots.specs.Slots.{IsSound, AreKeys}
use Rattle.columns_slots.specs.Worked.{numbers, five, AsWorked}

five_sound : IsSound five
five_sound =
    (refl, refl, All-from_recursion (IsInRange (signed 32)) (numbers (1 ∷ 2 ∷ 3 ∷ 4 ∷ 5 ∷ [])) (omega arith, (omega arith, (omega arith, (omega arith, (omega arith, tt))))))

six_sound : IsSound (leaf_array t_int32 (numbers (1 ∷ 2 ∷ 3 ∷ 4 ∷ 5 ∷ 6 ∷ [])) None)
six_sound = (
  tt,
  refl,
  All-from_recursion (IsInRange (signed 32)) (numbers (1 ∷ 2 ∷ 3 ∷ 4 ∷ 5 ∷ 6 ∷ [])) (omega arith, (omega arith, (omega arith, (omega arith, (omega arith, (omega arith, tt)))))),
)

two_sound : IsSound (leaf_array t_int32 (numbers (1 ∷ 2 ∷ [])) None)
two_sound = (tt, refl, All-from_recursion (IsInRange (signed 32)) (numbers (1 ∷ 2 ∷ [])) (omega arith, (omega arith, tt)))

entries_sound : IsSound (leaf_array t_int32 (numbers (7 ∷ 8 ∷ [])) (Some (false ∷ true ∷ [])))
entries_sound = (refl, refl, All-from_recursion (IsInRange (signed 32)) (numbers (7 ∷ 8 ∷ [])) (omega arith, (omega arith, tt)))

keys_fit : AreKeys (Some (true ∷ true ∷ false ∷ true ∷ [])) (pos 1 ∷ pos 0 ∷ pos 9 ∷ pos 1 ∷ []) 2
keys_fit zero h e = (tt, omega arith)
keys_fit (suc zero) h e = (tt, omega arith)
keys_fit (suc (suc zero)) h e = absurd (true≢false (sym e))
keys_fit (suc (suc (suc zero))) h e = (tt, omega arith)
keys_fit (suc (suc (suc (suc i)))) h e = absurd (omega (arith, h))

utf8 : All (IsInRange text) (bytes (104 ∷ 105 ∷ []) ∷ bytes [] ∷ bytes (0xc3 ∷ 0xa9 ∷ []) ∷ [])
unfolding is_utf8 chars encode
utf8 =
    All-from_recursion (IsInRange text) (bytes (104 ∷ 105 ∷ []) ∷ bytes [] ∷ bytes (0xc3 ∷ 0xa9 ∷ []) ∷ []) (
      IsUtf8-from_is_utf8 (104 ∷ 105 ∷ []) refl,
      (IsUtf8-from_is_utf8 [] refl, (IsUtf8-from_is_utf8 (0xc3 ∷ 0xa9 ∷ []) refl, tt)),
    )

cut_short : IsUtf8 (0xc3 ∷ []) → ⊥
unfolding is_utf8 chars encode
cut_short h = true≢false (sym (is_utf8-from_IsUtf8 (0xc3 ∷ []) h))

pub worked : AsWorked
unfolding slots_from
worked =
    record {
      nulls_slots = refl;
      five_sound = five_sound;
      five_slots = refl;
      five_nulls = refl;
      lists_sound = ((omega arith, (omega arith, (omega arith, omega arith))), refl, five_sound, refl);
      lists_slots = refl;
      lists_cut = refl;
      lists_cut_twice = refl;
      pairs_sound = (refl, tt, six_sound, refl, refl, omega arith);
      pairs_slots = refl;
      pairs_cut = refl;
      structs_sound = (
        (two_sound, refl, ((tt, refl, All-from_recursion (IsInRange truths) (truth true ∷ truth false ∷ []) (tt, (tt, tt))), refl, tt)),
        refl,
        (refl, (refl, tt)),
        omega arith,
      );
      structs_slots = refl;
      structs_cut = refl;
      keyed_sound = (refl, entries_sound, refl, keys_fit);
      keyed_slots = refl;
      keyed_nulls = refl;
      maps_sound = ((omega arith, omega arith), tt, two_sound, refl);
      maps_slots = refl;
      texts_sound = (tt, refl, utf8);
      texts_slots = refl;
      two_bytes_each = refl;
      nulls_of_numbers = λ h. true≢false (sym h);
      mask_too_short = λ h. omega (arith, h.0);
      out_of_range = λ h. (recursion_from_All (IsInRange truths) (numbers (1 ∷ [])) h.2).0;
      character_cut = λ h. cut_short (recursion_from_All (IsInRange text) (bytes (0xc3 ∷ []) ∷ bytes (0xa9 ∷ []) ∷ []) h.2).0;
      too_few_items = λ h. omega (arith, h.0.1);
      falling = λ h. omega (arith, h.0.0);
      other_items = λ h. other h.3;
      no_offset = λ h. h.0;
      item_left_over = λ h. omega (arith, h.0);
      no_size = λ h. omega (arith, h.5);
      no_fields_at_all = λ h. omega (arith, h.3);
      fields_of_two_lengths = λ h. omega (arith, h.0.2.1);
      key_of_no_entry = λ h. omega (arith, (h.3 0 (omega arith) refl).1);
    }
  where
    other : Some t_boolean ≡ Some t_int32 → ⊥
    other e = cc
