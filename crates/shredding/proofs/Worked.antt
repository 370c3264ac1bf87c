-- The examples of rows and of ranges.
use Rattle.std.proofs.Common.{◌≡◌, ℕ, List, lit<, refl, [], ◌∷◌, map, All, true, false, arith}
use Rattle.std.proofs.lemmas.List.Elements.{All-from_recursion, recursion_from_All}
use Rattle.std.specs.Str.{IsUtf8, is_utf8, chars}
use lib.Utf8.{encode}
use Rattle.std.proofs.lemmas.Str.{IsUtf8-from_is_utf8, is_utf8-from_IsUtf8}
use Rattle.shredding.specs.Worked.{list_field, list_rows, struct_field, struct_rows, numbers_from, RowsAsWorked, RangesAsWorked}
use Rattle.shredding.specs.Slot.{null, value}
use Rattle.shredding.specs.Shape.{IsOf, leaf, signed}
use Rattle.shredding.specs.Shred.{shred}
use Rattle.shredding.proofs.NoRows.{conflict, orphan}

list_slots : All (IsOf list_field) list_rows
list_slots = All-from_recursion (IsOf list_field) list_rows (
  All-from_recursion (IsOf (leaf true (signed 32))) (map value (numbers_from 1 2)) (omega arith, (omega arith, tt)),
  (
    refl,
    (All-from_recursion (IsOf (leaf true (signed 32))) [] tt, (All-from_recursion (IsOf (leaf true (signed 32))) (null ∷ []) (refl, tt), tt)),
  ),
)

struct_slots : All (IsOf struct_field) struct_rows
struct_slots = All-from_recursion (IsOf struct_field) struct_rows ((tt, (omega arith, tt)), ((tt, (omega arith, tt)), (refl, ((tt, (omega arith, tt)), tt))))

pub rows : RowsAsWorked
unfolding shred
rows =
    record {
      list_slots = list_slots;
      list_repetition = refl;
      list_definition = refl;
      list_values = refl;
      struct_slots = struct_slots;
      struct_definition = refl;
      struct_values = refl;
      conflict = conflict;
      orphan = orphan;
      empty_struct_columns = refl;
      cut_in_threes = refl;
      cut_not_at_all = refl;
      cut_of_none = refl;
    }

not_text : (bs : List ℕ) → is_utf8 bs ≡ false → IsUtf8 bs → ⊥
not_text bs e h = let t = is_utf8-from_IsUtf8 bs h in cc

pub ranges : RangesAsWorked
unfolding is_utf8 chars encode
ranges =
    record {
      int8_127 = omega arith;
      int8_minus_128 = omega arith;
      int8_300 = λ h. omega (arith, h);
      int8_128 = λ h. omega (arith, h);
      int8_minus_129 = λ h. omega (arith, h);
      uint8_255 = omega arith;
      uint8_256 = λ h. omega (arith, h);
      uint8_minus_1 = λ h. h;
      uint8_truth = λ h. h;
      decimal_least = lit< tt;
      decimal_too_large = λ h. omega (arith, h);
      text_of_two_bytes = IsUtf8-from_is_utf8 (0xc3 ∷ 0xa9 ∷ []) refl;
      text_not_utf8 = λ h. not_text (0xff ∷ []) refl h;
      text_cut_short = λ h. not_text (0xc3 ∷ []) refl h;
      binary_not_utf8 = tt;
      fixed_of_two = refl;
      fixed_of_three = λ h. cc h;
      months_of_one = (refl, refl);
      months_with_days = λ h. cc h.1;
      days_of_one = (refl, refl);
      days_with_months = λ h. cc h.1;
      days_too_short = λ h. omega (arith, h.0);
      nothing_false = λ h. h;
      null_of_optional = refl;
      null_of_required = λ h. cc h;
      null_of_nothing = refl;
      null_item_of_required = λ h. cc (recursion_from_All (IsOf (leaf false (signed 32))) (null ∷ []) h).0;
      list_for_leaf = λ h. h;
      struct_too_short = λ h. h.1;
      struct_out_of_order = λ h. h.0;
    }
