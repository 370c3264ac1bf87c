-- What the leaf arrays, and the parts of others, tell is what makes an array sound.
use Rattle.std.specs.Prelude.{IsUtf8}
use Rattle.std.proofs.Common.{◌≡◌, ℕ, zero, suc, ◌+◌, ◌-◌, ◌*◌, ◌/◌, ◌%◌, ◌≤◌, ◌<◌, Bool, true, false, true≢false, List, [], ◌∷◌, length, map, take, drop, All, Option, Some, None, refl, ap, sym, subst, ◌∙◌, arith}
use Rattle.std.proofs.lemmas.List.{length-map}
use Rattle.std.proofs.lemmas.Nat.{div-add-mod'}
use Rattle.shredding.specs.Slot.{Value, truth, bytes}
use Rattle.shredding.specs.Shape.{IsInRange, binary, text, fixed_bytes}
use Rattle.columns_core.specs.declared.types.IntervalUnit.TheVariants.{YearMonth, DayTime}
use Rattle.columns_core.specs.Shapes.{leaf_type, base}
use Rattle.columns_core.specs.Natives.{stores_i8, stores_i16, stores_i32, stores_i64, stores_i128, stores_u8, stores_u16, stores_u32, stores_u64, stores_days}
use Rattle.columns_core.specs.Tree.{TypeTree, t_boolean, t_int8, t_int16, t_int32, t_int64, t_uint8, t_uint16, t_uint32, t_uint64, t_timestamp, t_date32, t_date64, t_time32, t_time64, t_duration, t_interval, t_binary, t_large_binary, t_utf8, t_large_utf8, t_fixed_size_binary, t_list, t_large_list, t_map, t_decimal, FieldTree, field}
use Rattle.columns_slots.specs.Tree.{Mask, ArrayTree, leaf_array}
use Rattle.columns_slots.specs.Types.{is_leaf, is_boolean, is_binary, is_text, byte_width, small_item, large_item, map_item, list_item}
use Rattle.columns_slots.specs.Bytes.{pieces, pieces_values, chunks, chunks_values}
use Rattle.columns_slots.specs.Slots.{IsSound}
use Rattle.shredding.specs.Parts.{MaskFits}
use Rattle.columns_slots.proofs.Made.{all_map, truths_typed}
use Rattle.columns_slots.proofs.Strings.{pieces_len, pieces_cut, chunks_len, chunks_even, chunks_cut}
use Rattle.columns_slots.proofs.Sound.{scaled, length_cut}
use Rattle.columns_leaf.specs.Fixed.{fixed_width, fixed_count, AreWhole}
use Rattle.std.proofs.lemmas.List.Elements.{All-map}
use Rattle.std.proofs.Math.Nat.{mul-div_cancel}
use Rattle.columns_slots.proofs.Cuts.{map_cut}

-- ---- the types of leaf arrays
pub leaf_i8 : (t : TypeTree) → stores_i8 t ≡ true → is_leaf t ≡ true
leaf_i8 t_int8 e = refl
leaf_i8 t e = absurd (true≢false (sym e))

pub leaf_i16 : (t : TypeTree) → stores_i16 t ≡ true → is_leaf t ≡ true
leaf_i16 t_int16 e = refl
leaf_i16 t e = absurd (true≢false (sym e))

pub leaf_i32 : (t : TypeTree) → stores_i32 t ≡ true → is_leaf t ≡ true
leaf_i32 t_int32 e = refl
leaf_i32 t_date32 e = refl
leaf_i32 (t_time32 u) e = refl
leaf_i32 (t_interval YearMonth) e = refl
leaf_i32 t e = absurd (true≢false (sym e))

pub leaf_i64 : (t : TypeTree) → stores_i64 t ≡ true → is_leaf t ≡ true
leaf_i64 t_int64 e = refl
leaf_i64 t_date64 e = refl
leaf_i64 (t_time64 u) e = refl
leaf_i64 (t_timestamp u z) e = refl
leaf_i64 (t_duration u) e = refl
leaf_i64 t e = absurd (true≢false (sym e))

pub leaf_i128 : (t : TypeTree) → stores_i128 t ≡ true → is_leaf t ≡ true
leaf_i128 (t_decimal p s) e = refl
leaf_i128 t e = absurd (true≢false (sym e))

pub leaf_u8 : (t : TypeTree) → stores_u8 t ≡ true → is_leaf t ≡ true
leaf_u8 t_uint8 e = refl
leaf_u8 t e = absurd (true≢false (sym e))

pub leaf_u16 : (t : TypeTree) → stores_u16 t ≡ true → is_leaf t ≡ true
leaf_u16 t_uint16 e = refl
leaf_u16 t e = absurd (true≢false (sym e))

pub leaf_u32 : (t : TypeTree) → stores_u32 t ≡ true → is_leaf t ≡ true
leaf_u32 t_uint32 e = refl
leaf_u32 t e = absurd (true≢false (sym e))

pub leaf_u64 : (t : TypeTree) → stores_u64 t ≡ true → is_leaf t ≡ true
leaf_u64 t_uint64 e = refl
leaf_u64 t e = absurd (true≢false (sym e))

pub leaf_days : (t : TypeTree) → stores_days t ≡ true → is_leaf t ≡ true
leaf_days (t_interval DayTime) e = refl
leaf_days t e = absurd (true≢false (sym e))

pub numbers_sound : {A : Type 0} (t : TypeTree) (f : A → Value) (xs : List A) (m : Mask) → is_leaf (base t) ≡ true → MaskFits m (length xs) → All (IsInRange (leaf_type (base t))) (map f xs)
    → IsSound (leaf_array t (map f xs) m)
numbers_sound t f xs m l h r = (rw (length-map xs f) h, l, r)

leaf_truth : (t : TypeTree) → is_boolean t ≡ true → is_leaf t ≡ true
leaf_truth t_boolean e = refl
leaf_truth t e = absurd (true≢false (sym e))

pub truths_sound : (t : TypeTree) (xs : List Bool) (m : Mask) → is_boolean (base t) ≡ true → MaskFits m (length xs) → IsSound (leaf_array t (map truth xs) m)
truths_sound t xs m e h = (rw (length-map xs truth) h, leaf_truth (base t) e, truths_typed (base t) xs e)

binary_leaf : (large : Bool) (t : TypeTree) → is_binary large t ≡ true → is_leaf t ≡ true
binary_leaf true t_large_binary e = refl
binary_leaf true t e = absurd (true≢false (sym e))
binary_leaf false t_binary e = refl
binary_leaf false t e = absurd (true≢false (sym e))

binary_type : (large : Bool) (t : TypeTree) → is_binary large t ≡ true → leaf_type t ≡ binary
binary_type true t_large_binary e = refl
binary_type true t e = absurd (true≢false (sym e))
binary_type false t_binary e = refl
binary_type false t e = absurd (true≢false (sym e))

pub bytes_sound : (large : Bool) (t : TypeTree) (os bs : List ℕ) (m : Mask) → is_binary large (base t) ≡ true → MaskFits m (length os - 1) → IsSound (leaf_array t (pieces_values os bs) m)
bytes_sound large t os bs m e h = (
  rw (length-map (pieces os bs) bytes, pieces_len os bs) h,
  binary_leaf large (base t) e,
  rw (binary_type large (base t) e) (all_map (IsInRange binary) bytes (pieces os bs) (λ x. tt)),
)

-- ---- the items of what has offsets
never : {u : TypeTree} {A : Type 0} → None ≡ Some u → A
never e = cc

pub small_list : (t u : TypeTree) → small_item t ≡ Some u → list_item t ≡ Some u
small_list (t_list (field n t b m)) u e = e
small_list t u e = never e

pub large_list : (t u : TypeTree) → large_item t ≡ Some u → list_item t ≡ Some u
large_list (t_large_list (field n t b m)) u e = e
large_list t u e = never e

pub map_list : (t u : TypeTree) → map_item t ≡ Some u → list_item t ≡ Some u
map_list (t_map (field n t b m) s) u e = e
map_list t u e = never e

-- ---- a whole number of lists
pub fixed_made : (n w : ℕ) → n % w ≡ 0 → n ≡ n / w * w
fixed_made n w h = omega (arith, div-add-mod' n w, h)

-- ---- strings between offsets
pub mapped_len : {A B : Type 0} (f : A → B) (xs : List A) → length (map f xs) ≡ length xs
mapped_len f xs = length-map xs f

pub strings_len : (os bs : List ℕ) → length (pieces_values os bs) ≡ length os - 1
strings_len os bs = length-map (pieces os bs) bytes ∙ pieces_len os bs

pub strings_fit : (os bs : List ℕ) (k : ℕ) → k ≤ length (pieces_values os bs) → k ≤ length os - 1
strings_fit os bs k h = omega (arith, h, strings_len os bs)

pub strings_cut : (os bs : List ℕ) (o n : ℕ) → o + n ≤ length (pieces_values os bs) → pieces_values (take (n + 1) (drop o os)) bs ≡ take n (drop o (pieces_values os bs))
strings_cut os bs o n h = ap (map bytes) (pieces_cut os bs o n (strings_fit os bs (o + n) h)) ∙ map_cut bytes (pieces os bs) o n

-- ---- texts, and strings of one width
text_leaf : (large : Bool) (t : TypeTree) → is_text large t ≡ true → is_leaf t ≡ true
text_leaf true t_large_utf8 e = refl
text_leaf true t e = absurd (true≢false (sym e))
text_leaf false t_utf8 e = refl
text_leaf false t e = absurd (true≢false (sym e))

text_type : (large : Bool) (t : TypeTree) → is_text large t ≡ true → leaf_type t ≡ text
text_type true t_large_utf8 e = refl
text_type true t e = absurd (true≢false (sym e))
text_type false t_utf8 e = refl
text_type false t e = absurd (true≢false (sym e))

pub texts_sound : (large : Bool) (t : TypeTree) (os bs : List ℕ) (m : Mask) → is_text large (base t) ≡ true → MaskFits m (length os - 1) → All IsUtf8 (pieces os bs) → IsSound (leaf_array t (pieces_values os bs) m)
texts_sound large t os bs m e h u = (
  rw (length-map (pieces os bs) bytes, pieces_len os bs) h,
  text_leaf large (base t) e,
  rw (text_type large (base t) e) (All-map (IsInRange text) bytes (pieces os bs) u),
)

width_leaf : (t : TypeTree) (w : ℕ) → byte_width t ≡ Some w → is_leaf t ≡ true
width_leaf (t_fixed_size_binary n) w e = refl
width_leaf t w e = absurd (no_width e)
  where
    no_width : None ≡ Some w → ⊥
    no_width e = cc

abbrev some_width : Option ℕ → ℕ
some_width None = 0
some_width (Some w) = w

width_type : (t : TypeTree) (w : ℕ) → byte_width t ≡ Some w → leaf_type t ≡ fixed_bytes w
width_type (t_fixed_size_binary n) w e = ap (λ o. fixed_bytes (some_width o)) e
width_type t w e = absurd (no_width e)
  where
    no_width : None ≡ Some w → ⊥
    no_width e = cc

pub whole_fits : (w k : ℕ) → k / w * w ≤ k
whole_fits w k = omega (arith, div-add-mod' k w)

pub widths_sound : (t : TypeTree) (bs : List ℕ) (m : Mask) → MaskFits m (fixed_count (base t) bs) → byte_width (base t) ≡ Some (fixed_width (base t))
    → IsSound (leaf_array t (chunks_values (fixed_width (base t)) (fixed_count (base t) bs) bs) m)
widths_sound t bs m h e =
    let w = fixed_width (base t) in
    let n = fixed_count (base t) bs in (
      rw (length-map (chunks w n bs) bytes, chunks_len w n bs) h,
      width_leaf (base t) w e,
      rw (width_type (base t) w e) (All-map (IsInRange (fixed_bytes w)) bytes (chunks w n bs) (chunks_even w n bs (whole_fits w (length bs)))),
    )

pub widths_len : (w n : ℕ) (bs : List ℕ) → length (chunks_values w n bs) ≡ n
widths_len w n bs = length-map (chunks w n bs) bytes ∙ chunks_len w n bs

pub widths_fit : (w n : ℕ) (bs : List ℕ) (k : ℕ) → k ≤ length (chunks_values w n bs) → k ≤ n
widths_fit w n bs k h = omega (arith, h, widths_len w n bs)

-- a cut of the bytes is a cut of the strings
pub widths_cut : (t : TypeTree) (bs : List ℕ) (o n : ℕ) → AreWhole t bs → o + n ≤ length (chunks_values (fixed_width t) (fixed_count t bs) bs)
    → chunks_values (fixed_width t) (fixed_count t (take (n * fixed_width t) (drop (o * fixed_width t) bs))) (take (n * fixed_width t) (drop (o * fixed_width t) bs))
    ≡ take n (drop o (chunks_values (fixed_width t) (fixed_count t bs) bs))
widths_cut t bs o n a h =
    let w = fixed_width t in
    let k = fixed_count t bs in
    let fits : o + n ≤ k = widths_fit w k bs (o + n) h in
    let within : o * w + n * w ≤ length bs = omega (arith, scaled o n k w fits, whole_fits w (length bs)) in
    let long : length (take (n * w) (drop (o * w) bs)) ≡ n * w = length_cut bs (o * w) (n * w) within in
    let count : fixed_count t (take (n * w) (drop (o * w) bs)) ≡ n = ap (λ j. j / w) long ∙ mul-div_cancel n a.0 in
    ap (λ j. chunks_values w j (take (n * w) (drop (o * w) bs))) count ∙ ap (map bytes) (chunks_cut w k o n bs fits) ∙ map_cut bytes (chunks w k bs) o n
