-- The encodings in which pages are written.
use Rattle.std.proofs.Common.{◌≡◌, ◌≢◌, ℕ, Bool, true, false, true≢false, cond, Some, List, refl, sym, ap, ◌∙◌, inl, inr}
use Rattle.std.specs.Prelude.{◌&&◌}
use Rattle.shredding.specs.Parts.{Part}
use Rattle.shredding.specs.Shape.{LeafType, nothing, truths, text, binary, signed, unsigned, fixed_bytes, decimal, months, days}
use Rattle.columns_core.specs.Shapes.{base, leaf_type}
use Rattle.columns_core.specs.Tree.{TypeTree, t_decimal, t_fixed_size_binary, t_interval, t_null, t_boolean, t_int8, t_int16, t_int32, t_int64, t_uint8, t_uint16, t_uint32, t_uint64, t_timestamp, t_date32, t_date64, t_time32, t_time64, t_duration, t_binary, t_large_binary, t_utf8, t_large_utf8, t_dictionary, t_extension}
use Rattle.columns_core.specs.declared.types.IntegerType.{IntegerType}
use Rattle.columns_core.specs.declared.types.IntervalUnit.TheVariants.{YearMonth, DayTime}
use Rattle.columns_slots.specs.Types.{is_boolean}
use Rattle.pq_tree.specs.Physical.{Physical, boolean, int32, int64, int96, float, double, byte_array, fixed}
use Rattle.pq_tree.specs.declared.types.Encoding.{Encoding as RustEncoding}
use Rattle.pq_tree.specs.declared.types.Encoding.TheVariants as E
use Rattle.pq_files.specs.Layout.{delta_of}
use Rattle.pq_files.specs.Page.{Encoding, plain, delta, delta_length}
use Rattle.schema_to_tree.specs.Encodes.{is_delta, is_dictionary, is_strings}
use Rattle.write_values.specs.Deltas.{page_encoding}
use Rattle.write_values.specs.Served.{is_decimal, is_small, is_wide, is_string, is_fixed, is_served}
use Rattle.write_values.proofs.ServedTypes.{either}
use Rattle.write_pages.specs.Fits.{is_flat_path, is_written_as}
use Rattle.write_pages.specs.Holds.{encoding_view, is_delta_encoding, wants_deltas, written_encoding}
use Rattle.write_pages.specs.Refused.{IsUnwritten}

-- ---- types that have deltas

-- texts and truth values are no numbers
string_no_delta : (t : TypeTree) → is_string t ≡ true → is_delta t ≡ false
string_no_delta t_utf8 e = refl
string_no_delta t_large_utf8 e = refl
string_no_delta t_binary e = refl
string_no_delta t_large_binary e = refl
string_no_delta t e = absurd (true≢false (sym e))

truth_no_delta : (t : TypeTree) → is_boolean t ≡ true → is_delta t ≡ false
truth_no_delta t_boolean e = refl
truth_no_delta t e = absurd (true≢false (sym e))

truth_no_string : (t : TypeTree) → is_boolean t ≡ true → is_strings t ≡ false
truth_no_string t_boolean e = refl
truth_no_string t e = absurd (true≢false (sym e))

-- nor are numbers texts
small_no_string : (t : TypeTree) → is_small t ≡ true → is_strings t ≡ false
small_no_string t_null e = refl
small_no_string t_int8 e = refl
small_no_string t_int16 e = refl
small_no_string t_int32 e = refl
small_no_string t_date32 e = refl
small_no_string (t_time32 u) e = refl
small_no_string t_uint8 e = refl
small_no_string t_uint16 e = refl
small_no_string t_uint32 e = refl
small_no_string t e = absurd (true≢false (sym e))

decimal_no_string : (t : TypeTree) → is_decimal t ≡ true → is_strings t ≡ false
decimal_no_string (t_decimal p s) e = refl
decimal_no_string t e = absurd (true≢false (sym e))

fixed_no_string : (n : ℕ) (t : TypeTree) → is_fixed n t ≡ true → is_strings t ≡ false
fixed_no_string n (t_fixed_size_binary m) e = refl
fixed_no_string n (t_interval YearMonth) e = refl
fixed_no_string n (t_interval DayTime) e = refl
fixed_no_string n (t_decimal p s) e = refl
fixed_no_string n t e = absurd (true≢false (sym e))

wide_no_string : (t : TypeTree) → is_wide t ≡ true → is_strings t ≡ false
wide_no_string t_int64 e = refl
wide_no_string t_date64 e = refl
wide_no_string (t_time64 u) e = refl
wide_no_string (t_timestamp u zone_name) e = refl
wide_no_string (t_duration u) e = refl
wide_no_string t_uint32 e = refl
wide_no_string t_uint64 e = refl
wide_no_string t e = absurd (true≢false (sym e))

-- values that are written alone are of no dictionary
keys_unserved : (k : IntegerType) (u : TypeTree) (s : Bool) (p : Physical) → is_served (t_dictionary k u s) p ≡ false
keys_unserved k u s boolean = refl
keys_unserved k u s int32 = refl
keys_unserved k u s int64 = refl
keys_unserved k u s int96 = refl
keys_unserved k u s float = refl
keys_unserved k u s double = refl
keys_unserved k u s byte_array = refl
keys_unserved k u s (fixed n) = refl

pub served_no_keys : (t : TypeTree) (p : Physical) → is_served t p ≡ true → is_dictionary t ≡ false
served_no_keys (t_dictionary k u s) p e = absurd (true≢false (sym e ∙ keys_unserved k u s p))
served_no_keys t p e = refl

-- ---- the encoding by the leaf type

-- values have the deltas of their physical type
narrow_delta : (l : LeafType) → l ≢ nothing → delta_of l int32 ≡ delta
narrow_delta nothing n = absurd (n refl)
narrow_delta truths n = refl
narrow_delta text n = refl
narrow_delta binary n = refl
narrow_delta (signed w) n = refl
narrow_delta (unsigned w) n = refl
narrow_delta (fixed_bytes w) n = refl
narrow_delta decimal n = refl
narrow_delta months n = refl
narrow_delta days n = refl

wide_delta : (l : LeafType) → l ≢ nothing → delta_of l int64 ≡ delta
wide_delta nothing n = absurd (n refl)
wide_delta truths n = refl
wide_delta text n = refl
wide_delta binary n = refl
wide_delta (signed w) n = refl
wide_delta (unsigned w) n = refl
wide_delta (fixed_bytes w) n = refl
wide_delta decimal n = refl
wide_delta months n = refl
wide_delta days n = refl

string_delta : (l : LeafType) → l ≢ nothing → delta_of l byte_array ≡ delta_length
string_delta nothing n = absurd (n refl)
string_delta truths n = refl
string_delta text n = refl
string_delta binary n = refl
string_delta (signed w) n = refl
string_delta (unsigned w) n = refl
string_delta (fixed_bytes w) n = refl
string_delta decimal n = refl
string_delta months n = refl
string_delta days n = refl

-- of values the encoding is the one that is asked for, of nulls alone PLAIN
pub written_is : (l : LeafType) (parts : List Part) (e : RustEncoding) (x : Encoding) → (l ≡ nothing → x ≡ plain) → (l ≢ nothing → cond (is_flat_path parts) (encoding_view e) (Some plain) ≡ Some x) → written_encoding l parts e ≡ Some x
written_is nothing parts e x n h = ap Some (sym (n refl))
written_is truths parts e x n h = h (λ q. cc)
written_is text parts e x n h = h (λ q. cc)
written_is binary parts e x n h = h (λ q. cc)
written_is (signed w) parts e x n h = h (λ q. cc)
written_is (unsigned w) parts e x n h = h (λ q. cc)
written_is (fixed_bytes w) parts e x n h = h (λ q. cc)
written_is decimal parts e x n h = h (λ q. cc)
written_is months parts e x n h = h (λ q. cc)
written_is days parts e x n h = h (λ q. cc)

no_deltas : (wanted : Bool) (l : LeafType) (p : Physical) → l ≡ nothing → page_encoding wanted l p ≡ plain
no_deltas false l p n = refl
no_deltas true l p n = ap (λ (k : LeafType). delta_of k p) n

-- ---- of a flat path

module _ (l : LeafType) (n : l ≢ nothing) (t : TypeTree) where
  abbrev IsAsked : Physical → RustEncoding → Type 0
  IsAsked p e = encoding_view e ≡ Some (page_encoding (is_delta_encoding e) l p)

  numbers : (p : Physical) → is_served (base t) p ≡ true → ¬ (is_written_as E.DeltaBinaryPacked t p ≡ false) → IsAsked p E.DeltaBinaryPacked
  numbers int32 s h = ap Some (sym (narrow_delta l n))
  numbers int64 s h = ap Some (sym (wide_delta l n))
  numbers byte_array s h = absurd (h (string_no_delta (base t) s))
  numbers boolean s h = absurd (h (truth_no_delta (base t) s))
  numbers (fixed k) s h = absurd (h refl)
  numbers p s h = absurd (true≢false (sym s))

  strings : (p : Physical) → is_served (base t) p ≡ true → ¬ (is_written_as E.DeltaLengthByteArray t p ≡ false) → IsAsked p E.DeltaLengthByteArray
  strings int32 s h = absurd (h (elim (either (is_small (base t)) (is_decimal (base t)) s) [ inl k ↦ small_no_string (base t) k | inr d ↦ decimal_no_string (base t) d ]))
  strings int64 s h = absurd (h (elim (either (is_wide (base t)) (is_decimal (base t)) s) [ inl k ↦ wide_no_string (base t) k | inr d ↦ decimal_no_string (base t) d ]))
  strings byte_array s h = ap Some (sym (string_delta l n))
  strings boolean s h = absurd (h (truth_no_string (base t) s))
  strings (fixed k) s h = absurd (h (fixed_no_string k (base t) s))
  strings p s h = absurd (true≢false (sym s))

  flat : (p : Physical) (e : RustEncoding) → is_served (base t) p ≡ true → ¬ (is_written_as e t p ≡ false) → IsAsked p e
  flat p E.Plain s h = refl
  flat p E.DeltaBinaryPacked s h = numbers p s h
  flat p E.DeltaLengthByteArray s h = strings p s h
  flat p E.PlainDictionary s h = absurd (h (served_no_keys (base t) p s))
  flat p E.Rle s h = absurd (h refl)
  flat p E.BitPacked s h = absurd (h refl)
  flat p E.DeltaByteArray s h = absurd (h refl)
  flat p E.RleDictionary s h = absurd (h (served_no_keys (base t) p s))

-- the encoding of the pages of a column that are written
pub deltas_written : (t : TypeTree) (p : Physical) (parts : List Part) (e : RustEncoding) → ¬ IsUnwritten parts t p e → is_served (base t) p ≡ true → written_encoding (leaf_type t) parts e ≡ Some (page_encoding (wants_deltas parts e) (leaf_type t) p)
deltas_written t p parts e h s = written_is l parts e (page_encoding (wants_deltas parts e) l p) (no_deltas (wants_deltas parts e) l p) (λ n. by_path n (is_flat_path parts) refl)
  where
    l : LeafType
    l = leaf_type t

    by_path : l ≢ nothing → (b : Bool) → is_flat_path parts ≡ b → cond b (encoding_view e) (Some plain) ≡ Some (page_encoding (b && is_delta_encoding e) l p)
    by_path n false q = refl
    by_path n true q = flat l n t p e s (λ k. h (q, k))

-- ---- beneath extensions

pub base_base : (t : TypeTree) → base (base t) ≡ base t
base_base (t_extension n t m) = base_base t
base_base t = refl
