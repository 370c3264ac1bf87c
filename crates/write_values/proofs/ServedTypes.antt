-- Which types the arrays have whose values are written.
use Rattle.std.proofs.Common.{◌≡◌, ◌⊎◌, ◌<◌, ℕ, ℤ, negsuc, SFits, Bool, true, false, true≢false, Option, Some, None, List, refl, ap, sym, subst, arith, lit≤, inl, inr, pos}
use Rattle.std.specs.Prelude.{◌||◌}
use Rattle.std.specs.Int.{w32, w64, w128, cast_unsigned, int_wrap}
use Rattle.std.proofs.lemmas.Bool.{eqb-true}
use Rattle.std.proofs.lemmas.Int.{int_wrap_fits}
use Rattle.shredding.specs.Shape.{LeafType, unsigned, decimal, Fits, IsInRange}
use Rattle.shredding.specs.Slot.{Value, truth, number, bytes}
use Rattle.columns_core.specs.declared.types.IntervalUnit.TheVariants.{YearMonth, DayTime}
use Rattle.columns_core.specs.Shapes.{base, leaf_type}
use Rattle.columns_core.specs.Tree.{TypeTree, t_null, t_boolean, t_int8, t_int16, t_int32, t_int64, t_uint8, t_uint16, t_uint32, t_uint64, t_date32, t_date64, t_time32, t_time64, t_timestamp, t_duration, t_interval, t_utf8, t_large_utf8, t_binary, t_fixed_size_binary, t_large_binary, t_extension, t_list, t_large_list, t_map, t_fixed_size_list, t_struct, t_dictionary, t_decimal}
use Rattle.columns_slots.specs.Tree.{ArrayTree, null_array, leaf_array, list_array, fixed_list_array, struct_array, dictionary_array, ArrayTrees, no_arrays, more_arrays}
use Rattle.columns_slots.specs.Slots.{IsSound, AreTyped, count_arrays, type_of}
use Rattle.columns_slots.specs.Types.{is_boolean, list_item, fixed_item, entry_type, part_types}
use Rattle.pq_tree.specs.Physical.{Physical, boolean, int32, int64, int96, float, double, byte_array, fixed}
use Rattle.pq_files.specs.Stored.{IsStored, HoldsDecimal}
use Rattle.write_values.specs.Decimals.{stored_decimal}
use Rattle.write_values.specs.Served.{is_decimal, is_fixed, is_small, is_wide, is_string, is_served}
use Rattle.write_values.specs.Stored.{stored_value}
use Rattle.write_values.proofs.DecimalBytes.{long, decimal_spelled}

-- ---- values that are not written

pub no_row : (t : TypeTree) → is_boolean t ≡ false → (is_small t || is_decimal t) ≡ false → (is_wide t || is_decimal t) ≡ false → is_string t ≡ false → ((n : ℕ) → is_fixed n t ≡ false) → (p : Physical) → is_served t p ≡ false
no_row t d a b c f boolean = d
no_row t d a b c f int32 = a
no_row t d a b c f int64 = b
no_row t d a b c f int96 = refl
no_row t d a b c f float = refl
no_row t d a b c f double = refl
no_row t d a b c f byte_array = c
no_row t d a b c f (fixed n) = f n

no_items : (t i : TypeTree) (p : Physical) → list_item t ≡ Some i → is_served t p ≡ false
no_items (t_list f) i p e = no_row (t_list f) refl refl refl refl (λ n. refl) p
no_items (t_large_list f) i p e = no_row (t_large_list f) refl refl refl refl (λ n. refl) p
no_items (t_map f s) i p e = no_row (t_map f s) refl refl refl refl (λ n. refl) p
no_items t i p e = absurd cc

no_fixed_items : (t i : TypeTree) (p : Physical) → fixed_item t ≡ Some i → is_served t p ≡ false
no_fixed_items (t_fixed_size_list f k) i p e = no_row (t_fixed_size_list f k) refl refl refl refl (λ n. refl) p
no_fixed_items t i p e = absurd cc

no_entries : (t i : TypeTree) (p : Physical) → entry_type t ≡ Some i → is_served t p ≡ false
no_entries (t_dictionary k v s) i p e = no_row (t_dictionary k v s) refl refl refl refl (λ n. refl) p
no_entries t i p e = absurd cc

no_parts : (t : TypeTree) (cs : ArrayTrees) (p : Physical) → AreTyped (part_types t) cs → 0 < count_arrays cs → is_served t p ≡ false
no_parts (t_struct fs) cs p h k = no_row (t_struct fs) refl refl refl refl (λ n. refl) p
no_parts t no_arrays p h k = absurd (omega (arith, k))
no_parts t (more_arrays c cs) p h k = absurd h

abbrev pub holds_none : ArrayTree → Bool
holds_none (null_array t n) = true
holds_none (leaf_array t vs m) = true
holds_none a = false

-- arrays that hold arrays
pub no_others : (a : ArrayTree) (p : Physical) → holds_none a ≡ false → IsSound a → is_served (base (type_of a)) p ≡ false
no_others (null_array t n) p e s = absurd (true≢false e)
no_others (leaf_array t vs m) p e s = absurd (true≢false e)
no_others (list_array t os c m) p e s = no_items (base t) (type_of c) p s.3
no_others (fixed_list_array t w n c m) p e s = no_fixed_items (base t) (type_of c) p s.3
no_others (struct_array t cs m) p e s = no_parts (base t) cs p s.2 s.3
no_others (dictionary_array t ks c m) p e s = no_entries (base t) (type_of c) p s.2

abbrev number_or : ℕ → Option ℕ → ℕ
number_or n (Some m) = m
number_or n None = n

pub some_number : (m n : ℕ) → Some m ≡ Some n → m ≡ n
some_number m n e = ap (number_or m) e

-- ---- what is written

-- one of two
pub either : (a b : Bool) → (a || b) ≡ true → (a ≡ true) ⊎ (b ≡ true)
either true b e = inl refl
either false b e = inr e

-- a decimal is held
abbrev pub IsHeld : LeafType → Physical → Value → Type 0
IsHeld decimal p (number z) = HoldsDecimal p z
IsHeld t p v = Unit {0}

pub signed_32 : (z : ℤ) → Fits 32 z → SFits w32 z
signed_32 (pos n) h = omega (arith, h)
signed_32 (negsuc n) h = omega (arith, h)

pub signed_64 : (z : ℤ) → Fits 64 z → SFits w64 z
signed_64 (pos n) h = omega (arith, h)
signed_64 (negsuc n) h = omega (arith, h)

-- a number of so many bits is what they hold
pub wrapped_32 : (z : ℤ) → Fits 32 z → int_wrap w32 z ≡ z
wrapped_32 z h = int_wrap_fits w32 z (signed_32 z h)

pub wrapped_64 : (z : ℤ) → Fits 64 z → int_wrap w64 z ≡ z
wrapped_64 z h = int_wrap_fits w64 z (signed_64 z h)

pub decimal_stored : (p : Physical) (z : ℤ) → HoldsDecimal p z → IsStored decimal p (number z) (stored_decimal p z)
decimal_stored int32 z h = (h, ap number (wrapped_32 z h))
decimal_stored int64 z h = (h, ap number (wrapped_64 z h))
decimal_stored (fixed n) z h = (h.0, h.1, long n (cast_unsigned w128 z), decimal_spelled n z h.0 h.1 h.2)
decimal_stored p z h = absurd h

small_stored : (t : TypeTree) (v : Value) → is_small t ≡ true → IsInRange (leaf_type t) v → IsStored (leaf_type t) int32 v (stored_value (leaf_type t) int32 v)
small_stored t_int8 (number z) e h = (lit≤ tt, h, refl)
small_stored t_int16 (number z) e h = (lit≤ tt, h, refl)
small_stored t_int32 (number z) e h = (lit≤ tt, h, refl)
small_stored t_date32 (number z) e h = (lit≤ tt, h, refl)
small_stored (t_time32 u) (number z) e h = (lit≤ tt, h, refl)
small_stored t_uint8 (number (pos n)) e h = (lit≤ tt, h, refl)
small_stored t_uint16 (number (pos n)) e h = (lit≤ tt, h, refl)
small_stored t_uint32 (number (pos n)) e h = (lit≤ tt, h, refl)
small_stored t_int8 v e h = absurd h
small_stored t_int16 v e h = absurd h
small_stored t_int32 v e h = absurd h
small_stored t_date32 v e h = absurd h
small_stored (t_time32 u) v e h = absurd h
small_stored t_uint8 v e h = absurd h
small_stored t_uint16 v e h = absurd h
small_stored t_uint32 v e h = absurd h
small_stored t_null v e h = absurd h
small_stored t v e h = absurd (true≢false (sym e))

wide_stored : (t : TypeTree) (v : Value) → is_wide t ≡ true → IsInRange (leaf_type t) v → IsStored (leaf_type t) int64 v (stored_value (leaf_type t) int64 v)
wide_stored t_int64 (number z) e h = (refl, h, refl)
wide_stored t_date64 (number z) e h = (refl, h, refl)
wide_stored (t_time64 u) (number z) e h = (refl, h, refl)
wide_stored (t_timestamp u zone_name) (number z) e h = (refl, h, refl)
wide_stored (t_duration u) (number z) e h = (refl, h, refl)
wide_stored t_uint32 (number (pos n)) e h = (inl refl, h, refl)
wide_stored t_uint64 (number (pos n)) e h = (inr refl, h, refl)
wide_stored t_int64 v e h = absurd h
wide_stored t_date64 v e h = absurd h
wide_stored (t_time64 u) v e h = absurd h
wide_stored (t_timestamp u zone_name) v e h = absurd h
wide_stored (t_duration u) v e h = absurd h
wide_stored t_uint32 v e h = absurd h
wide_stored t_uint64 v e h = absurd h
wide_stored t v e h = absurd (true≢false (sym e))

string_stored : (t : TypeTree) (v : Value) → is_string t ≡ true → IsInRange (leaf_type t) v → IsStored (leaf_type t) byte_array v (stored_value (leaf_type t) byte_array v)
string_stored t_utf8 (bytes s) e h = (h, refl)
string_stored t_large_utf8 (bytes s) e h = (h, refl)
string_stored t_binary (bytes s) e h = refl
string_stored t_large_binary (bytes s) e h = refl
string_stored t_utf8 v e h = absurd h
string_stored t_large_utf8 v e h = absurd h
string_stored t_binary v e h = absurd h
string_stored t_large_binary v e h = absurd h
string_stored t v e h = absurd (true≢false (sym e))

truth_stored : (t : TypeTree) (v : Value) → is_boolean t ≡ true → IsInRange (leaf_type t) v → IsStored (leaf_type t) boolean v (stored_value (leaf_type t) boolean v)
truth_stored t_boolean (truth b) e h = refl
truth_stored t_boolean v e h = absurd h
truth_stored t v e h = absurd (true≢false (sym e))

-- byte strings are stored as they are
pub string_kept : (t : LeafType) (p : Physical) (s : List ℕ) → stored_value t p (bytes s) ≡ bytes s
string_kept (unsigned w) int32 s = refl
string_kept (unsigned w) int64 s = refl
string_kept decimal int32 s = refl
string_kept decimal int64 s = refl
string_kept decimal (fixed n) s = refl
string_kept t p s = refl

fixed_stored : (t : TypeTree) (n : ℕ) (v : Value) → is_fixed n t ≡ true → IsInRange (leaf_type t) v → IsHeld (leaf_type t) (fixed n) v → IsStored (leaf_type t) (fixed n) v (stored_value (leaf_type t) (fixed n) v)
fixed_stored (t_fixed_size_binary m) n (bytes s) e h k = (eqb-true m n e, h, refl)
fixed_stored (t_fixed_size_binary m) n v e h k = absurd h
fixed_stored (t_interval YearMonth) n (bytes s) e h k = (sym (eqb-true 12 n e), h.0, h.1, refl)
fixed_stored (t_interval DayTime) n (bytes s) e h k = (sym (eqb-true 12 n e), h.0, h.1, refl)
fixed_stored (t_interval YearMonth) n v e h k = absurd h
fixed_stored (t_interval DayTime) n v e h k = absurd h
fixed_stored (t_decimal q x) n (number z) e h k = decimal_stored (fixed n) z k
fixed_stored (t_decimal q x) n v e h k = absurd h
fixed_stored t n v e h k = absurd (true≢false (sym e))

-- what is stored for a decimal
pub decimal_is : (p : Physical) (z : ℤ) → stored_value decimal p (number z) ≡ stored_decimal p z
decimal_is int32 z = refl
decimal_is int64 z = refl
decimal_is (fixed n) z = refl
decimal_is p z = refl

decimals_stored : (t : TypeTree) (p : Physical) (v : Value) → is_decimal t ≡ true → IsInRange (leaf_type t) v → IsHeld (leaf_type t) p v → IsStored (leaf_type t) p v (stored_value (leaf_type t) p v)
decimals_stored (t_decimal q x) p (number z) e h k = subst (IsStored decimal p (number z)) (sym (decimal_is p z)) (decimal_stored p z k)
decimals_stored (t_decimal q x) p v e h k = absurd h
decimals_stored t p v e h k = absurd (true≢false (sym e))

-- by the page table
pub served_stored : (t : TypeTree) (p : Physical) (v : Value) → is_served t p ≡ true → IsInRange (leaf_type t) v → IsHeld (leaf_type t) p v → IsStored (leaf_type t) p v (stored_value (leaf_type t) p v)
served_stored t boolean v e h k = truth_stored t v e h
served_stored t int32 v e h k = elim (either (is_small t) (is_decimal t) e) [ inl s ↦ small_stored t v s h | inr d ↦ decimals_stored t int32 v d h k ]
served_stored t int64 v e h k = elim (either (is_wide t) (is_decimal t) e) [ inl s ↦ wide_stored t v s h | inr d ↦ decimals_stored t int64 v d h k ]
served_stored t byte_array v e h k = string_stored t v e h
served_stored t (fixed n) v e h k = fixed_stored t n v e h k
served_stored t p v e h k = absurd (true≢false (sym e))

pub leaf_base : (t : TypeTree) → leaf_type (base t) ≡ leaf_type t
leaf_base (t_extension n t m) = leaf_base t
leaf_base t = refl
