-- Which columns have deltas.
use Rattle.std.proofs.Common.{◌≡◌, ℕ, Bool, true, false, true≢false, pos, Option, Some, None, refl, sym, ap, ◌∙◌, inl, inr}
use Rattle.shredding.specs.Shape.{LeafType, nothing}
use Rattle.columns_core.specs.Shapes.{base, leaf_type}
use Rattle.columns_core.specs.Tree.{TypeTree, t_null, t_boolean, t_int8, t_int16, t_int32, t_int64, t_uint8, t_uint16, t_uint32, t_uint64, t_date32, t_date64, t_time32, t_time64, t_timestamp, t_duration, t_utf8, t_large_utf8, t_binary, t_large_binary, t_fixed_size_binary, t_interval, t_decimal}
use Rattle.columns_core.specs.declared.types.IntervalUnit.TheVariants.{YearMonth, DayTime}
use Rattle.columns_slots.specs.Types.{is_boolean, is_null_type}
use Rattle.pq_tree.specs.Physical.{Physical, boolean, int32, int64, byte_array, fixed}
use Rattle.write_values.specs.declared.spelling.Deltas.{Deltas}
use Rattle.write_values.specs.declared.spelling.Deltas.TheVariants.{Numbers32, Numbers64, Lengths}
use Rattle.pq_tree.specs.declared.types.Encoding.{Encoding as RustEncoding}
use Rattle.pq_files.specs.Page.{Encoding as PageEncoding, plain, dictionary, delta, delta_length}
use Rattle.pq_files.specs.Written.{number_of_encoding}
use Rattle.pq_pages.specs.DataPages.{is_named, number_in}
use Rattle.write_values.specs.Deltas.{HasDeltas, IsLeafType, IsSpelling, encoding_in, encoding_name, page_encoding}
use Rattle.write_values.specs.Served.{is_decimal, is_small, is_wide, is_string, is_fixed, is_served}
use Rattle.write_values.proofs.ServedTypes.{either, leaf_base}

-- the type has values, or is Null
abbrev HasKind : TypeTree → Type 0
HasKind t = leaf_type t ≡ nothing → is_null_type t ≡ true

truths_have : (t : TypeTree) → is_boolean t ≡ true → HasKind t
truths_have t_boolean e = λ h. absurd cc
truths_have t e = absurd (true≢false (sym e))

small_have : (t : TypeTree) → is_small t ≡ true → HasKind t
small_have t_null e = λ h. refl
small_have t_int8 e = λ h. absurd cc
small_have t_int16 e = λ h. absurd cc
small_have t_int32 e = λ h. absurd cc
small_have t_date32 e = λ h. absurd cc
small_have (t_time32 u) e = λ h. absurd cc
small_have t_uint8 e = λ h. absurd cc
small_have t_uint16 e = λ h. absurd cc
small_have t_uint32 e = λ h. absurd cc
small_have t e = absurd (true≢false (sym e))

wide_have : (t : TypeTree) → is_wide t ≡ true → HasKind t
wide_have t_int64 e = λ h. absurd cc
wide_have t_date64 e = λ h. absurd cc
wide_have (t_time64 u) e = λ h. absurd cc
wide_have (t_timestamp u zone_name) e = λ h. absurd cc
wide_have (t_duration u) e = λ h. absurd cc
wide_have t_uint32 e = λ h. absurd cc
wide_have t_uint64 e = λ h. absurd cc
wide_have t e = absurd (true≢false (sym e))

decimals_have : (t : TypeTree) → is_decimal t ≡ true → HasKind t
decimals_have (t_decimal p s) e = λ h. absurd cc
decimals_have t e = absurd (true≢false (sym e))

strings_have : (t : TypeTree) → is_string t ≡ true → HasKind t
strings_have t_utf8 e = λ h. absurd cc
strings_have t_large_utf8 e = λ h. absurd cc
strings_have t_binary e = λ h. absurd cc
strings_have t_large_binary e = λ h. absurd cc
strings_have t e = absurd (true≢false (sym e))

fixed_have : (n : ℕ) (t : TypeTree) → is_fixed n t ≡ true → HasKind t
fixed_have n (t_fixed_size_binary m) e = λ h. absurd cc
fixed_have n (t_interval YearMonth) e = λ h. absurd cc
fixed_have n (t_interval DayTime) e = λ h. absurd cc
fixed_have n (t_decimal p s) e = λ h. absurd cc
fixed_have n t e = absurd (true≢false (sym e))

served_kind : (t : TypeTree) (p : Physical) → is_served t p ≡ true → HasKind t
served_kind t boolean e = truths_have t e
served_kind t int32 e = elim (either (is_small t) (is_decimal t) e) [ inl s ↦ small_have t s | inr d ↦ decimals_have t d ]
served_kind t int64 e = elim (either (is_wide t) (is_decimal t) e) [ inl s ↦ wide_have t s | inr d ↦ decimals_have t d ]
served_kind t byte_array e = strings_have t e
served_kind t (fixed n) e = fixed_have n t e
served_kind t p e = absurd (true≢false (sym e))

pub leaf_types : (t : TypeTree) (p : Physical) → is_served (base t) p ≡ true → IsLeafType t
leaf_types t p served e = served_kind (base t) p served (leaf_base t ∙ e)

pub null_nothing : (t : TypeTree) → is_null_type t ≡ true → leaf_type t ≡ nothing
null_nothing t_null e = refl
null_nothing t e = absurd (true≢false (sym e))

no_deltas : (wanted : Bool) (p : Physical) → page_encoding wanted nothing p ≡ plain
no_deltas false p = refl
no_deltas true p = refl

-- nulls alone
pub null_spelled : (wanted : Bool) (t : TypeTree) (p : Physical) → is_null_type (base t) ≡ true → IsSpelling wanted (leaf_type t) p None
null_spelled wanted t p e =
    let none : leaf_type t ≡ nothing = sym (leaf_base t) ∙ null_nothing (base t) e in
    record { encoding = sym (ap (λ (l : LeafType). page_encoding wanted l p) none ∙ no_deltas wanted p); are = tt }

pub unwanted : (t : TypeTree) (p : Physical) → IsSpelling false (leaf_type t) p None
unwanted t p = record { encoding = refl; are = tt }

pub spelled : (t : TypeTree) (p : Physical) (deltas : Option Deltas) → IsLeafType t → is_null_type (base t) ≡ false → HasDeltas p deltas → IsSpelling true (leaf_type t) p deltas
spelled t p deltas leaf values h = record { encoding = h.0 (leaf_type t) (λ e. true≢false (sym (leaf e) ∙ values)); are = h.1 }

-- an encoding has the number of its name
pub named_number : (n : RustEncoding) (e : PageEncoding) → n ≡ encoding_name e → number_in n ≡ pos (number_of_encoding e)
named_number n plain h = ap number_in h
named_number n dictionary h = ap number_in h
named_number n delta h = ap number_in h
named_number n delta_length h = ap number_in h

pub is_numbered : (deltas : Option Deltas) → is_named (pos (number_of_encoding (encoding_in deltas))) ≡ true
is_numbered None = refl
is_numbered (Some Numbers32) = refl
is_numbered (Some Numbers64) = refl
is_numbered (Some Lengths) = refl
