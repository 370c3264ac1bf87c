-- Arrays of values.
use Rattle.std.proofs.Common.{◌≡◌, ◌≢◌, ◌∙◌, ℕ, Bool, List, Some, false, refl, sym, true, true≢false}
use Rattle.std.specs.Prelude.{All}
use Rattle.columns_core.specs.Shapes.{base, leaf_type}
use Rattle.columns_core.specs.Tree.{TypeTree, t_boolean, t_int8, t_int16, t_int32, t_int64, t_uint8, t_uint16, t_uint32, t_uint64, t_date32, t_date64, t_time32, t_time64, t_timestamp, t_duration, t_utf8, t_large_utf8, t_binary, t_large_binary, t_fixed_size_binary, t_interval, t_decimal}
use Rattle.columns_core.specs.declared.types.IntervalUnit.TheVariants.{YearMonth, DayTime}
use Rattle.columns_slots.specs.Slots.{IsSound, leaf_at, type_of}
use Rattle.columns_slots.specs.Tree.{ArrayTree, null_array, leaf_array, list_array, fixed_list_array, struct_array, dictionary_array}
use Rattle.columns_slots.specs.Types.{byte_width, is_binary, is_boolean, is_leaf, is_null_type, is_text}
use Rattle.leaf_pages.specs.Columns.{IsValueArray, IsTooWide, PathColumn}
use Rattle.nested_paths.specs.Seen.{leaf_slot}
use Rattle.pq_tree.specs.Physical.{Physical}
use Rattle.shredding.specs.Along.{IsAlong}
use Rattle.shredding.specs.Parts.{IsPath, Part, path_slots, path_way}
use Rattle.shredding.specs.Shape.{decimal, nothing}
use Rattle.write_pages.specs.Fits.{is_written_in}
use Rattle.write_values.specs.Nulls.{TellsNulls}
use Rattle.write_values.specs.Served.{is_served}
use Rattle.write_values.proofs.Along.{path_along}
use Rattle.write_values.proofs.ServedTypes.{leaf_base, no_others}

-- what a path over an array of values stands for goes along the path
pub values_along : (a : ArrayTree) (p : Physical) (parts : List Part) → IsSound a → is_served (base (type_of a)) p ≡ true → is_null_type (base (type_of a)) ≡ false → IsPath parts → All (IsAlong (path_way parts)) (path_slots (leaf_slot a) parts)
values_along (leaf_array t vs m) p parts s e n well = path_along (λ i. leaf_at vs i) parts well
values_along (null_array t k) p parts s e n well = absurd (true≢false (sym s ∙ n))
values_along (list_array t os c m) p parts s e n well = absurd (true≢false (sym e ∙ no_others (list_array t os c m) p refl s))
values_along (fixed_list_array t w k c m) p parts s e n well = absurd (true≢false (sym e ∙ no_others (fixed_list_array t w k c m) p refl s))
values_along (struct_array t cs m) p parts s e n well = absurd (true≢false (sym e ∙ no_others (struct_array t cs m) p refl s))
values_along (dictionary_array t ks c m) p parts s e n well = absurd (true≢false (sym e ∙ no_others (dictionary_array t ks c m) p refl s))

-- it is none of nulls alone
pub values_told : (a : ArrayTree) (parts : List Part) → IsValueArray a → TellsNulls a parts
values_told (leaf_array t vs m) parts h = tt
values_told (null_array t k) parts h = absurd h
values_told (list_array t os c m) parts h = absurd h
values_told (fixed_list_array t w k c m) parts h = absurd h
values_told (struct_array t cs m) parts h = absurd h
values_told (dictionary_array t ks c m) parts h = absurd h

leaf_some : (t : TypeTree) → is_leaf t ≡ true → leaf_type t ≢ nothing
leaf_some t_boolean e = λ q. cc
leaf_some t_int8 e = λ q. cc
leaf_some t_int16 e = λ q. cc
leaf_some t_int32 e = λ q. cc
leaf_some t_int64 e = λ q. cc
leaf_some t_uint8 e = λ q. cc
leaf_some t_uint16 e = λ q. cc
leaf_some t_uint32 e = λ q. cc
leaf_some t_uint64 e = λ q. cc
leaf_some (t_timestamp u z) e = λ q. cc
leaf_some t_date32 e = λ q. cc
leaf_some t_date64 e = λ q. cc
leaf_some (t_time32 u) e = λ q. cc
leaf_some (t_time64 u) e = λ q. cc
leaf_some (t_duration u) e = λ q. cc
leaf_some (t_interval YearMonth) e = λ q. cc
leaf_some (t_interval DayTime) e = λ q. cc
leaf_some t_binary e = λ q. cc
leaf_some (t_fixed_size_binary n) e = λ q. cc
leaf_some t_large_binary e = λ q. cc
leaf_some t_utf8 e = λ q. cc
leaf_some t_large_utf8 e = λ q. cc
leaf_some (t_decimal p s) e = λ q. cc
leaf_some t e = absurd (true≢false (sym e))

-- its type has values
pub values_some : (a : ArrayTree) → IsValueArray a → IsSound a → leaf_type (type_of a) ≢ nothing
values_some (leaf_array t vs m) h s = λ q. leaf_some (base t) s.1 (leaf_base t ∙ q)
values_some (null_array t k) h s = absurd h
values_some (list_array t os c m) h s = absurd h
values_some (fixed_list_array t w k c m) h s = absurd h
values_some (struct_array t cs m) h s = absurd h
values_some (dictionary_array t ks c m) h s = absurd h

-- ---- truth values, texts and byte strings

-- pages have values of the type, and they are no decimals
abbrev pub IsPlainKind : TypeTree → Type 0
IsPlainKind t = (is_written_in true t ≡ true) × (leaf_type t ≢ decimal)

pub truths_are : (t : TypeTree) → is_boolean t ≡ true → IsPlainKind t
truths_are t_boolean e = (refl, λ q. cc)
truths_are t e = absurd (true≢false (sym e))

pub texts_are : (large : Bool) (t : TypeTree) → is_text large t ≡ true → IsPlainKind t
texts_are false t_utf8 e = (refl, λ q. cc)
texts_are true t_large_utf8 e = (refl, λ q. cc)
texts_are false t e = absurd (true≢false (sym e))
texts_are true t e = absurd (true≢false (sym e))

pub strings_are : (large : Bool) (t : TypeTree) → is_binary large t ≡ true → IsPlainKind t
strings_are false t_binary e = (refl, λ q. cc)
strings_are true t_large_binary e = (refl, λ q. cc)
strings_are false t e = absurd (true≢false (sym e))
strings_are true t e = absurd (true≢false (sym e))

pub fixed_strings_are : (t : TypeTree) (n : ℕ) → byte_width t ≡ Some n → leaf_type t ≢ decimal
fixed_strings_are (t_fixed_size_binary k) n e = λ q. cc
fixed_strings_are t n e = λ q. cc

pub none_wide : (c : PathColumn) → leaf_type (base (type_of c.array)) ≢ decimal → ¬ IsTooWide c
unfolding IsTooWide
none_wide c n = λ h. n (leaf_base (type_of c.array) ∙ h.0)
