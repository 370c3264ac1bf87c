-- What each kind of part keeps of its pushes.
use Rattle.std.specs.Prelude.{ℕ, ◌^◌, ◌≤◌, ◌⊎◌, ◌≡◌, ℤ, Bool, true, false, nat_lt, if◌then◌else◌, Option, Some, None, List, [], ◌∷◌, map, length, slice_index}
use Rattle.std.specs.Int.{w64, cast_signed, cast_unsigned}
use Rattle.read_laws.specs.State.{Kept, kept_leaf, kept_list, kept_struct, count, size}
use Rattle.read_laws.specs.Step.{is_list}
use Rattle.read_state.specs.declared.kinds.NestedPrimitive.{NestedPrimitive}
use Rattle.read_state.specs.declared.kinds.NestedOptional.{NestedOptional}
use Rattle.read_state.specs.declared.kinds.NestedValid.{NestedValid}
use Rattle.read_state.specs.declared.kinds.NestedStruct.{NestedStruct}
use Rattle.read_state.specs.declared.kinds.NestedStructValid.{NestedStructValid}
use Rattle.read_state.specs.declared.boxes.NestedBox.{NestedBox}
use Rattle.read_state.specs.declared.boxes.NestedBox.TheVariants.{Primitive, Optional, Valid, Struct, StructValid}

-- A length as a start: the number without sign that has its 64 bits, so that a negative length is 2 ^ 63 or more, which no start is. The inner
-- casts change no number of 64 bits.
abbrev pub start_of : ℤ → ℕ
start_of z = cast_unsigned w64 (cast_signed w64 (cast_unsigned w64 z))

-- the lengths that a list keeps, as starts of its items
abbrev pub starts_of : List ℤ → List ℕ
starts_of lengths = map start_of lengths

abbrev pub kept_primitive : NestedPrimitive → Kept
kept_primitive p = kept_leaf p.nullable p.pushes

abbrev pub kept_optional : NestedOptional → Kept
kept_optional p = kept_list (Some p.validity.0) (starts_of p.lengths.items)

abbrev pub kept_valid : NestedValid → Kept
kept_valid p = kept_list None (starts_of p.lengths.items)

abbrev pub kept_optional_struct : NestedStruct → Kept
kept_optional_struct p = kept_struct (Some p.validity.0) (length p.validity.0)

abbrev pub kept_required_struct : NestedStructValid → Kept
kept_required_struct p = kept_struct None p.pushes

abbrev pub kept_box : NestedBox → Kept
kept_box (Primitive p) = kept_primitive p
kept_box (Optional p) = kept_optional p
kept_box (Valid p) = kept_valid p
kept_box (Struct p) = kept_optional_struct p
kept_box (StructValid p) = kept_required_struct p

abbrev pub all_kept : List NestedBox → List Kept
all_kept boxes = map kept_box boxes

-- the starts of a list, none for the other kinds
abbrev pub starts : Kept → List ℕ
starts (kept_list mask items) = items
starts _ = []

-- the validities, where the kind keeps any
abbrev pub mask : Kept → Option (List Bool)
mask (kept_leaf n c) = None
mask (kept_list m items) = m
mask (kept_struct m c) = m

-- without lengths and validities; a kind that has neither stays
abbrev pub emptied : Kept → Kept
emptied (kept_list None items) = kept_list None []
emptied (kept_list (Some bits) items) = kept_list (Some []) []
emptied (kept_struct (Some bits) c) = kept_struct (Some []) 0
emptied k = k

-- a number that has a sign bit counts as none
abbrev pub unless_negative : ℕ → ℕ
unless_negative n = if nat_lt n (2 ^ 63) then n else 0

-- the last length of a list, 0 where there is none or it is negative; of the other kinds the number of pushes
abbrev pub item_count : Kept → ℕ
item_count (kept_list m []) = 0
item_count (kept_list m (s ∷ ss)) = unless_negative (slice_index (s ∷ ss) (length ss))
item_count k = size k

-- A part beneath a list has more slots than 2 ^ 63 - 1, the greatest offset of 64 bits (Arrow columnar format, "Variable-size List Layout").
abbrev pub HasLongItems : List Kept → Type 0
HasLongItems [] = ⊥
HasLongItems (k ∷ ks) = ((is_list k ≡ true) × (2 ^ 63 ≤ count ks)) ⊎ HasLongItems ks
