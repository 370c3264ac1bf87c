-- A schema element of the footer, as a Thrift struct (Parquet format, parquet.thrift: SchemaElement, ConvertedType, LogicalType).
use Rattle.std.specs.Prelude.{◌≡◌, ℕ, ◌≤◌, ℤ, pos, negsuc, List, Bool, Option, Some, None, option_map, if◌then◌else◌, ◌==◌, nat_le, ◌||◌, ◌&&◌, not, IsUtf8}
use Rattle.pq_thrift.specs.Value.{Value, truth, int8, int32, binary, struct, Fields}
use Rattle.pq_tree.specs.Physical.{Physical, number_of_physical}
use Rattle.pq_tree.specs.Types.{Repetition, TimeUnit, Converted, Logical}
use Rattle.pq_tree.specs.Tree.{Element}
use Rattle.pq_metadata.specs.Ids.{get, last_field, Holds}

-- the fields with their kinds: each may be absent but the name
pub record RawElement : Type 0 where
  pub type : Option ℤ
  pub type_length : Option ℤ
  pub repetition : Option ℤ
  pub name : List ℕ
  pub num_children : Option ℤ
  pub converted : Option ℤ
  pub scale : Option ℤ
  pub precision : Option ℤ
  pub field_id : Option ℤ
  pub logical : Option Fields

pub record HasElement (fs : Fields) (e : RawElement) : Type 0 where
  pub type : Holds int32 1 fs e.type
  pub type_length : Holds int32 2 fs e.type_length
  pub repetition : Holds int32 3 fs e.repetition
  pub name : get 4 fs ≡ Some (binary e.name)
  pub text : IsUtf8 e.name
  pub num_children : Holds int32 5 fs e.num_children
  pub converted : Holds int32 6 fs e.converted
  pub scale : Holds int32 7 fs e.scale
  pub precision : Holds int32 8 fs e.precision
  pub field_id : Holds int32 9 fs e.field_id
  pub logical : Holds struct 10 fs e.logical

-- ---- what the numbers stand for

-- a number from 0, which counts as 0 where it is absent
abbrev pub IsNatural : Option ℤ → ℕ → Type 0
IsNatural None n = n ≡ 0
IsNatural (Some z) n = z ≡ pos n

abbrev pub IsPhysical : Option ℤ → Option ℤ → Option Physical → Type 0
IsPhysical None len p = p ≡ None
IsPhysical (Some z) len None = ⊥
IsPhysical (Some z) len (Some (Physical.fixed n)) = (z ≡ pos 7) × (1 ≤ n) × (len ≡ Some (pos n))
IsPhysical (Some z) len (Some p) = z ≡ pos (number_of_physical p)

abbrev pub number_of_repetition : Repetition → ℤ
number_of_repetition Repetition.required = pos 0
number_of_repetition Repetition.optional = pos 1
number_of_repetition Repetition.repeated = pos 2

-- the converted type with the number, where it has one; a decimal has its own precision and scale
abbrev pub converted_numbered : ℕ → ℕ → ℕ → Option Converted
converted_numbered n precision scale =
    if n == 0 then Some Converted.utf8
    else if n == 1 then Some Converted.map
    else if n == 2 then Some Converted.map_key_value
    else if n == 3 then Some Converted.list
    else if n == 4 then Some Converted.enum
    else if n == 5 then Some (Converted.decimal precision scale)
    else if n == 6 then Some Converted.date
    else if n == 7 then Some Converted.time_millis
    else if n == 8 then Some Converted.time_micros
    else if n == 9 then Some Converted.timestamp_millis
    else if n == 10 then Some Converted.timestamp_micros
    else if n == 11 then Some (Converted.unsigned 8)
    else if n == 12 then Some (Converted.unsigned 16)
    else if n == 13 then Some (Converted.unsigned 32)
    else if n == 14 then Some (Converted.unsigned 64)
    else if n == 15 then Some (Converted.signed 8)
    else if n == 16 then Some (Converted.signed 16)
    else if n == 17 then Some (Converted.signed 32)
    else if n == 18 then Some (Converted.signed 64)
    else if n == 19 then Some Converted.json
    else if n == 20 then Some Converted.bson
    else if n == 21 then Some Converted.interval
    else None

abbrev pub converted_of : Option ℤ → ℕ → ℕ → Option Converted
converted_of (Some (pos n)) precision scale = converted_numbered n precision scale
converted_of _ precision scale = None

-- ---- logical types: the last member of a union, which is a struct; the outer option says whether its fields have their kinds

abbrev pub LogicalOf : Type 0
LogicalOf = Option (Option Logical)

-- a number in a field, from 0, and 0 where it is absent
abbrev pub natural_of : Option Value → Option ℕ
natural_of None = Some 0
natural_of (Some (int32 (pos n))) = Some n
natural_of (Some v) = None

abbrev pub truth_of : Option Value → Option Bool
truth_of (Some (truth b)) = Some b
truth_of _ = None

abbrev pub unit_numbered : ℤ → Option TimeUnit
unit_numbered (pos n) = if n == 1 then Some TimeUnit.millis else if n == 2 then Some TimeUnit.micros else if n == 3 then Some TimeUnit.nanos else None
unit_numbered (negsuc n) = None

-- a unit that isn't known counts as absent, and one that is known is a struct
abbrev pub unit_in : Option TimeUnit → Value → Option (Option TimeUnit)
unit_in None v = Some None
unit_in (Some unit) (struct fs) = Some (Some unit)
unit_in (Some unit) v = None

abbrev pub unit_of_field : Option (ℤ × Value) → Option (Option TimeUnit)
unit_of_field None = None
unit_of_field (Some p) = unit_in (unit_numbered p.0) p.1

abbrev pub unit_of : Option Value → Option (Option TimeUnit)
unit_of (Some (struct fs)) = unit_of_field (last_field fs)
unit_of _ = None

abbrev pub both : {A B C : Type 0} → (A → B → C) → Option A → Option B → Option C
both f (Some a) (Some b) = Some (f a b)
both f _ _ = None

abbrev pub logical_decimal : Fields → LogicalOf
logical_decimal fs = both (λ scale precision. Some (Logical.decimal precision scale)) (natural_of (get 1 fs)) (natural_of (get 2 fs))

abbrev pub logical_time : (Bool → TimeUnit → Logical) → Fields → LogicalOf
logical_time con fs = both (λ adjusted unit. option_map (con adjusted) unit) (truth_of (get 1 fs)) (unit_of (get 2 fs))

-- an integer of another width counts as absent
abbrev pub integer_of : ℤ → Bool → Option Logical
integer_of (pos n) signed = if (n == 8) || (n == 16) || (n == 32) || (n == 64) then Some (Logical.integer n signed) else None
integer_of (negsuc n) signed = None

abbrev pub width_of : Option Value → Option ℤ
width_of (Some (int8 z)) = Some z
width_of _ = None

abbrev pub logical_integer : Fields → LogicalOf
logical_integer fs = both integer_of (width_of (get 1 fs)) (truth_of (get 2 fs))

abbrev pub logical_numbered : ℕ → Fields → LogicalOf
logical_numbered n fs =
    if n == 1 then Some (Some Logical.string)
    else if n == 2 then Some (Some Logical.map)
    else if n == 3 then Some (Some Logical.list)
    else if n == 4 then Some (Some Logical.enum)
    else if n == 5 then logical_decimal fs
    else if n == 6 then Some (Some Logical.date)
    else if n == 7 then logical_time Logical.time fs
    else if n == 8 then logical_time Logical.timestamp fs
    else if n == 10 then logical_integer fs
    else if n == 11 then Some (Some Logical.unknown)
    else if n == 12 then Some (Some Logical.json)
    else if n == 13 then Some (Some Logical.bson)
    else if n == 14 then Some (Some Logical.uuid)
    else Some None

-- the numbers of the members that are known
abbrev pub is_member : ℕ → Bool
is_member n = nat_le 1 n && nat_le n 14 && not (n == 9)

-- a member that isn't known counts as absent whatever it is, and one that is known is a struct
abbrev pub logical_field : ℤ → Value → LogicalOf
logical_field (pos n) (struct fs) = logical_numbered n fs
logical_field (negsuc n) v = Some None
logical_field (pos n) v = if is_member n then None else Some None

abbrev pub logical_last : Option (ℤ × Value) → LogicalOf
logical_last None = Some None
logical_last (Some p) = logical_field p.0 p.1

abbrev pub logical_of : Option Fields → LogicalOf
logical_of None = Some None
logical_of (Some fs) = logical_last (last_field fs)

-- ---- the element of a node

pub record IsNode (raw : RawElement) (e : Element) : Type 0 where
  pub physical : IsPhysical raw.type raw.type_length e.physical
  pub children : IsNatural raw.num_children e.children
  pub name : raw.name ≡ e.info.name
  pub repetition : raw.repetition ≡ Some (number_of_repetition e.info.repetition)
  pub id : raw.field_id ≡ e.info.id
  pub precision : ℕ
  pub scale : ℕ
  pub has_precision : IsNatural raw.precision precision
  pub has_scale : IsNatural raw.scale scale
  pub converted : e.info.converted ≡ converted_of raw.converted precision scale
  pub logical : logical_of raw.logical ≡ Some e.info.logical

-- The root has no type. Its repetition is not looked at, and what it is annotated with is of no use.
pub record IsRoot (raw : RawElement) (name : List ℕ) (children : ℕ) : Type 0 where
  pub is_group : raw.type ≡ None
  pub counts : IsNatural raw.num_children children
  pub is_named : raw.name ≡ name
  pub precision : ℕ
  pub scale : ℕ
  pub has_precision : IsNatural raw.precision precision
  pub has_scale : IsNatural raw.scale scale
  pub annotation : Option Logical
  pub logical : logical_of raw.logical ≡ Some annotation

abbrev pub SpellsNode : Value → Element → Type 0
SpellsNode (struct fs) e = (raw : RawElement) × HasElement fs raw × IsNode raw e
SpellsNode v e = ⊥

abbrev pub SpellsRoot : Value → List ℕ → ℕ → Type 0
SpellsRoot (struct fs) name children = (raw : RawElement) × HasElement fs raw × IsRoot raw name children
SpellsRoot v name children = ⊥
