-- The nodes that are written are read again, but for their ids.
use Rattle.std.proofs.Common.{◌≡◌, ℕ, suc, ℤ, pos, List, [], ◌∷◌, ◌++◌, map, Option, Some, None, option_map, Global, refl, ap, sym, subst}
use Rattle.std.specs.Prelude.{IsUtf8}
use Rattle.std.specs.List.{AllByRecursion as All'}
use Rattle.std.specs.declared.vec.Vec.{Vec}
use Rattle.std.proofs.lemmas.Str.{IsUtf8-string_bytes}
use Rattle.pq_thrift.specs.Value.{Value, int32, binary, struct, Fields, no_fields, values_of}
use Rattle.pq_tree.specs.declared.types.ConvertedType.{ConvertedType}
use Rattle.pq_tree.specs.declared.types.ConvertedType.TheVariants as C
use Rattle.pq_tree.specs.declared.types.LogicalType.{LogicalType}
use Rattle.pq_tree.specs.declared.types.LogicalType.TheVariants as L
use Rattle.pq_tree.specs.declared.types.TimeUnit.TheVariants as U
use Rattle.pq_tree.specs.declared.types.IntegerType.TheVariants as I
use Rattle.pq_tree.specs.declared.types.FieldInfo.{FieldInfo}
use Rattle.pq_tree.specs.declared.types.ParquetType.{ParquetType, ind-ParquetType, roll-ParquetType, map-ParquetType}
use Rattle.pq_tree.specs.declared.types.ParquetType.TheOpen.{ParquetType-F}
use Rattle.pq_tree.specs.declared.types.ParquetType.TheShapes.{former-ParquetType-GroupType-3}
use Rattle.pq_tree.specs.declared.types.ParquetType.TheViews.{rolls-PrimitiveType, rolls-GroupType}
use Rattle.pq_metadata.specs.Elements.{RawElement, HasElement, IsNatural, IsPhysical, number_of_repetition, converted_of, logical_of, SpellsNode}
use Rattle.pq_metadata.specs.Ids.{Each}
use Rattle.pq_tree.specs.Physical.{Physical, number_of_physical}
use Rattle.pq_tree.specs.Tree.{Tree, leaf, group, Trees, no_trees, tree, Element, count_trees, preorder, preorder_of}
use Rattle.pq_tree.specs.TreeViews.{info_view, tree_view, trees_view}
use Rattle.pq_tree.specs.Types.{Converted, Logical, Info}
use Rattle.pq_tree.specs.Views.{converted_view, logical_view}
use Rattle.pq_files.specs.Written.{at, at_some, i32, number_of_converted, logical_value, length_of, scale_of, precision_of, element_of, element_value}
use Rattle.footer_write.specs.Reads.{without_id, without_numbers, bare, tree_told, trees_told, HasLength, TreeHasLengths, HasLengths}
use Rattle.footer_write.proofs.Nodes.{view_leaf, view_group}

-- ---- fields that may be absent

abbrev leaf_fields : ℤ → Option ℤ → ℤ → List ℕ → Option ℤ → Option ℤ → Option ℤ → Option Fields → Fields
leaf_fields type size repetition name converted scale precision logical =
    at 1 (int32 type)
    (at_some 2 (option_map int32 size)
    (at 3 (int32 repetition)
    (at 4 (binary name)
    (at_some 6 (option_map int32 converted) (at_some 7 (option_map int32 scale) (at_some 8 (option_map int32 precision) (at_some 10 (option_map struct logical) no_fields)))))))

abbrev leaf_raw : ℤ → Option ℤ → ℤ → List ℕ → Option ℤ → Option ℤ → Option ℤ → Option Fields → RawElement
leaf_raw type size repetition name converted scale precision logical =
    record {
      type = Some type;
      type_length = size;
      repetition = Some repetition;
      name = name;
      num_children = None;
      converted = converted;
      scale = scale;
      precision = precision;
      field_id = None;
      logical = logical;
    }

abbrev group_fields : ℤ → List ℕ → ℤ → Option ℤ → Option Fields → Fields
group_fields repetition name children converted logical =
    at 3 (int32 repetition) (at 4 (binary name) (at 5 (int32 children) (at_some 6 (option_map int32 converted) (at_some 10 (option_map struct logical) no_fields))))

abbrev group_raw : ℤ → List ℕ → ℤ → Option ℤ → Option Fields → RawElement
group_raw repetition name children converted logical =
    record {
      type = None;
      type_length = None;
      repetition = Some repetition;
      name = name;
      num_children = Some children;
      converted = converted;
      scale = None;
      precision = None;
      field_id = None;
      logical = logical;
    }

leaf_has : (t : ℤ) (n : Option ℤ) (r : ℤ) (name : List ℕ) (c s p : Option ℤ) (l : Option Fields) → IsUtf8 name → HasElement (leaf_fields t n r name c s p l) (leaf_raw t n r name c s p l)
leaf_has t None r name None None None None u = record { type = refl; type_length = refl; repetition = refl; name = refl; text = u; num_children = refl; converted = refl; scale = refl; precision = refl; field_id = refl; logical = refl }
leaf_has t None r name None None None (Some l) u = record { type = refl; type_length = refl; repetition = refl; name = refl; text = u; num_children = refl; converted = refl; scale = refl; precision = refl; field_id = refl; logical = refl }
leaf_has t None r name None None (Some p) None u = record { type = refl; type_length = refl; repetition = refl; name = refl; text = u; num_children = refl; converted = refl; scale = refl; precision = refl; field_id = refl; logical = refl }
leaf_has t None r name None None (Some p) (Some l) u = record { type = refl; type_length = refl; repetition = refl; name = refl; text = u; num_children = refl; converted = refl; scale = refl; precision = refl; field_id = refl; logical = refl }
leaf_has t None r name None (Some s) None None u = record { type = refl; type_length = refl; repetition = refl; name = refl; text = u; num_children = refl; converted = refl; scale = refl; precision = refl; field_id = refl; logical = refl }
leaf_has t None r name None (Some s) None (Some l) u = record { type = refl; type_length = refl; repetition = refl; name = refl; text = u; num_children = refl; converted = refl; scale = refl; precision = refl; field_id = refl; logical = refl }
leaf_has t None r name None (Some s) (Some p) None u = record { type = refl; type_length = refl; repetition = refl; name = refl; text = u; num_children = refl; converted = refl; scale = refl; precision = refl; field_id = refl; logical = refl }
leaf_has t None r name None (Some s) (Some p) (Some l) u = record { type = refl; type_length = refl; repetition = refl; name = refl; text = u; num_children = refl; converted = refl; scale = refl; precision = refl; field_id = refl; logical = refl }
leaf_has t None r name (Some c) None None None u = record { type = refl; type_length = refl; repetition = refl; name = refl; text = u; num_children = refl; converted = refl; scale = refl; precision = refl; field_id = refl; logical = refl }
leaf_has t None r name (Some c) None None (Some l) u = record { type = refl; type_length = refl; repetition = refl; name = refl; text = u; num_children = refl; converted = refl; scale = refl; precision = refl; field_id = refl; logical = refl }
leaf_has t None r name (Some c) None (Some p) None u = record { type = refl; type_length = refl; repetition = refl; name = refl; text = u; num_children = refl; converted = refl; scale = refl; precision = refl; field_id = refl; logical = refl }
leaf_has t None r name (Some c) None (Some p) (Some l) u = record { type = refl; type_length = refl; repetition = refl; name = refl; text = u; num_children = refl; converted = refl; scale = refl; precision = refl; field_id = refl; logical = refl }
leaf_has t None r name (Some c) (Some s) None None u = record { type = refl; type_length = refl; repetition = refl; name = refl; text = u; num_children = refl; converted = refl; scale = refl; precision = refl; field_id = refl; logical = refl }
leaf_has t None r name (Some c) (Some s) None (Some l) u = record { type = refl; type_length = refl; repetition = refl; name = refl; text = u; num_children = refl; converted = refl; scale = refl; precision = refl; field_id = refl; logical = refl }
leaf_has t None r name (Some c) (Some s) (Some p) None u = record { type = refl; type_length = refl; repetition = refl; name = refl; text = u; num_children = refl; converted = refl; scale = refl; precision = refl; field_id = refl; logical = refl }
leaf_has t None r name (Some c) (Some s) (Some p) (Some l) u = record { type = refl; type_length = refl; repetition = refl; name = refl; text = u; num_children = refl; converted = refl; scale = refl; precision = refl; field_id = refl; logical = refl }
leaf_has t (Some n) r name None None None None u = record { type = refl; type_length = refl; repetition = refl; name = refl; text = u; num_children = refl; converted = refl; scale = refl; precision = refl; field_id = refl; logical = refl }
leaf_has t (Some n) r name None None None (Some l) u = record { type = refl; type_length = refl; repetition = refl; name = refl; text = u; num_children = refl; converted = refl; scale = refl; precision = refl; field_id = refl; logical = refl }
leaf_has t (Some n) r name None None (Some p) None u = record { type = refl; type_length = refl; repetition = refl; name = refl; text = u; num_children = refl; converted = refl; scale = refl; precision = refl; field_id = refl; logical = refl }
leaf_has t (Some n) r name None None (Some p) (Some l) u = record { type = refl; type_length = refl; repetition = refl; name = refl; text = u; num_children = refl; converted = refl; scale = refl; precision = refl; field_id = refl; logical = refl }
leaf_has t (Some n) r name None (Some s) None None u = record { type = refl; type_length = refl; repetition = refl; name = refl; text = u; num_children = refl; converted = refl; scale = refl; precision = refl; field_id = refl; logical = refl }
leaf_has t (Some n) r name None (Some s) None (Some l) u = record { type = refl; type_length = refl; repetition = refl; name = refl; text = u; num_children = refl; converted = refl; scale = refl; precision = refl; field_id = refl; logical = refl }
leaf_has t (Some n) r name None (Some s) (Some p) None u = record { type = refl; type_length = refl; repetition = refl; name = refl; text = u; num_children = refl; converted = refl; scale = refl; precision = refl; field_id = refl; logical = refl }
leaf_has t (Some n) r name None (Some s) (Some p) (Some l) u = record { type = refl; type_length = refl; repetition = refl; name = refl; text = u; num_children = refl; converted = refl; scale = refl; precision = refl; field_id = refl; logical = refl }
leaf_has t (Some n) r name (Some c) None None None u = record { type = refl; type_length = refl; repetition = refl; name = refl; text = u; num_children = refl; converted = refl; scale = refl; precision = refl; field_id = refl; logical = refl }
leaf_has t (Some n) r name (Some c) None None (Some l) u = record { type = refl; type_length = refl; repetition = refl; name = refl; text = u; num_children = refl; converted = refl; scale = refl; precision = refl; field_id = refl; logical = refl }
leaf_has t (Some n) r name (Some c) None (Some p) None u = record { type = refl; type_length = refl; repetition = refl; name = refl; text = u; num_children = refl; converted = refl; scale = refl; precision = refl; field_id = refl; logical = refl }
leaf_has t (Some n) r name (Some c) None (Some p) (Some l) u = record { type = refl; type_length = refl; repetition = refl; name = refl; text = u; num_children = refl; converted = refl; scale = refl; precision = refl; field_id = refl; logical = refl }
leaf_has t (Some n) r name (Some c) (Some s) None None u = record { type = refl; type_length = refl; repetition = refl; name = refl; text = u; num_children = refl; converted = refl; scale = refl; precision = refl; field_id = refl; logical = refl }
leaf_has t (Some n) r name (Some c) (Some s) None (Some l) u = record { type = refl; type_length = refl; repetition = refl; name = refl; text = u; num_children = refl; converted = refl; scale = refl; precision = refl; field_id = refl; logical = refl }
leaf_has t (Some n) r name (Some c) (Some s) (Some p) None u = record { type = refl; type_length = refl; repetition = refl; name = refl; text = u; num_children = refl; converted = refl; scale = refl; precision = refl; field_id = refl; logical = refl }
leaf_has t (Some n) r name (Some c) (Some s) (Some p) (Some l) u = record { type = refl; type_length = refl; repetition = refl; name = refl; text = u; num_children = refl; converted = refl; scale = refl; precision = refl; field_id = refl; logical = refl }

group_has : (r : ℤ) (name : List ℕ) (n : ℤ) (c : Option ℤ) (l : Option Fields) → IsUtf8 name → HasElement (group_fields r name n c l) (group_raw r name n c l)
group_has r name n None None u = record { type = refl; type_length = refl; repetition = refl; name = refl; text = u; num_children = refl; converted = refl; scale = refl; precision = refl; field_id = refl; logical = refl }
group_has r name n None (Some l) u = record { type = refl; type_length = refl; repetition = refl; name = refl; text = u; num_children = refl; converted = refl; scale = refl; precision = refl; field_id = refl; logical = refl }
group_has r name n (Some c) None u = record { type = refl; type_length = refl; repetition = refl; name = refl; text = u; num_children = refl; converted = refl; scale = refl; precision = refl; field_id = refl; logical = refl }
group_has r name n (Some c) (Some l) u = record { type = refl; type_length = refl; repetition = refl; name = refl; text = u; num_children = refl; converted = refl; scale = refl; precision = refl; field_id = refl; logical = refl }

-- ---- what the numbers stand for

abbrev pub size_in : Physical → Option ℤ
size_in (Physical.fixed n) = Some (pos n)
size_in p = None

size_is : (p : Physical) → length_of p ≡ option_map int32 (size_in p)
size_is (Physical.fixed n) = refl
size_is p = refl

physical_is : (p : Physical) → HasLength p → IsPhysical (Some (pos (number_of_physical p))) (size_in p) (Some p)
physical_is (Physical.fixed n) h = (refl, h, refl)
physical_is p h = refl

abbrev pub scale_in : Option Converted → Option ℤ
scale_in (Some (Converted.decimal p s)) = Some (pos s)
scale_in c = None

abbrev pub precision_in : Option Converted → Option ℤ
precision_in (Some (Converted.decimal p s)) = Some (pos p)
precision_in c = None

abbrev pub scale_number : Option Converted → ℕ
scale_number (Some (Converted.decimal p s)) = s
scale_number c = 0

abbrev pub precision_number : Option Converted → ℕ
precision_number (Some (Converted.decimal p s)) = p
precision_number c = 0

scale_is : (c : Option Converted) → scale_of c ≡ option_map int32 (scale_in c)
scale_is (Some (Converted.decimal p s)) = refl
scale_is c = refl

precision_is : (c : Option Converted) → precision_of c ≡ option_map int32 (precision_in c)
precision_is (Some (Converted.decimal p s)) = refl
precision_is c = refl

open_natural : (c : Option Converted) → IsNatural (scale_in c) (scale_number c) × IsNatural (precision_in c) (precision_number c)
open_natural (Some (Converted.decimal p s)) = (refl, refl)
open_natural c = (refl, refl)

abbrev pub converted_in : Option Converted → Option ℤ
converted_in c = option_map (λ x. pos (number_of_converted x)) c

converted_is : (c : Option Converted) → option_map (λ x. i32 (number_of_converted x)) c ≡ option_map int32 (converted_in c)
converted_is None = refl
converted_is (Some c) = refl

abbrev pub fields_in : Value → Fields
fields_in (struct fs) = fs
fields_in v = no_fields

abbrev pub logical_in : Option Logical → Option Fields
logical_in l = option_map (λ x. fields_in (logical_value x)) l

is_struct : (x : Logical) → logical_value x ≡ struct (fields_in (logical_value x))
is_struct Logical.string = refl
is_struct Logical.map = refl
is_struct Logical.list = refl
is_struct Logical.enum = refl
is_struct (Logical.decimal p s) = refl
is_struct Logical.date = refl
is_struct (Logical.time b u) = refl
is_struct (Logical.timestamp b u) = refl
is_struct (Logical.integer n b) = refl
is_struct Logical.unknown = refl
is_struct Logical.json = refl
is_struct Logical.bson = refl
is_struct Logical.uuid = refl

logical_is : (l : Option Logical) → option_map logical_value l ≡ option_map struct (logical_in l)
logical_is None = refl
logical_is (Some x) = ap Some (is_struct x)

-- ---- what can be read again

abbrev pub KnownConverted : Option Converted → Type 0
KnownConverted c = c ≡ converted_of (converted_in c) (precision_number c) (scale_number c)

abbrev pub KnownLogical : Option Logical → Type 0
KnownLogical l = logical_of (logical_in l) ≡ Some l

known_converted : (c : Option ConvertedType) → KnownConverted (option_map converted_view c)
known_converted None = refl
known_converted (Some C.Utf8) = refl
known_converted (Some C.Map) = refl
known_converted (Some C.MapKeyValue) = refl
known_converted (Some C.List) = refl
known_converted (Some C.Enum) = refl
known_converted (Some (C.Decimal p s)) = refl
known_converted (Some C.Date) = refl
known_converted (Some C.TimeMillis) = refl
known_converted (Some C.TimeMicros) = refl
known_converted (Some C.TimestampMillis) = refl
known_converted (Some C.TimestampMicros) = refl
known_converted (Some C.Uint8) = refl
known_converted (Some C.Uint16) = refl
known_converted (Some C.Uint32) = refl
known_converted (Some C.Uint64) = refl
known_converted (Some C.Int8) = refl
known_converted (Some C.Int16) = refl
known_converted (Some C.Int32) = refl
known_converted (Some C.Int64) = refl
known_converted (Some C.Json) = refl
known_converted (Some C.Bson) = refl
known_converted (Some C.Interval) = refl

known_logical : (l : Option LogicalType) → KnownLogical (option_map logical_view l)
known_logical None = refl
known_logical (Some L.String) = refl
known_logical (Some L.Map) = refl
known_logical (Some L.List) = refl
known_logical (Some L.Enum) = refl
known_logical (Some (L.Decimal p s)) = refl
known_logical (Some L.Date) = refl
known_logical (Some (L.Time U.Milliseconds b)) = refl
known_logical (Some (L.Time U.Microseconds b)) = refl
known_logical (Some (L.Time U.Nanoseconds b)) = refl
known_logical (Some (L.Timestamp U.Milliseconds b)) = refl
known_logical (Some (L.Timestamp U.Microseconds b)) = refl
known_logical (Some (L.Timestamp U.Nanoseconds b)) = refl
known_logical (Some (L.Integer I.Int8)) = refl
known_logical (Some (L.Integer I.Int16)) = refl
known_logical (Some (L.Integer I.Int32)) = refl
known_logical (Some (L.Integer I.Int64)) = refl
known_logical (Some (L.Integer I.UInt8)) = refl
known_logical (Some (L.Integer I.UInt16)) = refl
known_logical (Some (L.Integer I.UInt32)) = refl
known_logical (Some (L.Integer I.UInt64)) = refl
known_logical (Some L.Unknown) = refl
known_logical (Some L.Json) = refl
known_logical (Some L.Bson) = refl
known_logical (Some L.Uuid) = refl

pub record KnownInfo (i : Info) : Type 0 where
  pub text : IsUtf8 i.name
  pub converted : KnownConverted i.converted
  pub logical : KnownLogical i.logical

known_info : (f : FieldInfo) (c : Option ConvertedType) (l : Option LogicalType) → KnownInfo (info_view f c l)
known_info f c l = record { text = IsUtf8-string_bytes f.name; converted = known_converted c; logical = known_logical l }

leaf_says : (p : Physical) (i : Info) → KnownInfo i → HasLength p → SpellsNode (element_of (Some p) 0 i) (record { physical = Some p; children = 0; info = without_id i })
leaf_says p i k h =
    let same : element_of (Some p) 0 i ≡ struct (leaf_fields (pos (number_of_physical p)) (size_in p) (number_of_repetition i.repetition) i.name (converted_in i.converted) (scale_in i.converted) (precision_in i.converted) (logical_in i.logical)) =
    λ j.
    struct
    (at 1 (i32 (number_of_physical p))
    (at_some 2 (size_is p j)
    (at 3 (int32 (number_of_repetition i.repetition))
    (at 4 (binary i.name) (at_some 6 (converted_is i.converted j) (at_some 7 (scale_is i.converted j) (at_some 8 (precision_is i.converted j) (at_some 10 (logical_is i.logical j) no_fields)))))))) in
    subst (λ v. SpellsNode v (record { physical = Some p; children = 0; info = without_id i })) (sym same) (
      leaf_raw (pos (number_of_physical p)) (size_in p) (number_of_repetition i.repetition) i.name (converted_in i.converted) (scale_in i.converted) (precision_in i.converted) (logical_in i.logical),
      leaf_has (pos (number_of_physical p)) (size_in p) (number_of_repetition i.repetition) i.name (converted_in i.converted) (scale_in i.converted) (precision_in i.converted) (logical_in i.logical) k.text,
      record {
        physical = physical_is p h;
        children = refl;
        name = refl;
        repetition = refl;
        id = refl;
        precision = precision_number i.converted;
        scale = scale_number i.converted;
        has_precision = (open_natural i.converted).1;
        has_scale = (open_natural i.converted).0;
        converted = k.converted;
        logical = k.logical;
      },
    )

-- of a group no numbers are written
known_bare : (c : Option Converted) → KnownConverted c → without_numbers c ≡ converted_of (converted_in c) 0 0
known_bare None h = refl
known_bare (Some (Converted.decimal p s)) h = refl
known_bare (Some Converted.utf8) h = h
known_bare (Some Converted.map) h = h
known_bare (Some Converted.map_key_value) h = h
known_bare (Some Converted.list) h = h
known_bare (Some Converted.enum) h = h
known_bare (Some Converted.date) h = h
known_bare (Some Converted.time_millis) h = h
known_bare (Some Converted.time_micros) h = h
known_bare (Some Converted.timestamp_millis) h = h
known_bare (Some Converted.timestamp_micros) h = h
known_bare (Some (Converted.unsigned w)) h = h
known_bare (Some (Converted.signed w)) h = h
known_bare (Some Converted.json) h = h
known_bare (Some Converted.bson) h = h
known_bare (Some Converted.interval) h = h

group_says : (n : ℕ) (i : Info) → KnownInfo i → SpellsNode (element_of None n i) (record { physical = None; children = n; info = bare i })
group_says n i k =
    let same : element_of None n i ≡ struct (group_fields (number_of_repetition i.repetition) i.name (pos n) (converted_in i.converted) (logical_in i.logical)) =
    λ j. struct (at 3 (int32 (number_of_repetition i.repetition)) (at 4 (binary i.name) (at 5 (i32 n) (at_some 6 (converted_is i.converted j) (at_some 10 (logical_is i.logical j) no_fields))))) in
    subst (λ v. SpellsNode v (record { physical = None; children = n; info = bare i })) (sym same) (
      group_raw (number_of_repetition i.repetition) i.name (pos n) (converted_in i.converted) (logical_in i.logical),
      group_has (number_of_repetition i.repetition) i.name (pos n) (converted_in i.converted) (logical_in i.logical) k.text,
      record {
        physical = refl;
        children = refl;
        name = refl;
        repetition = refl;
        id = refl;
        precision = 0;
        scale = 0;
        has_precision = refl;
        has_scale = refl;
        converted = known_bare i.converted k.converted;
        logical = k.logical;
      },
    )

-- ---- trees

abbrev mutual
  pub KnownTree : Tree → Type 0
  KnownTree (leaf info p) = KnownInfo info
  KnownTree (group info ts) = KnownInfo info × KnownTrees ts

  pub KnownTrees : Trees → Type 0
  KnownTrees no_trees = Unit {0}
  KnownTrees (tree t ts) = KnownTree t × KnownTrees ts

all_known : (ts : List ParquetType) → All' (λ t. KnownTree (tree_view t)) ts → KnownTrees (trees_view ts)
all_known [] h = tt
all_known (t ∷ ts) h = (h.0, all_known ts h.1)

abbrev Known : Type 0
Known = (t : ParquetType) × KnownTree (tree_view t)

each_known : (es : List Known) → All' (λ t. KnownTree (tree_view t)) (map (λ e. e.0) es)
each_known [] = tt
each_known (e ∷ es) = (e.1, each_known es)

abbrev plain_trees : Vec Known Global → Vec ParquetType Global
plain_trees v = (former-ParquetType-GroupType-3).map Known ParquetType (λ e. e.0) v

tree_case : (y : ParquetType-F Known) → KnownTree (tree_view (roll-ParquetType (map-ParquetType Known ParquetType (λ e. e.0) y)))
tree_case (ParquetType-F.PrimitiveType p) = subst (λ t. KnownTree (tree_view t)) (sym (rolls-PrimitiveType p)) (subst KnownTree (sym (view_leaf p)) (known_info p.field_info p.converted_type p.logical_type))
tree_case (ParquetType-F.GroupType f l c ts) =
    subst (λ t. KnownTree (tree_view t)) (sym (rolls-GroupType f l c (plain_trees ts)))
    (subst KnownTree (sym (view_group f l c (plain_trees ts))) (known_info f c l, all_known (plain_trees ts).items (each_known ts.items)))

known_tree : (t : ParquetType) → KnownTree (tree_view t)
known_tree = ind-ParquetType (λ t. KnownTree (tree_view t)) (λ x y is. subst (λ z. KnownTree (tree_view (roll-ParquetType z))) is (tree_case y))

pub known_trees : (ts : List ParquetType) → KnownTrees (trees_view ts)
known_trees [] = tt
known_trees (t ∷ ts) = (known_tree t, known_trees ts)

pub same_count : (ts : Trees) → count_trees (trees_told ts) ≡ count_trees ts
same_count no_trees = refl
same_count (tree t ts) = ap suc (same_count ts)

each-append : (xs ys es fs : List Element) → Each SpellsNode (values_of (map element_value xs)) es → Each SpellsNode (values_of (map element_value ys)) fs → Each SpellsNode (values_of (map element_value (xs ++ ys))) (es ++ fs)
each-append [] ys [] fs h k = k
each-append [] ys (e ∷ es) fs h k = absurd h
each-append (x ∷ xs) ys [] fs h k = absurd h
each-append (x ∷ xs) ys (e ∷ es) fs h k = (h.0, each-append xs ys es fs h.1 k)

mutual
  tree_says : (t : Tree) → KnownTree t → TreeHasLengths t → Each SpellsNode (values_of (map element_value (preorder t))) (preorder (tree_told t))
  tree_says (leaf info p) k h = (leaf_says p info k h, tt)
  tree_says (group info ts) k h =
      (subst (λ n. SpellsNode (element_of None (count_trees ts) info) (record { physical = None; children = n; info = bare info })) (sym (same_count ts)) (group_says (count_trees ts) info k.0), trees_say ts k.1 h)

  pub trees_say : (ts : Trees) → KnownTrees ts → HasLengths ts → Each SpellsNode (values_of (map element_value (preorder_of ts))) (preorder_of (trees_told ts))
  trees_say no_trees k h = tt
  trees_say (tree t ts) k h = each-append (preorder t) (preorder_of ts) (preorder (tree_told t)) (preorder_of (trees_told ts)) (tree_says t k.0 h.0) (trees_say ts k.1 h.1)
