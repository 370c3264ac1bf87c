-- The types of a tree nest no deeper than the tree, repeated nodes counted twice.
use Rattle.std.proofs.Common.{◌≡◌, ◌≤◌, ℕ, suc, ◌+◌, ◌*◌, max, Bool, true, false, cond, ◌==◌, Option, Some, None, option_map, unwrap_or, List, [], ◌∷◌, refl, sym, subst, ◌∙◌, arith}
use Rattle.std.specs.Prelude.{IfSome, if◌then◌else◌}
use Rattle.std.specs.Option.{option_or, option_and_then}
use Rattle.columns_core.specs.Measures.{nesting, fields_nesting}
use Rattle.columns_core.specs.Tree.{TypeTree, t_list, t_map, t_struct, FieldTree, field}
use Rattle.columns_core.specs.View.{fields_of}
use Rattle.pq_tree.specs.Physical.{Physical, boolean, int32, int64, int96, float, double, byte_array, fixed}
use Rattle.pq_tree.specs.Tree as T
use Rattle.pq_tree.specs.Tree.{Tree, leaf, group, Trees, no_trees, tree, repeats}
use Rattle.pq_tree.specs.Types.{Info, TimeUnit, Repetition, required, optional, repeated, Logical, Converted}
use Rattle.pq_tree.specs.Types.TimeUnit.{millis, micros, nanos}
use Rattle.schema_from_tree.specs.declared.groups.Rule.{Rule}
use Rattle.schema_from_tree.specs.declared.groups.Rule.TheVariants.{ByList, ByMap, ByStruct}
use Rattle.schema_from_tree.specs.Depth.{depth, depth_of, NestAsTrees}
use Rattle.schema_from_tree.specs.FromTree.{rule_of, info_of, item_info, field_as, is_middle, struct_with, and_others, repeated_as, group_as, type_of, list_of, item_of, first_of, map_of, arrow_fields}
use Rattle.schema_from_tree.specs.Leaves.{leaf_type, first_of_rules, integer_of_32, time_of_32, logical_32, converted_32, integer_of_64, time_of_64, logical_64, converted_64, logical_bytes, converted_bytes, logical_fixed, converted_fixed, fixed_of}

-- nothing nests 0
abbrev nest : Option TypeTree → ℕ
nest None = 0
nest (Some t) = nesting t

-- ---- leaves nest 1

abbrev IsFlat : Option TypeTree → Type 0
IsFlat o = IfSome o (λ t. nesting t ≡ 1)

one_of : (b : Bool) (t u : TypeTree) → nesting t ≡ 1 → nesting u ≡ 1 → nesting (if b then t else u) ≡ 1
one_of true t u h k = h
one_of false t u h k = k

small_integer : (w : ℕ) (signed : Bool) → nesting (integer_of_32 w signed) ≡ 1
small_integer w true = one_of (w == 8) _ _ refl (one_of (w == 16) _ _ refl refl)
small_integer w false = one_of (w == 8) _ _ refl (one_of (w == 16) _ _ refl (one_of (w == 32) _ _ refl refl))

large_integer : (w : ℕ) (signed : Bool) → nesting (integer_of_64 w signed) ≡ 1
large_integer w true = refl
large_integer w false = one_of (w == 64) _ _ refl refl

small_time : (u : TimeUnit) → nesting (time_of_32 u) ≡ 1
small_time millis = refl
small_time micros = refl
small_time nanos = refl

large_time : (u : TimeUnit) → nesting (time_of_64 u) ≡ 1
large_time millis = refl
large_time micros = refl
large_time nanos = refl

by_logical_32 : (l : Logical) → IsFlat (logical_32 l)
by_logical_32 (Logical.integer w signed) = small_integer w signed
by_logical_32 (Logical.time adjusted unit) = small_time unit
by_logical_32 (Logical.decimal p s) = refl
by_logical_32 Logical.date = refl
by_logical_32 l = tt

by_converted_32 : (c : Converted) → IsFlat (converted_32 c)
by_converted_32 (Converted.unsigned w) = small_integer w false
by_converted_32 (Converted.signed w) = small_integer w true
by_converted_32 Converted.date = refl
by_converted_32 Converted.time_millis = refl
by_converted_32 (Converted.decimal p s) = refl
by_converted_32 c = tt

by_logical_64 : (l : Logical) → IsFlat (logical_64 l)
by_logical_64 (Logical.integer w signed) = large_integer w signed
by_logical_64 (Logical.timestamp adjusted unit) = refl
by_logical_64 (Logical.time adjusted unit) = large_time unit
by_logical_64 (Logical.decimal p s) = refl
by_logical_64 l = tt

by_converted_64 : (c : Converted) → IsFlat (converted_64 c)
by_converted_64 (Converted.unsigned w) = large_integer w false
by_converted_64 (Converted.signed w) = large_integer w true
by_converted_64 Converted.time_micros = refl
by_converted_64 Converted.timestamp_millis = refl
by_converted_64 Converted.timestamp_micros = refl
by_converted_64 (Converted.decimal p s) = refl
by_converted_64 c = tt

by_logical_bytes : (l : Logical) → IsFlat (logical_bytes l)
by_logical_bytes Logical.string = refl
by_logical_bytes Logical.json = refl
by_logical_bytes Logical.bson = refl
by_logical_bytes Logical.enum = refl
by_logical_bytes l = tt

by_converted_bytes : (c : Converted) → IsFlat (converted_bytes c)
by_converted_bytes Converted.json = refl
by_converted_bytes Converted.bson = refl
by_converted_bytes Converted.enum = refl
by_converted_bytes Converted.utf8 = refl
by_converted_bytes c = tt

by_logical_fixed : (l : Logical) → IsFlat (logical_fixed l)
by_logical_fixed (Logical.decimal p s) = refl
by_logical_fixed l = tt

by_converted_fixed : (c : Converted) → IsFlat (converted_fixed c)
by_converted_fixed (Converted.decimal p s) = refl
by_converted_fixed Converted.interval = refl
by_converted_fixed c = tt

by_fixed : (l : Option Logical) (c : Option Converted) → IsFlat (fixed_of l c)
by_fixed (Some l) c = by_logical_fixed l
by_fixed None (Some c) = by_converted_fixed c
by_fixed None None = tt

or_plain : (o : Option TypeTree) (t : TypeTree) → IsFlat o → nesting t ≡ 1 → nesting (unwrap_or o t) ≡ 1
or_plain None t h k = k
or_plain (Some u) t h k = h

by_rules : (f : Logical → Option TypeTree) (g : Converted → Option TypeTree) (t : TypeTree) (i : Info) → ((l : Logical) → IsFlat (f l)) → ((c : Converted) → IsFlat (g c)) → nesting t ≡ 1
    → nesting (first_of_rules f g t i) ≡ 1
by_rules f g t i h k p = or_plain _ t (either (option_and_then f i.logical) (option_and_then g i.converted) (bound i.logical) (other i.converted)) p
  where
    bound : (o : Option Logical) → IsFlat (option_and_then f o)
    bound None = tt
    bound (Some l) = h l

    other : (o : Option Converted) → IsFlat (option_and_then g o)
    other None = tt
    other (Some c) = k c

    either : (o u : Option TypeTree) → IsFlat o → IsFlat u → IsFlat (option_or o u)
    either None u a b = b
    either (Some v) u a b = a

leaf_flat : (i : Info) (p : Physical) → nesting (leaf_type i p) ≡ 1
leaf_flat i boolean = refl
leaf_flat i int32 = by_rules logical_32 converted_32 _ i by_logical_32 by_converted_32 refl
leaf_flat i int64 = by_rules logical_64 converted_64 _ i by_logical_64 by_converted_64 refl
leaf_flat i int96 = refl
leaf_flat i float = refl
leaf_flat i double = refl
leaf_flat i byte_array = by_rules logical_bytes converted_bytes _ i by_logical_bytes by_converted_bytes refl
leaf_flat i (fixed n) = or_plain (fixed_of i.logical i.converted) _ (by_fixed i.logical i.converted) refl

-- ---- groups

leaf_deep : (r : Repetition) (i : Info) (t : TypeTree) → nesting t ≡ 1 → nesting (repeated_as r i t) ≤ repeats r + 1
leaf_deep required i t h = omega (arith, h)
leaf_deep optional i t h = omega (arith, h)
leaf_deep repeated i t h = omega (arith, h)

list_deep : (i : Info) (o : Option TypeTree) (d : ℕ) → nest o ≤ d → nest (option_map (λ t. t_list (field_as i t)) o) ≤ d + 1
list_deep i None d h = omega arith
list_deep i (Some t) d h = omega (arith, h)

map_deep : (i : Info) (o : Option TypeTree) (d : ℕ) → nest o ≤ d → nest (option_map (λ t. t_map (field_as i t) false) o) ≤ d + 1
map_deep i None d h = omega arith
map_deep i (Some t) d h = omega (arith, h)

group_deep : (r : Repetition) (rule : Rule) (i : Info) (l m s : Option TypeTree) (d : ℕ) → nest l ≤ d + 1 → nest m ≤ d + 1 → nest s ≤ d + 1 → nest (group_as r rule i l m s) ≤ repeats r + (d + 1)
group_deep repeated rule i l m s d a b c = omega (arith, list_deep i s (d + 1) c)
group_deep required ByList i l m s d a b c = omega (arith, a)
group_deep required ByMap i l m s d a b c = omega (arith, b)
group_deep required ByStruct i l m s d a b c = omega (arith, c)
group_deep optional ByList i l m s d a b c = omega (arith, a)
group_deep optional ByMap i l m s d a b c = omega (arith, b)
group_deep optional ByStruct i l m s d a b c = omega (arith, c)

struct_deep : (fs : List FieldTree) (d : ℕ) → fields_nesting (fields_of fs) ≤ d → nest (struct_with fs) ≤ d + 1
struct_deep [] d h = omega arith
struct_deep (f ∷ fs) d h = omega (arith, h)

one_more : (i : Info) (o : Option TypeTree) (fs : List FieldTree) (d e : ℕ) → nest o ≤ d → fields_nesting (fields_of fs) ≤ e → fields_nesting (fields_of (and_others (option_map (field_as i) o) fs)) ≤ max d e
one_more i None fs d e h k = omega (arith, k)
one_more i (Some t) fs d e h k = omega (arith, h, k)

either_deep : (b : Bool) (o u : Option TypeTree) (d : ℕ) → nest o ≤ d → nest u ≤ d + 1 → nest (if b then o else u) ≤ d + 1
either_deep true o u d h k = omega (arith, h)
either_deep false o u d h k = k

mutual
  type_deep : (t : Tree) → nest (type_of t) ≤ depth t
  type_deep (leaf i p) = leaf_deep i.repetition i (leaf_type i p) (leaf_flat i p)
  type_deep (group i ts) =
      group_deep i.repetition (rule_of i.logical i.converted) i (list_of i.name ts) (map_of ts) (struct_with (arrow_fields ts)) (depth_of ts) (listed_deep i.name ts) (mapped_deep ts)
      (struct_deep (arrow_fields ts) (depth_of ts) (fields_deep ts))

  listed_deep : (parent : List ℕ) (ts : Trees) → nest (list_of parent ts) ≤ depth_of ts + 1
  listed_deep parent no_trees = omega arith
  listed_deep parent (tree t ts) = omega (arith, list_deep (item_info t) (item_of parent t) (depth t) (item_deep parent t))

  item_deep : (parent : List ℕ) (t : Tree) → nest (item_of parent t) ≤ depth t
  item_deep parent (leaf i p) = omega (arith, leaf_flat i p)
  item_deep parent (group i ts) =
      omega (arith, either_deep (is_middle parent i ts) (first_of ts) (struct_with (arrow_fields ts)) (depth_of ts) (first_deep ts) (struct_deep (arrow_fields ts) (depth_of ts) (fields_deep ts)))

  first_deep : (ts : Trees) → nest (first_of ts) ≤ depth_of ts
  first_deep no_trees = omega arith
  first_deep (tree t ts) = omega (arith, type_deep t)

  mapped_deep : (ts : Trees) → nest (map_of ts) ≤ depth_of ts + 1
  mapped_deep no_trees = omega arith
  mapped_deep (tree t ts) = omega (arith, map_deep (info_of t) (type_of t) (depth t) (type_deep t))

  pub fields_deep : (ts : Trees) → fields_nesting (fields_of (arrow_fields ts)) ≤ depth_of ts
  fields_deep no_trees = omega arith
  fields_deep (tree t ts) = one_more (info_of t) (type_of t) (arrow_fields ts) (depth t) (depth_of ts) (type_deep t) (fields_deep ts)

once : (r : Repetition) (d n : ℕ) → d ≤ 2 * n → repeats r + (d + 1) ≤ 2 * suc n
once required d n h = omega (arith, h)
once optional d n h = omega (arith, h)
once repeated d n h = omega (arith, h)

mutual
  twice : (t : Tree) → depth t ≤ 2 * T.nesting t
  twice (leaf i p) = once i.repetition 0 0 (omega arith)
  twice (group i ts) = once i.repetition (depth_of ts) (T.nesting_of ts) (twice_of ts)

  twice_of : (ts : Trees) → depth_of ts ≤ 2 * T.nesting_of ts
  twice_of no_trees = omega arith
  twice_of (tree t ts) = omega (arith, twice t, twice_of ts)

pub nest_as_trees : NestAsTrees
nest_as_trees = record { type = λ t. of (type_of t) (depth t) (type_deep t); fields = fields_deep; twice = twice_of }
  where
    of : (o : Option TypeTree) (d : ℕ) → nest o ≤ d → IfSome o (λ u. nesting u ≤ d)
    of None d h = tt
    of (Some u) d h = h
