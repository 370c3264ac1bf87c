-- The nodes that the types of arrays are written as, where all of a type is served.
use Rattle.std.proofs.Common.{◌≡◌, ◌<◌, ◌≤◌, ◌+◌, ◌-◌, ◌*◌, ◌^◌, ℕ, zero, suc, cond, Bool, true, false, true≢false, Option, None, Some, List, map, refl, sym, ap, ◌∙◌, arith, eq-eqb}
use Rattle.std.proofs.lemmas.Bool.{and_parts, and_from, le-leb}
use Rattle.columns_core.specs.Shapes.{base}
use Rattle.columns_core.specs.Tree.{TypeTree, t_null, t_list, t_fixed_size_list, t_large_list, t_struct, t_union, t_map, t_dictionary, t_extension, t_boolean, t_int8, t_int16, t_int32, t_int64, t_uint8, t_uint16, t_uint32, t_uint64, t_date32, t_date64, t_utf8, t_large_utf8, t_binary, t_large_binary, t_duration, FieldTree, field, FieldTrees, no_fields, more_fields, t_time32, t_time64, t_timestamp, t_decimal, t_fixed_size_binary, t_interval}
use Rattle.columns_core.specs.declared.types.IntervalUnit.TheVariants.{YearMonth, DayTime}
use Rattle.columns_core.specs.declared.types.TimeUnit.TheVariants.{Second, Millisecond, Microsecond, Nanosecond}
use Rattle.columns_slots.specs.Slots.{AreTyped, count_arrays}
use Rattle.columns_slots.specs.Tree.{ArrayTrees, no_arrays, more_arrays}
use Rattle.columns_slots.specs.Types.{is_leaf, is_null_type, list_item, fixed_item, entry_type, part_types}
use Rattle.nested_paths.specs.Nodes.{item_node, field_nodes, is_leaf_node, is_optional}
use Rattle.pq_headline.specs.Columns.{beneath_list, type_columns, columns_from, small_limit, large_limit}
use Rattle.pq_headline.specs.Served.{is_served_type, is_served_field, are_served_fields}
use Rattle.pq_tree.specs.Physical.{Physical, int32, int64, fixed}
use Rattle.pq_tree.specs.Tree.{Tree, leaf, group}
use Rattle.pq_tree.specs.Types.{Info, repeated, Converted, Logical}
use Rattle.schema_to_tree.specs.Length.{decimal_length, first_length}
use Rattle.schema_to_tree.specs.Table.{marked, named, one, over, repetition_of, stored_as, trees_of}
use Rattle.std.specs.Prelude.{codes, leb}
use Rattle.typed_arrays.specs.Typed.{node}
use Rattle.typed_groups.proofs.Places.{is_placed, is_placed_field, are_placed}
use Rattle.write_pages.specs.Fits.{is_written_in}
use Rattle.write_values.specs.Served.{is_served}

-- ---- what is not served

pub fixed_unserved : (t u : TypeTree) → fixed_item (base t) ≡ Some u → is_served_type t ≡ true → ⊥
fixed_unserved (t_extension n t m) u e s = fixed_unserved t u e s
fixed_unserved (t_fixed_size_list f n) u e s = true≢false (sym s)
fixed_unserved t u e s = absurd cc

pub keys_unserved : (t u : TypeTree) → entry_type (base t) ≡ Some u → is_served_type t ≡ true → ⊥
keys_unserved (t_extension n t m) u e s = keys_unserved t u e s
keys_unserved (t_dictionary k t z) u e s = true≢false (sym s)
keys_unserved t u e s = absurd cc

-- ---- what is in its place is served

mutual
  pub placed_served : (flat b : Bool) (t : TypeTree) → is_placed flat b t ≡ true → is_served_type t ≡ true
  placed_served flat b (t_list f) p = field_served f p
  placed_served flat b (t_large_list f) p = field_served f p
  placed_served flat b (t_fixed_size_list f n) p = absurd (true≢false (sym p))
  placed_served flat b (t_map f z) p = field_served f p
  placed_served flat b (t_struct fs) p = all_served fs p
  placed_served flat b (t_union fs ids z) p = absurd (true≢false (sym p))
  placed_served flat b (t_dictionary k t z) p = absurd (true≢false (sym p))
  placed_served flat b (t_extension n t m) p = placed_served flat b t p
  placed_served flat b t p = refl

  field_served : (f : FieldTree) → is_placed_field f ≡ true → is_served_field f ≡ true
  field_served (field n t b m) p = placed_served false b t p

  pub all_served : (fs : FieldTrees) → are_placed fs ≡ true → are_served_fields fs ≡ true
  all_served no_fields p = refl
  all_served (more_fields f fs) p =
      let ps = and_parts (is_placed_field f) (are_placed fs) p in
      and_from (is_served_field f) (are_served_fields fs) (field_served f ps.0) (all_served fs ps.1)

-- nulls alone may be null
pub placed_nullable : (flat b : Bool) (t : TypeTree) → is_null_type (base t) ≡ true → is_placed flat b t ≡ true → b ≡ true
placed_nullable flat b (t_extension n t m) e p = placed_nullable flat b t e p
placed_nullable flat b t_null e p = p
placed_nullable flat b t e p = absurd (true≢false (sym e))

-- ---- a leaf

-- a type whose arrays are leaves, of values or of nulls alone
abbrev pub has_leaves : TypeTree → Bool
has_leaves t_null = true
has_leaves t = is_leaf t

pub values_leaves : (t : TypeTree) → is_leaf t ≡ true → has_leaves t ≡ true
values_leaves t_null e = refl
values_leaves t e = e

pub nulls_leaves : (t : TypeTree) → is_null_type t ≡ true → has_leaves t ≡ true
nulls_leaves t_null e = refl
nulls_leaves t e = absurd (true≢false (sym e))

-- decimals are stored in 1 to 16 bytes, or as numbers
length_within : (p k n : ℕ) → (n ≤ first_length p k n) × (first_length p k n ≤ n + k)
unfolding first_length
length_within p zero n = (omega arith, omega arith)
length_within p (suc k) n = by (leb (10 ^ p + 1) (2 ^ (8 * n - 1))) (length_within p k (suc n))
  where
    by : (b : Bool) → (suc n ≤ first_length p k (suc n)) × (first_length p k (suc n) ≤ suc n + k) → (n ≤ cond b n (first_length p k (suc n))) × (cond b n (first_length p k (suc n)) ≤ n + suc k)
    by true h = (omega arith, omega arith)
    by false h = (omega (arith, h.0), omega (arith, h.1))

decimal_within : (p : ℕ) → (1 ≤ decimal_length p) × (decimal_length p ≤ 16)
unfolding decimal_length
decimal_within p = length_within p 15 1

decimal_served : (small middle : Bool) (p q n : ℕ) → 1 ≤ n → n ≤ 16 → is_served (t_decimal p q) (cond small int32 (cond middle int64 (fixed n))) ≡ true
decimal_served true middle p q n least most = refl
decimal_served false true p q n least most = refl
decimal_served false false p q n least most = and_from _ _ (le-leb 1 n least) (le-leb n 16 most)

-- what a type that is written is stored as, is served
stored_served : (flat : Bool) (t : TypeTree) → is_written_in flat t ≡ true → is_served t (stored_as t).physical ≡ true
stored_served flat t_null w = refl
stored_served flat t_boolean w = refl
stored_served flat t_int8 w = refl
stored_served flat t_int16 w = refl
stored_served flat t_int32 w = refl
stored_served flat t_int64 w = refl
stored_served flat t_uint8 w = refl
stored_served flat t_uint16 w = refl
stored_served flat t_uint32 w = refl
stored_served flat t_uint64 w = refl
stored_served flat t_date32 w = refl
stored_served flat t_date64 w = refl
stored_served flat t_utf8 w = refl
stored_served flat t_large_utf8 w = refl
stored_served flat t_binary w = refl
stored_served flat t_large_binary w = refl
stored_served flat (t_duration u) w = refl
stored_served flat (t_time32 Second) w = refl
stored_served flat (t_time32 Millisecond) w = refl
stored_served flat (t_time64 Microsecond) w = refl
stored_served flat (t_time64 Nanosecond) w = refl
stored_served flat (t_timestamp Second z) w = refl
stored_served flat (t_timestamp Millisecond z) w = refl
stored_served flat (t_timestamp Microsecond z) w = refl
stored_served flat (t_timestamp Nanosecond z) w = refl
stored_served flat (t_decimal p q) w = let h = decimal_within p in decimal_served (leb p 9) (leb p 18) p q (decimal_length p) h.0 h.1
stored_served flat (t_fixed_size_binary n) w = eq-eqb n n refl
stored_served flat (t_interval YearMonth) w = refl
stored_served flat (t_interval DayTime) w = refl
stored_served true t w = absurd (true≢false (sym w))
stored_served false t w = absurd (true≢false (sym w))

pub record LeafNode (flat : Bool) (name : List ℕ) (b : Bool) (t : TypeTree) : Type 0 where
  pub info : Info
  pub physical : Physical
  pub is : node name b t ≡ leaf info physical
  pub own : physical ≡ (stored_as (base t)).physical
  pub written : is_written_in flat (base t) ≡ true
  pub served : is_served (base t) physical ≡ true

pub leaf_is : (flat : Bool) (name : List ℕ) (b : Bool) (t : TypeTree) → has_leaves (base t) ≡ true → is_placed flat b t ≡ true → LeafNode flat name b t
leaf_is flat name b (t_extension n t m) e s =
    let r = leaf_is flat name b t e s in record { info = r.info; physical = r.physical; is = r.is; own = r.own; written = r.written; served = r.served }
leaf_is flat name b (t_list f) e s = absurd (true≢false (sym e))
leaf_is flat name b (t_large_list f) e s = absurd (true≢false (sym e))
leaf_is flat name b (t_fixed_size_list f n) e s = absurd (true≢false (sym e))
leaf_is flat name b (t_map f z) e s = absurd (true≢false (sym e))
leaf_is flat name b (t_struct fs) e s = absurd (true≢false (sym e))
leaf_is flat name b (t_union fs ids z) e s = absurd (true≢false (sym e))
leaf_is flat name b (t_dictionary k t z) e s = absurd (true≢false (sym e))
leaf_is flat name b t_null e s = record {
  info = marked (named name (repetition_of b)) (stored_as t_null).converted (stored_as t_null).logical;
  physical = (stored_as t_null).physical;
  is = refl;
  own = refl;
  written = refl;
  served = refl;
}
leaf_is flat name b t e s = record {
  info = marked (named name (repetition_of b)) (stored_as t).converted (stored_as t).logical;
  physical = (stored_as t).physical;
  is = refl;
  own = refl;
  written = s;
  served = stored_served flat t s;
}

pub nulls_optional : (name : List ℕ) (t : TypeTree) → is_null_type (base t) ≡ true → is_optional (node name true t) ≡ true
nulls_optional name (t_extension n t m) e = nulls_optional name t e
nulls_optional name t_null e = refl
nulls_optional name t e = absurd (true≢false (sym e))

-- ---- the item of a list or a map

pub record ListNode (name : List ℕ) (b : Bool) (t u : TypeTree) : Type 0 where
  pub top : Info
  pub middle : Info
  pub item_name : List ℕ
  pub is_nullable : Bool
  pub is : node name b t ≡ group top (one (group middle (one (node item_name is_nullable u))))
  pub item : item_node (node name b t) ≡ Some (node item_name is_nullable u)
  pub limit : ℕ
  pub columns : type_columns b t ≡ map (beneath_list b limit) (type_columns is_nullable u)
  pub placed : (flat : Bool) → is_placed flat b t ≡ true → is_placed false is_nullable u ≡ true

inside : Option TypeTree → TypeTree → TypeTree
inside (Some t) d = t
inside None d = d

same_in : (t u : TypeTree) → ◌≡◌ {A = Option TypeTree} (Some t) (Some u) → t ≡ u
unfolding inside
same_in t u e = ap (λ (o : Option TypeTree). inside o t) e

item_of : (name : List ℕ) (b : Bool) (t : Tree) (c : Converted) (l : Logical) (middle : List ℕ) → item_node (over (named name (repetition_of b)) c l middle t) ≡ Some t
item_of name true t c l middle = refl
item_of name false t c l middle = refl

list_over_is : (name : List ℕ) (b : Bool) (c : Converted) (l : Logical) (middle : List ℕ) (n : List ℕ) (k : Bool) (t u : TypeTree) (whole : TypeTree) (limit : ℕ)
    → node name b whole ≡ over (named name (repetition_of b)) c l middle (node n k t) → type_columns b whole ≡ map (beneath_list b limit) (type_columns k t) → ((flat : Bool) → is_placed flat b whole ≡ true → is_placed false k t ≡ true) → t ≡ u → ListNode name b whole u
list_over_is name b c l middle n k t u whole limit e columns placed same = record {
  top = marked (named name (repetition_of b)) (Some c) (Some l);
  middle = named middle repeated;
  item_name = n;
  is_nullable = k;
  is = e ∙ ap (λ (x : TypeTree). over (named name (repetition_of b)) c l middle (node n k x)) same;
  item = ap item_node e ∙ (item_of name b (node n k t) c l middle ∙ ap (λ (x : TypeTree). Some (node n k x)) same);
  limit = limit;
  columns = columns ∙ ap (λ (x : TypeTree). map (beneath_list b limit) (type_columns k x)) same;
  placed = λ flat s. ap (is_placed false k) (sym same) ∙ placed flat s;
}

pub list_is : (name : List ℕ) (b : Bool) (t u : TypeTree) → list_item (base t) ≡ Some u → ListNode name b t u
list_is name b (t_extension n t m) u e = let r = list_is name b t u e in record { top = r.top; middle = r.middle; item_name = r.item_name; is_nullable = r.is_nullable; is = r.is; item = r.item; limit = r.limit; columns = r.columns; placed = r.placed }
list_is name b (t_list (field n t k m)) u e = list_over_is name b Converted.list Logical.list (codes "list") n k t u (t_list (field n t k m)) small_limit refl refl (λ flat s. s) (same_in t u e)
list_is name b (t_large_list (field n t k m)) u e = list_over_is name b Converted.list Logical.list (codes "list") n k t u (t_large_list (field n t k m)) large_limit refl refl (λ flat s. s) (same_in t u e)
list_is name b (t_map (field n t k m) z) u e = list_over_is name b Converted.map Logical.map (codes "map") n k t u (t_map (field n t k m) z) small_limit refl refl (λ flat s. s) (same_in t u e)
list_is name b t u e = absurd cc

-- what holds of the type of a list holds of its items
pub item_served : (t u : TypeTree) → list_item (base t) ≡ Some u → is_served_type t ≡ true → is_served_type u ≡ true
item_served (t_extension n t m) u e s = item_served t u e s
item_served (t_list (field n t k m)) u e s = ap is_served_type (sym (same_in t u e)) ∙ s
item_served (t_large_list (field n t k m)) u e s = ap is_served_type (sym (same_in t u e)) ∙ s
item_served (t_map (field n t k m) z) u e s = ap is_served_type (sym (same_in t u e)) ∙ s
item_served t u e s = absurd cc

-- ---- the fields of a struct

pub parts_served : (t : TypeTree) → is_served_type t ≡ true → are_served_fields (part_types (base t)) ≡ true
parts_served (t_extension n t m) s = parts_served t s
parts_served (t_struct fs) s = s
parts_served t s = refl

pub parts_placed : (flat b : Bool) (t : TypeTree) → is_placed flat b t ≡ true → are_placed (part_types (base t)) ≡ true
parts_placed flat b (t_extension n t m) s = parts_placed flat b t s
parts_placed flat b (t_struct fs) s = s
parts_placed flat b t s = refl

pub record StructNode (name : List ℕ) (b : Bool) (t : TypeTree) (fs : FieldTrees) : Type 0 where
  pub top : Info
  pub is : node name b t ≡ group top (trees_of fs)
  pub nodes : field_nodes (node name b t) ≡ Some (trees_of fs)
  pub columns : type_columns b t ≡ columns_from b 0 fs

nodes_of : (name : List ℕ) (b : Bool) (fs : FieldTrees) → field_nodes (node name b (t_struct fs)) ≡ Some (trees_of fs)
nodes_of name true fs = refl
nodes_of name false fs = refl

-- ---- a leaf is a node of its own

leaf_by : (name : List ℕ) (b : Bool) (t : TypeTree) → is_leaf_node (leaf (marked (named name (repetition_of b)) (stored_as t).converted (stored_as t).logical) (stored_as t).physical) ≡ true
leaf_by name true t = refl
leaf_by name false t = refl

pub leaf_node_is : (name : List ℕ) (b : Bool) (t : TypeTree) → has_leaves (base t) ≡ true → is_leaf_node (node name b t) ≡ true
leaf_node_is name b (t_extension n t m) e = leaf_node_is name b t e
leaf_node_is name b (t_list f) e = absurd (true≢false (sym e))
leaf_node_is name b (t_large_list f) e = absurd (true≢false (sym e))
leaf_node_is name b (t_fixed_size_list f n) e = absurd (true≢false (sym e))
leaf_node_is name b (t_map f z) e = absurd (true≢false (sym e))
leaf_node_is name b (t_struct fs) e = absurd (true≢false (sym e))
leaf_node_is name b (t_union fs ids z) e = absurd (true≢false (sym e))
leaf_node_is name b (t_dictionary k t z) e = absurd (true≢false (sym e))
leaf_node_is name b t e = leaf_by name b t

-- ---- a struct has fields

pub struct_is : (name : List ℕ) (b : Bool) (t : TypeTree) (cs : ArrayTrees) → 0 < count_arrays cs → AreTyped (part_types (base t)) cs → StructNode name b t (part_types (base t))
struct_is name b (t_extension n t m) cs some h = let r = struct_is name b t cs some h in record { top = r.top; is = r.is; nodes = r.nodes; columns = r.columns }
struct_is name b (t_struct fs) cs some h = record { top = marked (named name (repetition_of b)) None None; is = refl; nodes = nodes_of name b fs; columns = refl }
struct_is name b t no_arrays some h = absurd (omega (arith, some))
struct_is name b t (more_arrays c cs) some h = absurd h
