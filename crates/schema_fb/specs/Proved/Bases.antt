-- The type in the table of a field, without the field's extension and dictionary.
use Rattle.std.proofs.Common.{◌≡◌, ℕ, ◌≤◌, Bool, true, false, ◌&&◌, refl, arith}
use Rattle.columns_core.specs.Measures.{nesting}
use Rattle.columns_core.specs.Tree.{TypeTree, t_dictionary, t_extension}
use Rattle.schema_codec.specs.Ranges.{HasRanges}
use Rattle.schema_fb.specs.Tables.{type_cells, next_id, children, is_type}
use Rattle.schema_fb.specs.Tags.{tag_number}

abbrev pub base : TypeTree → TypeTree
base (t_dictionary key value sorted) = value
base (t_extension name inner metadata) = base inner
base t = t

-- the type without its extension
abbrev pub within : TypeTree → TypeTree
within (t_extension name inner metadata) = inner
within t = t

pub base_tag : (t : TypeTree) → tag_number (base t) ≡ tag_number t
base_tag (t_extension name inner metadata) = base_tag inner
base_tag _ = refl

pub base_cells : (t : TypeTree) → type_cells (base t) ≡ type_cells t
base_cells (t_extension name inner metadata) = base_cells inner
base_cells _ = refl

pub base_children : (id : ℕ) (t : TypeTree) → children (next_id id t) (base t) ≡ children (next_id id t) t
base_children id (t_extension name inner metadata) = base_children id inner
base_children id _ = refl

pub base_ranges : (t : TypeTree) → HasRanges t → HasRanges (base t)
base_ranges (t_extension name inner metadata) ranges = base_ranges inner ranges.1
base_ranges (t_dictionary key value sorted) ranges = ranges
base_ranges _ ranges = ranges

pub base_nesting : (t : TypeTree) → nesting (base t) ≤ nesting t
base_nesting (t_extension name inner metadata) = omega (arith, base_nesting inner)
base_nesting _ = omega arith

and_right : (a b : Bool) → (a && b) ≡ true → b ≡ true
and_right true b h = h
and_right false b h = absurd cc

and_left : (a b : Bool) → (a && b) ≡ true → a ≡ true
and_left true b h = refl
and_left false b h = absurd cc

pub both_hold : (a b : Bool) → (a && b) ≡ true → (a ≡ true) × (b ≡ true)
both_hold a b h = (and_left a b h, and_right a b h)

pub base_is : (t : TypeTree) (may_extend may_index : Bool) → is_type t may_extend may_index ≡ true → is_type (base t) false false ≡ true
base_is (t_extension name inner metadata) e i h = base_is inner false i (and_right e (is_type inner false i) h)
base_is (t_dictionary key value sorted) e i h = and_right i (is_type value false false) h
base_is _ e i h = h

pub nesting_filled : (t : TypeTree) → 1 ≤ nesting t
nesting_filled (t_extension name inner metadata) = omega arith
nesting_filled _ = omega arith
