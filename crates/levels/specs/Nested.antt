-- A path of nested parts as the code has it, and the column that it stands for.
use Rattle.std.specs.Prelude.{ℕ, Bool, true, false, List, map}
use Rattle.shredding.specs.Slot.{Value, value}
use Rattle.shredding.specs.Shred.{Triple, column}
use Rattle.shredding.specs.Parts.{Part, leaf_part, list_part, struct_part, path_slots, path_way}
use Rattle.levels.specs.declared.nested.Nested.{Nested}
use Rattle.levels.specs.declared.nested.Nested.TheVariants.{Primitive, List as ListOf, LargeList, Struct}

abbrev pub part_of : Nested → Part
part_of (Primitive mask is_optional count) = leaf_part is_optional mask count
part_of (ListOf list) = list_part list.is_optional list.validity list.offsets
part_of (LargeList list) = list_part list.is_optional list.validity list.offsets
part_of (Struct mask is_optional count) = struct_part is_optional mask count

-- what a loop over the parts asks of each
abbrev pub is_leaf : Nested → Bool
is_leaf (Primitive mask is_optional count) = true
is_leaf _ = false

abbrev pub is_list : Nested → Bool
is_list (ListOf list) = true
is_list (LargeList list) = true
is_list _ = false

-- a list with offsets of 64 bits (Arrow columnar format, "Variable-size List Layout")
abbrev pub is_large : Nested → Bool
is_large (LargeList list) = true
is_large _ = false

abbrev pub is_nullable : Nested → Bool
is_nullable (Primitive mask is_optional count) = is_optional
is_nullable (ListOf list) = list.is_optional
is_nullable (LargeList list) = list.is_optional
is_nullable (Struct mask is_optional count) = is_optional

abbrev pub parts_of : List Nested → List Part
parts_of nested = map part_of nested

-- The column of the slots of a path over a leaf with these values (Dremel paper, section 4.2). Levels do not depend on the values.
abbrev pub nested_column : (ℕ → Value) → List Nested → List Triple
nested_column values nested = column (path_way (parts_of nested)) (path_slots (λ i. value (values i)) (parts_of nested))
