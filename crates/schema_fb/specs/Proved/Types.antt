-- A type without an extension and a dictionary is read from its field's table and its own.
use Rattle.std.proofs.Common.{◌≡◌, ℕ, suc, ◌+◌, ◌≤◌, true, false, List, length, Option, refl, arith}
use Rattle.columns_core.specs.declared.types.IntegerType.TheVariants as keys
use Rattle.columns_core.specs.Measures.{nesting}
use Rattle.columns_core.specs.Tree.{TypeTree, t_null, t_boolean, t_int8, t_int16, t_int32, t_int64, t_uint8, t_uint16, t_uint32, t_uint64, t_float16, t_float32, t_float64, t_timestamp, t_date32, t_date64, t_time32, t_time64, t_duration, t_interval, t_binary, t_fixed_size_binary, t_large_binary, t_utf8, t_large_utf8, t_list, t_fixed_size_list, t_large_list, t_struct, t_union, t_map, t_dictionary, t_decimal, t_decimal256, t_extension, FieldTree, no_fields, more_fields}
use Rattle.schema_codec.specs.Parse.{◌>>=◌}
use Rattle.schema_codec.specs.Ranges.{HasRanges}
use Rattle.schema_codec.specs.Tags.{units, unit_number, interval_units, interval_number}
use Rattle.schema_fb.specs.Layout.{no_cells, vector, objects_bytes, below_bytes}
use Rattle.schema_fb.specs.Places.{Table, over}
use Rattle.schema_fb.specs.Reading.{Reads, child_in, tagged_in}
use Rattle.schema_fb.specs.Tables.{type_cells, children, fields_objects, is_type, is_small, is_field}
use Rattle.schema_fb.specs.Tags.{tag_of, tag_number, floats, dates}
use Rattle.schema_fb.specs.Proved.Bases.{both_hold}
use Rattle.schema_fb.specs.Proved.Slots.{Small, Costs, costs_more, over_costs, beside_costs, Slotted, Points, number_slot, truth_again, choice_again}
use Rattle.schema_fb.specs.Proved.Leaves.{integer_again, unit_small, unit_tells, interval_small, interval_tells, natural_again, decimal_again, decimal256_again, time32_again, time64_again, timestamp_again}
use Rattle.schema_fb.specs.Proved.Children.{FieldFits, Again, child_again, struct_again, union_again}

-- what a type's table and its field's slot for children have to give the type
abbrev pub TypeFits : ℕ → TypeTree → Type 0
TypeFits d t = (is_type t false false ≡ true) × HasRanges t × (nesting t ≤ suc d)

abbrev pub type_cost : ℕ → TypeTree → ℕ
type_cost id t = length (below_bytes (type_cells t)) + length (objects_bytes (children id t))

-- what is read where the tag has the number
abbrev pub numbered_in : ℕ → Reads FieldTree → List ℕ → Table → Table → ℕ → Option (TypeTree × ℕ)
numbered_in n read b parent u left = tag_of n >>= λ tag. tagged_in tag read b parent u left

module _ (read : Reads FieldTree) (b : List ℕ) (d : ℕ) (long : Small b) (again : Again read b d) (parent u : Table) (id left : ℕ) where
  -- the type is read from the two tables
  abbrev pub IsTyped : TypeTree → Type 0
  IsTyped t = TypeFits d t → Slotted b u 0 (type_cells t) → Points b parent 5 (vector (children id t)) → type_cost id t ≤ left → Costs (numbered_in (tag_number t) read b parent u left) t left (type_cost id t)

  -- one child, as a type makes it its own
  owned : (f : FieldTree) → FieldFits d f → Points b parent 5 (vector (fields_objects id (more_fields f no_fields))) → length (objects_bytes (fields_objects id (more_fields f no_fields))) ≤ left → (make : FieldTree → TypeTree)
      → Costs (over make (child_in read b parent left)) (make f) left (length (objects_bytes (fields_objects id (more_fields f no_fields))))
  owned f fit p enough make = over_costs make (child_in read b parent left) f left _ (child_again read b d long again f parent id left fit p enough)

  pub typed : (t : TypeTree) → IsTyped t
  typed t_null fit s p enough = (left, refl, omega arith)
  typed t_boolean fit s p enough = (left, refl, omega arith)
  typed t_binary fit s p enough = (left, refl, omega arith)
  typed t_utf8 fit s p enough = (left, refl, omega arith)
  typed t_large_binary fit s p enough = (left, refl, omega arith)
  typed t_large_utf8 fit s p enough = (left, refl, omega arith)
  typed t_int8 fit s p enough = beside_costs _ t_int8 left _ (rw (integer_again b u keys.Int8 s) refl)
  typed t_int16 fit s p enough = beside_costs _ t_int16 left _ (rw (integer_again b u keys.Int16 s) refl)
  typed t_int32 fit s p enough = beside_costs _ t_int32 left _ (rw (integer_again b u keys.Int32 s) refl)
  typed t_int64 fit s p enough = beside_costs _ t_int64 left _ (rw (integer_again b u keys.Int64 s) refl)
  typed t_uint8 fit s p enough = beside_costs _ t_uint8 left _ (rw (integer_again b u keys.UInt8 s) refl)
  typed t_uint16 fit s p enough = beside_costs _ t_uint16 left _ (rw (integer_again b u keys.UInt16 s) refl)
  typed t_uint32 fit s p enough = beside_costs _ t_uint32 left _ (rw (integer_again b u keys.UInt32 s) refl)
  typed t_uint64 fit s p enough = beside_costs _ t_uint64 left _ (rw (integer_again b u keys.UInt64 s) refl)
  typed t_float16 fit s p enough = beside_costs _ t_float16 left _ (choice_again floats 0 b u 0 0 t_float16 (omega arith) refl (number_slot b u 0 0 no_cells s))
  typed t_float32 fit s p enough = beside_costs _ t_float32 left _ (choice_again floats 0 b u 0 1 t_float32 (omega arith) refl (number_slot b u 0 1 no_cells s))
  typed t_float64 fit s p enough = beside_costs _ t_float64 left _ (choice_again floats 0 b u 0 2 t_float64 (omega arith) refl (number_slot b u 0 2 no_cells s))
  typed t_date32 fit s p enough = beside_costs _ t_date32 left _ (choice_again dates 1 b u 0 0 t_date32 (omega arith) refl (number_slot b u 0 0 no_cells s))
  typed t_date64 fit s p enough = beside_costs _ t_date64 left _ (choice_again dates 1 b u 0 1 t_date64 (omega arith) refl (number_slot b u 0 1 no_cells s))
  typed (t_timestamp unit zone) fit s p enough = costs_more _ (t_timestamp unit zone) left _ _ (omega arith) (timestamp_again b u left unit zone long fit.1 (omega arith) s)
  typed (t_time32 unit) fit s p enough = beside_costs _ (t_time32 unit) left _ (time32_again b u unit s)
  typed (t_time64 unit) fit s p enough = beside_costs _ (t_time64 unit) left _ (time64_again b u unit s)
  typed (t_duration unit) fit s p enough = beside_costs _ (t_duration unit) left _ (rw (choice_again units 1 b u 0 (unit_number unit) unit (unit_small unit) (unit_tells unit) (number_slot b u 0 (unit_number unit) no_cells s)) refl)
  typed (t_interval unit) fit s p enough =
      beside_costs _ (t_interval unit) left _ (rw (choice_again interval_units 0 b u 0 (interval_number unit) unit (interval_small unit) (interval_tells unit) (number_slot b u 0 (interval_number unit) no_cells s)) refl)
  typed (t_fixed_size_binary size) fit s p enough = beside_costs _ (t_fixed_size_binary size) left _ (rw (natural_again b u 0 size fit.0 (number_slot b u 0 size no_cells s)) refl)
  typed (t_decimal precision scale) fit s p enough =
      let small = both_hold (is_small precision) (is_small scale) fit.0 in
      beside_costs _ (t_decimal precision scale) left _ (decimal_again b u precision scale small.0 small.1 s)
  typed (t_decimal256 precision scale) fit s p enough =
      let small = both_hold (is_small precision) (is_small scale) fit.0 in
      beside_costs _ (t_decimal256 precision scale) left _ (decimal256_again b u precision scale small.0 small.1 s)
  typed (t_list f) fit s p enough = costs_more _ (t_list f) left _ _ (omega arith) (owned f (fit.0, fit.1, omega (arith, fit.2)) p (omega arith) t_list)
  typed (t_large_list f) fit s p enough = costs_more _ (t_large_list f) left _ _ (omega arith) (owned f (fit.0, fit.1, omega (arith, fit.2)) p (omega arith) t_large_list)
  typed (t_fixed_size_list f size) fit s p enough =
      let both = both_hold (is_field f) (is_small size) fit.0 in
      let c = owned f (both.0, fit.1.0, omega (arith, fit.2)) p (omega arith) (λ g. t_fixed_size_list g size) in
      (c.0, rw (natural_again b u 0 size both.1 (number_slot b u 0 size no_cells s)) c.1, omega (arith, c.2))
  typed (t_map f sorted) fit s p enough =
      let c = owned f (fit.0, fit.1, omega (arith, fit.2)) p (omega arith) (λ g. t_map g sorted) in
      (c.0, rw (truth_again b u 0 sorted (number_slot b u 0 _ no_cells s)) c.1, omega (arith, c.2))
  typed (t_struct fs) fit s p enough = costs_more _ (t_struct fs) left _ _ (omega arith) (struct_again read b d long again fs parent id left (fit.0, fit.1, omega (arith, fit.2)) p (omega arith))
  typed (t_union fs ids sparse) fit s p enough =
      costs_more _ (t_union fs ids sparse) left _ _ (omega arith) (union_again read b d long again fs ids sparse parent u id left (fit.0, fit.1.0, omega (arith, fit.2)) fit.1.1 s p (omega arith))
  typed (t_dictionary key value sorted) fit s p enough = absurd (grind (arith, fit.0))
  typed (t_extension name inner metadata) fit s p enough = absurd (grind (arith, fit.0))
