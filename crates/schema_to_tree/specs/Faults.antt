-- The first fault of a type, in the order of its parts: how a conversion meets the conditions.
use Rattle.std.specs.Prelude.{◌≡◌, ◌⊎◌, ◌^◌, cond, ◌||◌, leb, nat_eq, Option, Some, None, Result, Ok, Err}
use Rattle.columns_core.specs.Tree.{TypeTree, t_float16, t_time32, t_time64, t_fixed_size_binary, t_list, t_fixed_size_list, t_large_list, t_struct, t_union, t_map, t_dictionary, t_decimal, t_decimal256, t_extension, FieldTree, field, FieldTrees, no_fields, more_fields}
use Rattle.columns_core.specs.declared.types.TimeUnit.TheVariants.{Second, Millisecond, Microsecond, Nanosecond}
use Rattle.columns_base.specs.declared.error.Error.{Error}
use Rattle.columns_base.specs.declared.error.Error.TheVariants.{NotYetImplemented, InvalidArgumentError, Memory}
use Rattle.columns_base.specs.declared.error.N.TheVariants.{N5}
use Rattle.columns_base.specs.declared.error.A.TheVariants.{A4, A5, A6}
use Rattle.schema_to_tree.specs.Conditions.{is_decimal}

abbrev pub unwritten : Option Error
unwritten = Some (NotYetImplemented N5)

abbrev pub first_of_two : Option Error → Option Error → Option Error
first_of_two (Some e) o = Some e
first_of_two None o = o

-- the fault of a leaf type
abbrev pub leaf_fault : TypeTree → Option Error
leaf_fault t_float16 = unwritten
leaf_fault (t_time32 Microsecond) = unwritten
leaf_fault (t_time32 Nanosecond) = unwritten
leaf_fault (t_time64 Second) = Some (InvalidArgumentError A6)
leaf_fault (t_time64 Millisecond) = Some (InvalidArgumentError A6)
leaf_fault (t_fixed_size_binary n) = cond (nat_eq n 0 || leb (2 ^ 31) n) unwritten None
leaf_fault (t_decimal p s) = cond (is_decimal p s) None (Some (InvalidArgumentError A5))
leaf_fault (t_decimal256 p s) = unwritten
leaf_fault (t_union fs ids sparse) = unwritten
leaf_fault t = None

abbrev mutual
  pub fault : TypeTree → Option Error
  fault (t_list f) = field_fault f
  fault (t_large_list f) = field_fault f
  fault (t_fixed_size_list f n) = field_fault f
  fault (t_map f sorted) = field_fault f
  fault (t_struct no_fields) = Some (InvalidArgumentError A4)
  fault (t_struct (more_fields f fs)) = first_of_two (field_fault f) (fields_fault fs)
  fault (t_dictionary key t sorted) = fault t
  fault (t_extension name t m) = fault t
  fault t = leaf_fault t

  pub field_fault : FieldTree → Option Error
  field_fault (field name t nullable m) = fault t

  pub fields_fault : FieldTrees → Option Error
  fields_fault no_fields = None
  fields_fault (more_fields f fs) = first_of_two (field_fault f) (fields_fault fs)

-- an answer where there is no fault, and else the fault; want of memory aside
abbrev pub Gives : {A B : Type 0} → (A → B) → B → Option Error → Result A Error → Type 0
Gives f b fault (Ok a) = (f a ≡ b) × (fault ≡ None)
Gives f b fault (Err e) = (e ≡ Memory) ⊎ (fault ≡ Some e)
