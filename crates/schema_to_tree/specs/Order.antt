-- Which refusal is answered where several conditions hold.
use Rattle.std.specs.Prelude.{◌≡◌, ◌⊎◌, Bool, true, false, ◌&&◌, leb, Option, Some}
use Rattle.columns_core.specs.Measures.{field_nesting, fields_nesting}
use Rattle.columns_core.specs.Tree.{FieldTree, FieldTrees}
use Rattle.columns_base.specs.declared.error.Error.{Error}
use Rattle.columns_base.specs.declared.error.Error.TheVariants.{NotYetImplemented, InvalidArgumentError, Memory}
use Rattle.columns_base.specs.declared.error.N.TheVariants.{N7}
use Rattle.columns_base.specs.declared.error.A.TheVariants.{A6}
use Rattle.pq_tree.specs.Tree.{nesting, schema_nesting}
use Rattle.schema_to_tree.specs.Conditions.{is_bad_time64, some_field, some_fields, most}
use Rattle.schema_to_tree.specs.Faults.{field_fault, fields_fault}
use Rattle.schema_to_tree.specs.Table.{tree_of, schema_of}

-- what nests too deep goes first, then a 64-bit time that no file has, then the first fault in the order of the parts
abbrev pub in_order : Bool → Bool → Option Error → Option Error
in_order false has_bad_time fault = Some (NotYetImplemented N7)
in_order true true fault = Some (InvalidArgumentError A6)
in_order true false fault = fault

abbrev pub field_refusal : FieldTree → Option Error
field_refusal f = in_order (leb (field_nesting f) most && leb (nesting (tree_of f)) most) (some_field is_bad_time64 f) (field_fault f)

abbrev pub schema_refusal : FieldTrees → Option Error
schema_refusal fs = in_order (leb (fields_nesting fs) most && leb (schema_nesting (schema_of fs)) most) (some_fields is_bad_time64 fs) (fields_fault fs)

-- the error is that one, or memory ran out
abbrev pub IsFirst : Option Error → Error → Type 0
IsFirst refusal e = (e ≡ Memory) ⊎ (refusal ≡ Some e)
