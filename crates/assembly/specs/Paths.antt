-- The ways to the leaves of a field, as the parts of a nested state before its first pair.
use Rattle.std.specs.Prelude.{◌≡◌, ◌⊎◌, Bool, true, false, Option, Some, None, List, [], ◌∷◌, ◌++◌, Result, Ok, Err}
use Rattle.columns_base.specs.declared.error.Error.{Error}
use Rattle.columns_base.specs.declared.error.Error.TheVariants.{Memory, NotYetImplemented, InvalidArgumentError}
use Rattle.columns_base.specs.declared.error.A.TheVariants.{A8}
use Rattle.columns_base.specs.declared.error.N.TheVariants.{N5}
use Rattle.columns_core.specs.Shapes.{base}
use Rattle.columns_core.specs.Tree.{TypeTree, t_list, t_fixed_size_list, t_large_list, t_struct, t_union, t_map, t_dictionary, t_extension, FieldTree, field, FieldTrees, no_fields, more_fields}
use Rattle.columns_core.specs.View.{type_view}
use Rattle.pq_headline.specs.Columns.{has_no_parts}
use Rattle.read_state.specs.declared.init.InitNested.{InitNested}
use Rattle.read_state.specs.declared.init.InitNested.TheVariants.{Primitive, List as ListOf, Struct}
use Rattle.schema_to_tree.specs.Faults.{first_of_two}
use Rattle.assembly.specs.declared.paths.LeafPath.{LeafPath}

-- the parts on a way to a leaf, and the leaf's type
abbrev pub Path : Type 0
Path = List InitNested × TypeTree

abbrev pub path_view : LeafPath → Path
path_view p = (p.nested.items, type_view p.data_type)

-- behind the parts above; a leaf has its type with its extensions
abbrev mutual
  pub type_paths : List InitNested → Bool → TypeTree → TypeTree → List Path
  type_paths front n own (t_list item) = field_paths (front ++ ListOf n ∷ []) item
  type_paths front n own (t_large_list item) = field_paths (front ++ ListOf n ∷ []) item
  type_paths front n own (t_fixed_size_list item width) = field_paths (front ++ ListOf n ∷ []) item
  type_paths front n own (t_map entry is_sorted) = field_paths (front ++ ListOf n ∷ []) entry
  type_paths front n own (t_struct fs) = fields_paths (front ++ Struct n ∷ []) fs
  type_paths front n own (t_extension name inner metadata) = type_paths front n own inner
  type_paths front n own t = (front ++ Primitive n ∷ [], own) ∷ []

  pub field_paths : List InitNested → FieldTree → List Path
  field_paths front (field name t n metadata) = type_paths front n t t

  pub fields_paths : List InitNested → FieldTrees → List Path
  fields_paths front no_fields = []
  fields_paths front (more_fields f fs) = field_paths front f ++ fields_paths front fs

-- ---- why there are none: the first fault on a way

-- of a dictionary whose entries have parts or not
abbrev pub entries_fault : Bool → Option Error
entries_fault true = None
entries_fault false = Some (NotYetImplemented N5)

abbrev mutual
  pub type_fault : TypeTree → Option Error
  type_fault (t_list item) = field_fault item
  type_fault (t_large_list item) = field_fault item
  type_fault (t_fixed_size_list item width) = Some (NotYetImplemented N5)
  type_fault (t_map entry is_sorted) = field_fault entry
  type_fault (t_struct fs) = struct_fault fs
  type_fault (t_union fs ids is_sparse) = Some (NotYetImplemented N5)
  type_fault (t_dictionary key t is_sorted) = entries_fault (has_no_parts (base t))
  type_fault (t_extension name inner metadata) = type_fault inner
  type_fault t = None

  pub field_fault : FieldTree → Option Error
  field_fault (field name t n metadata) = type_fault t

  -- of a struct's fields
  pub struct_fault : FieldTrees → Option Error
  struct_fault no_fields = Some (InvalidArgumentError A8)
  struct_fault (more_fields f fs) = first_of_two (field_fault f) (fields_fault fs)

  pub fields_fault : FieldTrees → Option Error
  fields_fault no_fields = None
  fields_fault (more_fields f fs) = first_of_two (field_fault f) (fields_fault fs)

-- more paths behind the old ones, or the first fault; memory may run out before
abbrev pub Pushes : List Path → List Path → List Path → Option Error → Result (Unit {0}) Error → Type 0
Pushes old new more fault (Ok done) = (new ≡ old ++ more) × (fault ≡ None)
Pushes old new more fault (Err e) = (e ≡ Memory) ⊎ (fault ≡ Some e)
