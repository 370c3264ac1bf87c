-- The row groups of chunks of arrays (Parquet format, "Row Groups").
use Rattle.std.specs.Prelude.{◌≡◌, ◌⊎◌, ◌-◌, ◌^◌, ℕ, Bool, true, false, min, List, [], ◌∷◌, length, map, Option, Some, None, Result, Ok, Err}
use Rattle.columns_base.specs.declared.error.A.TheVariants.{A8}
use Rattle.columns_base.specs.declared.error.Error.{Error}
use Rattle.columns_base.specs.declared.error.Error.TheVariants.{InvalidArgumentError, Memory}
use Rattle.columns_core.specs.Measures.{leaves}
use Rattle.columns_core.specs.Tree.{TypeTree, field, FieldTrees, no_fields, more_fields}
use Rattle.columns_core.specs.View.{fields_view}
use Rattle.columns_slots.specs.Tree.{ArrayTrees}
use Rattle.pq_tree.specs.Tree.{Trees, count_trees}
use Rattle.pq_tree.specs.TreeViews.{trees_view}
use Rattle.pq_tree.specs.declared.types.Encoding.{Encoding}
use Rattle.schema_to_tree.specs.Leaves.{is_union, meets}
use Rattle.typed_rows.specs.Own.{AreRowsOf}
use Rattle.write_groups.specs.Columns.{AreSoMany, RefusesFields}
use Rattle.write_groups.specs.Writing.{HasColumns}
use Rattle.write_groups.specs.declared.group.RowGroupIter.{RowGroupIter}
use Rattle.write_pages.specs.declared.options.WriteOptions.{WriteOptions}
use Rattle.row_groups.specs.declared.row_groups.RowGroupIterator.{RowGroupIterator}

-- ---- encodings

-- the largest number that a column is counted with
abbrev pub largest : ℕ
largest = 2 ^ 64 - 1

-- There is an encoding for each leaf. A union is not written, so of a type with one nothing is asked.
abbrev pub IsNumbered : TypeTree → List Encoding → Type 0
IsNumbered t es = (meets is_union t ≡ true) ⊎ (length es ≡ min largest (leaves t))

abbrev pub AreNumbered : FieldTrees → List (List Encoding) → Type 0
AreNumbered no_fields [] = Unit {0}
AreNumbered (more_fields (field n t b m) fs) (es ∷ ess) = IsNumbered t es × AreNumbered fs ess
AreNumbered _ _ = ⊥

-- ---- the group of a chunk

-- Its rows are rows of the fields, and it is to be written by these trees, in these encodings and with these options.
pub record IsGroupFor (fs : FieldTrees) (ts : Trees) (ess : List (List Encoding)) (o : WriteOptions) (chunk : ArrayTrees) (g : RowGroupIter) : Type 0 where
  pub rows : AreRowsOf fs chunk
  pub chunk_is : g.chunk ≡ chunk
  pub trees : trees_view g.fields.items ≡ ts
  pub encodings : map (λ es. es.items) g.encodings.items ≡ ess
  pub options : g.options ≡ o
  pub columns : HasColumns g

-- Number or types of the arrays are not those of the fields, or a null is reached where a field is required; or else memory ran out, there are
-- more or fewer lists of encodings or trees than arrays, or the columns of the arrays are refused.
abbrev pub RefusesGroup : FieldTrees → Trees → List (List Encoding) → WriteOptions → ArrayTrees → Error → Type 0
RefusesGroup fs ts ess o chunk e = ((e ≡ InvalidArgumentError A8) × (¬ AreRowsOf fs chunk)) ⊎ (AreRowsOf fs chunk × ((e ≡ Memory) ⊎ ((e ≡ InvalidArgumentError A8) × (¬ AreSoMany chunk (length ess) (count_trees ts))) ⊎ RefusesFields o chunk ts ess e))

-- ---- the iterator

module _ {I : Type 0} (s : RowGroupIterator I) where
  -- what it makes of an outcome
  abbrev pub Makes : Option (Result ArrayTrees Error) → Option (Result RowGroupIter Error) → Type 0
  Makes None r = r ≡ None
  Makes (Some (Err e)) r = r ≡ Some (Err e)
  Makes (Some (Ok chunk)) None = ⊥
  Makes (Some (Ok chunk)) (Some (Ok g)) = IsGroupFor (fields_view s.fields.items) (trees_view s.schema.fields) (map (λ es. es.items) s.encodings.items) s.options chunk g
  Makes (Some (Ok chunk)) (Some (Err e)) = RefusesGroup (fields_view s.fields.items) (trees_view s.schema.fields) (map (λ es. es.items) s.encodings.items) s.options chunk e

-- an error was given
abbrev pub fails_with : Option (Result RowGroupIter Error) → Bool
fails_with (Some (Err e)) = true
fails_with r = false

-- nothing but the iterator within and whether an error was given
pub record IsSameBut {I : Type 0} (s t : RowGroupIterator I) : Type 0 where
  pub options : t.options ≡ s.options
  pub schema : t.schema ≡ s.schema
  pub fields : t.fields ≡ s.fields
  pub encodings : t.encodings ≡ s.encodings

-- Behind an error nothing comes, and the iterator within is left alone. Else one outcome of it is taken.
abbrev pub Steps : {I : Type 0} → (I → Option (Result ArrayTrees Error) → I → Type 0) → Bool → RowGroupIterator I → Option (Result RowGroupIter Error) → RowGroupIterator I → Type 0
Steps gives true s r t = (r ≡ None) × (t ≡ s)
Steps gives false s r t = IsSameBut s t × (t.has_failed ≡ fails_with r) × ((outcome : Option (Result ArrayTrees Error)) × gives s.iter outcome t.iter × Makes s outcome r)

abbrev pub GivesGroup : {I : Type 0} → (I → Option (Result ArrayTrees Error) → I → Type 0) → RowGroupIterator I → Option (Result RowGroupIter Error) → RowGroupIterator I → Type 0
GivesGroup gives s r t = Steps gives s.has_failed s r t
