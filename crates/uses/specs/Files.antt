-- A file of one chunk of arrays (Parquet format, "File format").
use Rattle.std.specs.Prelude.{◌≡◌, ◌⊎◌, ◌<◌, ℕ, List, [], ◌∷◌, length, Option}
use Rattle.columns_base.specs.declared.error.Error.{Error}
use Rattle.columns_base.specs.declared.error.Error.TheVariants.{InvalidArgumentError, Overflow, WriteFault}
use Rattle.columns_base.specs.declared.error.A.TheVariants.{A8}
use Rattle.columns_base.specs.declared.error.V.TheVariants.{V3}
use Rattle.columns_core.specs.Tree.{FieldTrees}
use Rattle.columns_core.specs.View.{SchemaTree}
use Rattle.columns_slots.specs.Slots.{AreTyped, first_len}
use Rattle.columns_slots.specs.Tree.{ArrayTrees}
use Rattle.pq_files.specs.Layout.{OutGroup}
use Rattle.pq_files.specs.Room.{footer_room, max_size, planned_footer}
use Rattle.pq_tree.specs.Tree.{columns_of, count_trees}
use Rattle.pq_tree.specs.declared.types.Encoding.{Encoding}
use Rattle.pq_tree.specs.declared.version.Version.{Version}
use Rattle.schema_to_tree.specs.Conditions.{RefusesSchema}
use Rattle.schema_key.specs.Key.{schema_entry}
use Rattle.schema_to_tree.specs.Table.{schema_of}
use Rattle.write_counts.specs.Passing.{GroupPasses}
use Rattle.write_file.specs.Files.{HasFile}
use Rattle.write_file.specs.Pages.{SomeRefuses}
use Rattle.write_groups.specs.Columns.{AreSoMany, RefusesFields}
use Rattle.write_groups.specs.Given.{RefusesColumn}
use Rattle.write_groups.specs.Writing.{HasColumns, IsGroupOf}
use Rattle.write_groups.specs.declared.group.RowGroupIter.{RowGroupIter}
use Rattle.write_pages.specs.declared.options.WriteOptions.{WriteOptions}

-- no group for a chunk without rows, else the one group of its columns
abbrev pub AreGroupsOf : SchemaTree → ArrayTrees → List OutGroup → Type 0
AreGroupsOf s chunk groups =
    ((first_len chunk ≡ 0) × (groups ≡ []))
    ⊎ ((g : RowGroupIter) × (out : OutGroup) × (groups ≡ out ∷ []) × (g.chunk ≡ chunk) × HasColumns g × IsGroupOf s.fields g out)

-- Behind what was there stands one packed file of the schema's tree, with the schema under its key alone, and the chunk's group.
pub record IsFileOf (before after : Option (List ℕ)) (s : SchemaTree) (schema_bytes : List ℕ) (options : WriteOptions) (chunk : ArrayTrees) : Type 0 where
  pub groups : List OutGroup
  pub are : AreGroupsOf s chunk groups
  pub size : ℕ
  pub file : HasFile before after (schema_of s.fields) (schema_entry schema_bytes ∷ []) options.version groups size

-- ---- why there is none

-- a page is refused, or the group passes the counts of a footer
abbrev pub RefusesGroup : FieldTrees → Version → RowGroupIter → Error → Type 0
RefusesGroup fs version g e = SomeRefuses RefusesColumn g.columns.items e ⊎ ((e ≡ Overflow V3) × (out : OutGroup) × IsGroupOf fs g out × GroupPasses version (columns_of (schema_of fs)) [] out)

-- the bytes of the schema, or the room of the footer, are too many
abbrev pub RefusesFooter : SchemaTree → List ℕ → ArrayTrees → Error → Type 0
RefusesFooter s schema_bytes chunk e =
    (e ≡ Overflow V3)
    × ((max_size < length schema_bytes) ⊎ ((groups : List OutGroup) × AreGroupsOf s chunk groups × (max_size < footer_room (planned_footer (schema_of s.fields) (schema_entry schema_bytes ∷ []) groups))))

-- The schema, the numbers of arrays, encodings and fields, the types of the arrays, a column, the group or the footer is refused, or the sink failed.
abbrev pub RefusesFile : SchemaTree → List ℕ → WriteOptions → ArrayTrees → List (List Encoding) → Error → Type 0
RefusesFile s schema_bytes options chunk encodings e =
    RefusesSchema s.fields e
    ⊎ (e ≡ WriteFault)
    ⊎ ((e ≡ InvalidArgumentError A8) × ((¬ AreSoMany chunk (length encodings) (count_trees (schema_of s.fields).fields)) ⊎ (¬ AreTyped s.fields chunk)))
    ⊎ RefusesFields options chunk (schema_of s.fields).fields encodings e
    ⊎ ((g : RowGroupIter) × (g.chunk ≡ chunk) × HasColumns g × RefusesGroup s.fields options.version g e)
    ⊎ RefusesFooter s schema_bytes chunk e
