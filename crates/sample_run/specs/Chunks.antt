-- The file of one chunk of arrays (Parquet format, "File format").
use Rattle.std.specs.Prelude.{◌≡◌, ◌⊎◌, ℕ, List, [], ◌∷◌, Option, map, false}
use Rattle.columns_core.specs.View.{SchemaTree}
use Rattle.columns_slots.specs.Slots.{first_len}
use Rattle.columns_slots.specs.Tree.{ArrayTrees}
use Rattle.pq_files.specs.Layout.{OutGroup}
use Rattle.pq_tree.specs.TreeViews.{trees_view}
use Rattle.schema_key.specs.Key.{schema_entry}
use Rattle.schema_to_tree.specs.Table.{schema_of}
use Rattle.write_file.specs.Files.{HasFile}
use Rattle.write_groups.specs.Laid.{AreChosen}
use Rattle.write_groups.specs.Writing.{HasColumns, IsGroupOf}
use Rattle.write_groups.specs.declared.group.RowGroupIter.{RowGroupIter}
use Rattle.write_pages.specs.declared.options.WriteOptions.{WriteOptions}

-- the group of a chunk, in pages as they are asked for and in PLAIN, by the trees of the schema
pub record IsGroupFor (s : SchemaTree) (options : WriteOptions) (chunk : ArrayTrees) (out : OutGroup) : Type 0 where
  pub group : RowGroupIter
  pub chunk_is : group.chunk ≡ chunk
  pub options_are : group.options ≡ options
  pub trees : trees_view group.fields.items ≡ (schema_of s.fields).fields
  pub plain : AreChosen false s.fields (schema_of s.fields).fields (map (λ es. es.items) group.encodings.items)
  pub columns : HasColumns group
  pub gives : IsGroupOf s.fields group out

-- no group for a chunk without rows, else its one group
abbrev pub AreGroupsFor : SchemaTree → WriteOptions → ArrayTrees → List OutGroup → Type 0
AreGroupsFor s options chunk groups = ((first_len chunk ≡ 0) × (groups ≡ [])) ⊎ ((out : OutGroup) × (groups ≡ out ∷ []) × IsGroupFor s options chunk out)

-- Behind what was there stands one packed file of the schema's tree, with the schema under its key alone, and the chunk's group.
pub record IsFileOfChunk (before after : Option (List ℕ)) (s : SchemaTree) (schema_bytes : List ℕ) (options : WriteOptions) (chunk : ArrayTrees) : Type 0 where
  pub groups : List OutGroup
  pub are : AreGroupsFor s options chunk groups
  pub size : ℕ
  pub file : HasFile before after (schema_of s.fields) (schema_entry schema_bytes ∷ []) options.version groups size
