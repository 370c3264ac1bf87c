-- What a file of a schema keeps, while groups go to it (Parquet format, "File format").
use Rattle.std.specs.Prelude.{◌≡◌, ℕ, List, Option, None}
use Rattle.columns_core.specs.Tree.{FieldTrees}
use Rattle.columns_core.specs.View.{schema_view}
use Rattle.footer_write.specs.Fits.{TreesFit}
use Rattle.pq_files.specs.Layout.{OutGroup}
use Rattle.pq_files.specs.Written.{elements_of}
use Rattle.pq_metadata.specs.Footer.{SpellsTree}
use Rattle.pq_tree.specs.declared.version.Version.{Version}
use Rattle.schema_file.specs.declared.file.SchemaFile.{SchemaFile}
use Rattle.schema_to_tree.specs.Conditions.{AreWritten}
use Rattle.schema_to_tree.specs.Table.{schema_of}
use Rattle.write_file.specs.Files.{HasWritten}

abbrev pub fields_in : {W : Type 0} → SchemaFile W → FieldTrees
fields_in f = (schema_view f.schema).fields

-- Since it was made, the file has these groups, in pages of this version: the sink gained them behind PAR1, and no other byte, and what the footer states of
-- them is kept. Before the first group the sink may have gained nothing. No call was refused, and the file has not ended.
pub record IsOpen {W : Type 0} (taken : W → Option (List ℕ)) (before : Option (List ℕ)) (version : Version) (groups : List OutGroup) (f : SchemaFile W) : Type 0 where
  pub fine : f.refusal ≡ None
  pub written : AreWritten (fields_in f)
  pub has : HasWritten taken before (schema_of (fields_in f)) version groups f.body
  -- a footer tells of the tree as it is, and has a field for each of its numbers
  pub told : SpellsTree (elements_of (schema_of (fields_in f))) (schema_of (fields_in f))
  pub fits : TreesFit (schema_of (fields_in f)).fields
