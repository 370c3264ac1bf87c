-- A writer of the sample's first file.
use Rattle.std.specs.Prelude.{◌≡◌, ◌≤◌, ℕ, List, [], Option, Some, map, false}
use Rattle.columns_core.specs.View.{schema_view}
use Rattle.columns_slots.specs.Tree.{ArrayTrees}
use Rattle.pq_files.specs.Layout.{OutGroup}
use Rattle.pq_io.specs.PlainSinks.{plain_taken}
use Rattle.pq_io.specs.declared.plain_sink.PlainSink.{PlainSink}
use Rattle.pq_tree.specs.TreeViews.{trees_view}
use Rattle.sample_rows.specs.Columns.{AreColumns}
use Rattle.sample_rows.specs.Fields.{sample_fields, sample_tree}
use Rattle.schema_to_tree.specs.Table.{schema_of}
use Rattle.typed_groups.specs.Suiting.{AreAllSound}
use Rattle.write_groups.specs.Laid.{AreChosen}
use Rattle.write_groups.specs.Writing.{HasColumns, IsWriting}
use Rattle.write_groups.specs.declared.group.RowGroupIter.{RowGroupIter}
use Rattle.write_groups.specs.declared.writer.FileWriter.{FileWriter}
use Rattle.sample_run.specs.Chunks.{AreGroupsFor}
use Rattle.sample_run.specs.Files.{written_options}

abbrev pub taken_by : PlainSink → Option (List ℕ)
taken_by k = Some (plain_taken k)

-- it has written nothing
pub record IsFreshWriter (w : FileWriter PlainSink) : Type 0 where
  pub schema : schema_view w.file.schema ≡ sample_tree
  pub options : w.options ≡ written_options
  pub writing : IsWriting taken_by (Some []) w []

-- the arrays of some rows of the sample
abbrev pub AreSampleArrays : ArrayTrees → Type 0
AreSampleArrays chunk = (n : ℕ) × (n ≤ 1000000) × AreColumns n chunk

-- the columns of the sample's arrays, in PLAIN
pub record IsSampleGroup (chunk : ArrayTrees) (g : RowGroupIter) : Type 0 where
  pub arrays : AreSampleArrays chunk
  pub sound : AreAllSound chunk
  pub chunk_is : g.chunk ≡ chunk
  pub options_are : g.options ≡ written_options
  pub trees : trees_view g.fields.items ≡ (schema_of sample_fields).fields
  pub plain : AreChosen false sample_fields (schema_of sample_fields).fields (map (λ es. es.items) g.encodings.items)
  pub columns : HasColumns g

-- it has written the group of the sample's arrays
pub record HasPut (chunk : ArrayTrees) (w : FileWriter PlainSink) : Type 0 where
  pub arrays : AreSampleArrays chunk
  pub schema : schema_view w.file.schema ≡ sample_tree
  pub options : w.options ≡ written_options
  pub groups : List OutGroup
  pub are : AreGroupsFor sample_tree written_options chunk groups
  pub writing : IsWriting taken_by (Some []) w groups
