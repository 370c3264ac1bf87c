-- What is known when the pages of a file are read.
use Rattle.std.specs.Prelude.{◌≡◌, ◌≢◌, ◌≤◌, ◌<◌, ◌+◌, ◌⊎◌, ℕ, List, [], ◌∷◌, ◌++◌, length, map, All, Option, Some}
use Rattle.std.specs.List.{AllZip}
use Rattle.shredding.specs.Shape.{AreOf}
use Rattle.columns_base.specs.declared.error.Error.{Error}
use Rattle.columns_base.specs.declared.error.Error.TheVariants.{Memory, Overflow}
use Rattle.columns_base.specs.declared.error.V.TheVariants.{V3}
use Rattle.columns_core.specs.Measures.{fields_nesting}
use Rattle.columns_core.specs.Shapes.{shapes_of}
use Rattle.columns_core.specs.Tree.{FieldTrees}
use Rattle.columns_core.specs.View.{schema_view}
use Rattle.columns_slots.specs.Slots.{first_len, AreTyped}
use Rattle.columns_slots.specs.Tree.{ArrayTrees}
use Rattle.columns_array.specs.Chunks.{AreEven}
use Rattle.pq_metadata.specs.Footer.{GroupMeta}
use Rattle.pq_tree.specs.Columns.{columns_in}
use Rattle.pq_tree.specs.Described.{IsDescribed, GroupsAreDescribed}
use Rattle.pq_tree.specs.Tree.{Schema, columns_of}
use Rattle.pq_tree.specs.TreeViews.{metadata_view, schema_view as tree_schema}
use Rattle.pq_tree.specs.Views.{group_view}
use Rattle.pq_tree.specs.declared.types.RowGroupMetaData.{RowGroupMetaData}
use Rattle.pq_files.specs.Layout.{OutGroup}
use Rattle.pq_files.specs.Packed.{Packed}
use Rattle.pq_files.specs.Reasons.{AnyOf}
use Rattle.pq_files.specs.Room.{max_size, footer_room, planned_footer}
use Rattle.pq_io.specs.declared.piece_sink.PieceSink.{PieceSink}
use Rattle.schema_to_tree.specs.Table.{schema_of}
use Rattle.pq_headline.specs.Arrays.{rows_of, seen_in}
use Rattle.pq_headline.specs.Opened.{AreOpened, GroupIsPlaced, rows_in_chunks}
use Rattle.pq_headline.specs.Openings.{Opening}
use Rattle.pq_headline.specs.Rewrites.{Asked, Codec, Counted, keys_out}
use Rattle.pq_headline.specs.Rows.{Seen}
use Rattle.pq_headline.specs.Stages.{SchemaFits, SomeFieldIs}
use Rattle.pq_headline.specs.Written.{HasRead, IsRefusedAt, IsWrittenAs}
use Rattle.assembly.specs.Giving.{FieldReading}
use Rattle.write_groups.specs.Writing.{IsWriting}
use Rattle.write_groups.specs.declared.writer.FileWriter.{FileWriter}
use Rattle.rewrite_whole.specs.Asks.{asked_by, counts_of}
use Rattle.rewrite_whole.specs.Groups.{IsOutput, IsUnderWay, taken_by}
use Rattle.rewrite_whole.specs.Plans.{lists_of}
use Rattle.write_groups.specs.Laid.{AreChosen}
use Rattle.rewrite_whole.specs.Views.{Sees}
use Rattle.rewrite_whole.specs.declared.job.Job.{Job}
use Rattle.rewrite_whole.specs.declared.output.Output.{Output}
use Rattle.rewrite_notes.specs.declared.report.Report.{Report}

abbrev pub fields_in : Job → FieldTrees
fields_in job = (schema_view job.plan.now.schema).fields

abbrev pub tree_in : Job → Schema
tree_in job = (metadata_view job.metadata.now).schema

-- ---- a job: a file whose schema is settled, and what is asked for

abbrev pub asked_of : Job → Asked
asked_of job = asked_by job.options.now

-- The chunks of each group are in their places, each with its leaf, and the schema fits.
pub record IsReady (job : Job) : Type 0 where
  pub placed : All (GroupIsPlaced job.place (columns_of (tree_in job))) (metadata_view job.metadata.now).groups
  pub described : GroupsAreDescribed (columns_in (tree_in job).fields) job.metadata.now.row_groups.items
  pub within : job.place ≤ length job.input.now
  pub fits : SchemaFits (fields_in job) (metadata_view job.metadata.now)
  pub nesting : fields_nesting (fields_in job) ≤ 128
  pub tree : tree_schema job.plan.now.tree ≡ schema_of (fields_in job)
  pub encodings : AreChosen job.options.now.delta (fields_in job) (tree_schema job.plan.now.tree).fields (lists_of job.plan.now.encodings)
  pub some : job.options.now.chunk_size ≢ Some 0

-- one of its groups
pub record IsGroup (job : Job) (group : RowGroupMetaData) : Type 0 where
  pub placed : GroupIsPlaced job.place (columns_of (tree_in job)) (group_view group)
  pub described : IsDescribed (columns_in (tree_in job).fields) group

-- The fields of a group are opened, and nothing was taken of them yet.
pub record OpensGroup (job : Job) (rows : ℕ) (m : GroupMeta) (iters : List FieldReading) : Type 0 where
  pub openings : List Opening
  pub opened : AreOpened job.input.now job.place rows job.options.now.chunk_size (fields_in job) (columns_of (tree_in job)) m.chunks openings
  pub under_way : IsUnderWay rows job.options.now.chunk_size openings iters []

-- What was done with a group: its pieces were shown, and went to the output.
pub record Did (job : Job) (m : GroupMeta) (before now : Option (List (List Seen))) (first output : Output) : Type 0 where
  pub chunks : List ArrayTrees
  pub sees : Sees before now (map seen_in chunks)
  pub read : HasRead job.options.now.chunk_size (fields_in job) (tree_in job) job.input.now job.place (m ∷ []) chunks
  pub output_is : (others : List ArrayTrees) → IsOutput (schema_view job.plan.now.schema) (asked_of job) first others → IsOutput (schema_view job.plan.now.schema) (asked_of job) output (others ++ chunks)

-- The same of the groups so far.
pub record DidAll (job : Job) (ms : List GroupMeta) (before now : Option (List (List Seen))) (output : Output) : Type 0 where
  pub chunks : List ArrayTrees
  pub sees : Sees before now (map seen_in chunks)
  pub read : HasRead job.options.now.chunk_size (fields_in job) (tree_in job) job.input.now job.place ms chunks
  pub output_is : IsOutput (schema_view job.plan.now.schema) (asked_of job) output chunks

-- a field of a group is refused so
abbrev pub RefusesGroup : Job → GroupMeta → Error → Type 0
RefusesGroup job m e = (e ≡ Memory) ⊎ SomeFieldIs job.input.now job.place (asked_of job) (fields_in job) (columns_of (tree_in job)) e m

abbrev pub RefusesSome : Job → Error → Type 0
RefusesSome job e = (e ≡ Memory) ⊎ AnyOf (SomeFieldIs job.input.now job.place (asked_of job) (fields_in job) (columns_of (tree_in job)) e) (metadata_view job.metadata.now).groups

-- ---- a piece

-- the arrays of the fields, of one length, and their slots
pub record IsPieceOf (job : Job) (piece : ArrayTrees) : Type 0 where
  pub typed : AreTyped (fields_in job) piece
  pub even : AreEven piece
  pub rows_are : All (AreOf (shapes_of (fields_in job))) (rows_of piece)
  pub some : 0 < first_len piece

-- a group of the piece behind those before
pub record PutsGroup (job : Job) (piece : ArrayTrees) (groups : List OutGroup) (writer : FileWriter PieceSink) : Type 0 where
  pub out : OutGroup
  pub written : IsWrittenAs (asked_of job) (fields_in job) piece out
  pub writes : IsWriting taken_by (Some []) writer (groups ++ out ∷ [])

-- ---- in the middle of a group

-- Of a group of so many rows some pieces were taken, shown and written, and so many rows are left.
pub record AtPiece (job : Job) (rows : ℕ) (m : GroupMeta) (iters : List FieldReading) (left : ℕ) (before now : Option (List (List Seen))) (first output : Output) : Type 0 where
  pub openings : List Opening
  pub opened : AreOpened job.input.now job.place rows job.options.now.chunk_size (fields_in job) (columns_of (tree_in job)) m.chunks openings
  pub chunks : List ArrayTrees
  pub under_way : IsUnderWay rows job.options.now.chunk_size openings iters chunks
  pub total : rows_in_chunks chunks + left ≡ rows
  pub sees : Sees before now (map seen_in chunks)
  pub output_is : (others : List ArrayTrees) → IsOutput (schema_view job.plan.now.schema) (asked_of job) first others → IsOutput (schema_view job.plan.now.schema) (asked_of job) output (others ++ chunks)

-- ---- the footer

-- A whole file of these groups, with these counts.
abbrev pub IsEnded : Codec → Job → List OutGroup → List ℕ → Report → Type 0
IsEnded codec job outs file report =
    Packed file (schema_of (fields_in job)) (keys_out codec (schema_view job.plan.now.schema) (metadata_view job.metadata.now).keys) (asked_of job).version outs
    × Counted outs (counts_of report)

-- The codec's length or the footer's room passes the format's sizes. Want of memory is free.
abbrev pub EndRefuses : Codec → Job → List OutGroup → Error → Type 0
EndRefuses codec job outs e =
    (e ≡ Memory)
    ⊎ ((e ≡ Overflow V3)
    × ((max_size < length (codec.bytes_of (schema_view job.plan.now.schema)))
    ⊎ (max_size < footer_room (planned_footer (schema_of (fields_in job)) (keys_out codec (schema_view job.plan.now.schema) (metadata_view job.metadata.now).keys) outs))))

-- the same of chunks
abbrev pub Finishes : Codec → Job → List ArrayTrees → List ℕ → Report → Type 0
Finishes codec job chunks file report = (outs : List OutGroup) × AllZip (IsWrittenAs (asked_of job) (fields_in job)) chunks outs × IsEnded codec job outs file report

abbrev pub FinishRefuses : Codec → Job → List ArrayTrees → Error → Type 0
FinishRefuses codec job chunks e =
    IsRefusedAt (asked_of job) (fields_in job) chunks e
    ⊎ ((outs : List OutGroup) × AllZip (IsWrittenAs (asked_of job) (fields_in job)) chunks outs × EndRefuses codec job outs e)
