-- Fields that are assembled side by side, and what is written of them.
use Rattle.std.specs.Prelude.{◌≡◌, ◌<◌, ◌⊎◌, ℕ, zero, suc, List, [], ◌∷◌, ◌++◌, map, length, Option, None, Some}
use Rattle.std.specs.List.{AllZip}
use Rattle.columns_base.specs.declared.error.Error.{Error}
use Rattle.columns_base.specs.declared.error.Error.TheVariants.{Memory}
use Rattle.columns_core.specs.Tree.{FieldTrees}
use Rattle.columns_core.specs.View.{SchemaTree, schema_view}
use Rattle.columns_slots.specs.Tree.{ArrayTree, ArrayTrees}
use Rattle.pq_files.specs.Layout.{OutGroup}
use Rattle.pq_files.specs.Reasons.{AnyOf}
use Rattle.pq_io.specs.PieceSinks.{pieces_taken}
use Rattle.pq_io.specs.declared.piece_sink.PieceSink.{PieceSink}
use Rattle.assembly.specs.Giving.{FieldReading, IsGiving}
use Rattle.write_groups.specs.Writing.{IsWriting}
use Rattle.write_groups.specs.declared.writer.FileWriter.{FileWriter}
use Rattle.write_pages.specs.declared.options.WriteOptions.{WriteOptions}
use Rattle.pq_tree.specs.declared.types.CompressionOptions.TheVariants.{Uncompressed}
use Rattle.pq_headline.specs.Opened.{AreItems, AreChunksFrom, rows_in_chunks}
use Rattle.pq_headline.specs.Openings.{Opening, IsItem, Assembled}
use Rattle.pq_headline.specs.Arrays.{array_at}
use Rattle.pq_headline.specs.FieldReasons.{Refuses}
use Rattle.pq_headline.specs.Rewrites.{Asked}
use Rattle.pq_headline.specs.Written.{IsRefusedAt, IsWrittenAs}
use Rattle.rewrite_whole.specs.declared.output.Output.{Output}

-- Each iterator has given the arrays of these chunks at its place.
abbrev pub AreGiving : ℕ → List Opening → List FieldReading → List ArrayTrees → Type 0
AreGiving i [] [] chunks = Unit {0}
AreGiving i (o ∷ os) (iter ∷ iters) chunks = IsGiving o (map (array_at i) chunks) iter × AreGiving (suc i) os iters chunks
AreGiving i _ _ chunks = ⊥

-- The first ones have given an array more, behind so many rows.
abbrev pub AreStepped : ℕ → ℕ → List Opening → List FieldReading → List ArrayTree → List ArrayTrees → Type 0
AreStepped i before os iters [] chunks = AreGiving i os iters chunks
AreStepped i before (o ∷ os) (iter ∷ iters) (a ∷ arrays) chunks = IsItem o before a × IsGiving o (map (array_at i) chunks ++ a ∷ []) iter × AreStepped (suc i) before os iters arrays chunks
AreStepped i before _ _ (a ∷ arrays) chunks = ⊥

-- The first ones, so many, have ended.
abbrev pub AreEnded : ℕ → ℕ → List Opening → List FieldReading → List ArrayTrees → Type 0
AreEnded i zero os iters chunks = AreGiving i os iters chunks
AreEnded i (suc k) (o ∷ os) (iter ∷ iters) chunks = Assembled o (map (array_at i) chunks) × AreEnded (suc i) k os iters chunks
AreEnded i (suc k) _ _ chunks = ⊥

-- the openings are of one group, of so many rows
abbrev pub AreSame : ℕ → Option ℕ → List Opening → Type 0
AreSame rows n [] = Unit {0}
AreSame rows n (o ∷ os) = (o.rows ≡ rows) × (o.chunk_size ≡ n) × AreSame rows n os

-- Of a group these chunks were given, and of so many rows are left to come.
pub record IsUnderWay (rows : ℕ) (n : Option ℕ) (os : List Opening) (iters : List FieldReading) (chunks : List ArrayTrees) : Type 0 where
  pub same : AreSame rows n os
  pub some : 0 < length os
  pub are : AreChunksFrom 0 os chunks
  pub giving : AreGiving 0 os iters chunks

abbrev pub RefusesAny : List Opening → Error → Type 0
RefusesAny os e = (e ≡ Memory) ⊎ AnyOf (λ o. Refuses o e) os

-- What a call says that takes a piece.
abbrev pub TakesPiece : ℕ → Option ℕ → List Opening → List FieldReading → List ArrayTrees → ArrayTrees → Type 0
TakesPiece rows n os iters chunks piece = AreItems (rows_in_chunks chunks) os piece × IsUnderWay rows n os iters (chunks ++ piece ∷ [])

-- ---- the output

abbrev pub taken_by : PieceSink → Option (List ℕ)
taken_by s = Some (pieces_taken s)

-- how pages are written
abbrev pub write_options : Asked → WriteOptions
write_options asked = record { write_statistics = asked.style.statistics; version = asked.version; compression = Uncompressed; data_pagesize_limit = Some asked.style.page_limit }

-- The chunks are written as groups; or one of them is refused, and nothing is written since.
abbrev pub HoldsChunks : Asked → FieldTrees → FileWriter PieceSink → Option Error → List ArrayTrees → Type 0
HoldsChunks asked fs writer None chunks = (outs : List OutGroup) × AllZip (IsWrittenAs asked fs) chunks outs × IsWriting taken_by (Some []) writer outs
HoldsChunks asked fs writer (Some e) chunks = IsRefusedAt asked fs chunks e

-- The output in the making, of these chunks.
pub record IsOutput (schema : SchemaTree) (asked : Asked) (output : Output) (chunks : List ArrayTrees) : Type 0 where
  pub schema_is : schema_view output.writer.file.schema ≡ schema
  pub options_are : output.writer.options ≡ write_options asked
  pub holds : HoldsChunks asked schema.fields output.writer output.refusal chunks
