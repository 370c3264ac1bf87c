-- The entries of a column's arrays by the chunk that its pages hold (Parquet format, "Dictionary Page").
use Rattle.std.specs.Prelude.{List, Option}
use Rattle.pq_files.specs.Carried.{column_in}
use Rattle.pq_files.specs.Chunk.{Chunk}
use Rattle.pq_headline.specs.Rows.{AreEntriesFor}
use Rattle.pq_pages.specs.Held.{HoldsChunk}
use Rattle.read_pieces.specs.Columns.{ColumnOpening}
use Rattle.shredding.specs.Slot.{Value}
use Rattle.read_columns.specs.Columns.{AreEntriesOf}

-- they are those of the chunk
abbrev pub EntriesAreHeld : Type 0
EntriesAreHeld = (o : ColumnOpening) (e : Option (List (Option Value))) (chunk : Chunk) → HoldsChunk o.leaf o.outcomes chunk → AreEntriesOf o e → AreEntriesFor o.column o.leaf (column_in chunk) e
