-- Parts of objects that are written by themselves.
use Rattle.std.specs.Prelude.{ℕ, ◌+◌, ◌*◌, List}
use Rattle.schema_fb.specs.Layout.{Cells, Objects, count, offsets, table_size, cells_bytes}

-- offsets to objects that stand so many bytes behind the last offset
abbrev pub offsets_behind : ℕ → Objects → List ℕ
offsets_behind between os = offsets 0 (4 * count os + between) os

-- the slots of a table, where what they point at stands behind the last one
abbrev pub slots_bytes : Cells → List ℕ
slots_bytes cells = cells_bytes 8 (table_size cells) cells
