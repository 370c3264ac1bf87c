-- Tables, texts and vectors as bytes (FlatBuffers, "Internals"): each begins at a multiple of 8, and what its slots point at stands behind it, in the order of the slots.
use Rattle.std.specs.Prelude.{ℕ, suc, ℤ, ◌+◌, ◌-◌, ◌*◌, ◌%◌, ◌^◌, List, [], ◌∷◌, ◌++◌, length, replicate, flat_map}
use Rattle.std.specs.Int.{w16, to_le_bytes}
use Rattle.schema_codec.specs.Spelling.{count_bytes, size_bytes, id_bytes}

mutual
  -- what a slot of a table holds: nothing, a number, or where another object stands
  pub data Cell : Type 0 where
    absent : Cell
    number : ℕ → Cell
    below : Object → Cell

  pub data Cells : Type 0 where
    no_cells : Cells
    more_cells : Cell → Cells → Cells

  -- a text, a vector of signed numbers, a vector of objects, a table
  pub data Object : Type 0 where
    text : List ℕ → Object
    numbers : List ℤ → Object
    vector : Objects → Object
    table : Cells → Object

  pub data Objects : Type 0 where
    no_objects : Objects
    more_objects : Object → Objects → Objects

abbrev pub slots : Cells → ℕ
slots no_cells = 0
slots (more_cells c cs) = suc (slots cs)

abbrev pub count : Objects → ℕ
count no_objects = 0
count (more_objects o os) = suc (count os)

-- a number of two bytes, the lowest first: its low 16 bits
unfoldable pub short_bytes : ℕ → List ℕ
short_bytes n = to_le_bytes w16 (n % 2 ^ 16)

-- how many zero bytes lead from a length to the next multiple of 8
abbrev pub gap : ℕ → ℕ
gap n = (8 - n % 8) % 8

abbrev pub padded : List ℕ → List ℕ
padded bytes = bytes ++ replicate (gap (length bytes)) 0

-- ---- a table stands behind its vtable

-- where a slot stands in its table, 0 for one that is absent
abbrev pub entry : ℕ → Cell → ℕ
entry place absent = 0
entry place (number n) = place
entry place (below o) = place

-- the entries of the slots from the place on, each slot in 8 bytes
abbrev pub entries : ℕ → Cells → List ℕ
entries place no_cells = []
entries place (more_cells c cs) = short_bytes (entry place c) ++ entries (place + 8) cs

-- how many bytes the offset to the vtable and the slots take
abbrev pub table_size : Cells → ℕ
table_size cells = 8 * suc (slots cells)

-- its own size, the size of its table, and an entry a slot
abbrev pub vtable : Cells → List ℕ
vtable cells = short_bytes (4 + 2 * slots cells) ++ short_bytes (table_size cells) ++ entries 8 cells

-- how many bytes of an object stand before the place that an offset to it means
abbrev pub front : Object → ℕ
front (text _) = 0
front (numbers _) = 0
front (vector _) = 0
front (table cells) = length (padded (vtable cells))

-- ---- objects

-- an offset counts from its own place: from the slot to what begins at the start
abbrev pub offset : ℕ → ℕ → Object → List ℕ
offset slot start o = count_bytes (start + front o - slot)

abbrev mutual
  pub object_bytes : Object → List ℕ
  -- the length, the bytes and a zero byte
  object_bytes (text bytes) = padded (count_bytes (length bytes) ++ bytes ++ 0 ∷ [])
  object_bytes (numbers ids) = padded (count_bytes (length ids) ++ flat_map id_bytes ids)
  -- the count and an offset an object; the objects
  object_bytes (vector objects) = padded (count_bytes (count objects) ++ offsets 4 (4 + 4 * count objects + gap (4 + 4 * count objects)) objects) ++ objects_bytes objects
  -- the vtable; how far it stands before the table, and a cell a slot; what the slots point at
  object_bytes (table cells) = padded (vtable cells) ++ size_bytes (length (padded (vtable cells))) ++ cells_bytes 8 (table_size cells) cells ++ below_bytes cells

  -- the offsets of objects that stand from the start on; the first offset stands in the slot
  pub offsets : ℕ → ℕ → Objects → List ℕ
  offsets slot start no_objects = []
  offsets slot start (more_objects o os) = offset slot start o ++ offsets (slot + 4) (start + length (object_bytes o)) os

  pub objects_bytes : Objects → List ℕ
  objects_bytes no_objects = []
  objects_bytes (more_objects o os) = object_bytes o ++ objects_bytes os

  -- the cells from the slot on, of 8 bytes each, where what they point at stands from the start on
  pub cells_bytes : ℕ → ℕ → Cells → List ℕ
  cells_bytes slot start no_cells = []
  cells_bytes slot start (more_cells absent cs) = size_bytes 0 ++ cells_bytes (slot + 8) start cs
  cells_bytes slot start (more_cells (number n) cs) = size_bytes n ++ cells_bytes (slot + 8) start cs
  cells_bytes slot start (more_cells (below o) cs) = padded (offset slot start o) ++ cells_bytes (slot + 8) (start + length (object_bytes o)) cs

  pub below_bytes : Cells → List ℕ
  below_bytes no_cells = []
  below_bytes (more_cells absent cs) = below_bytes cs
  below_bytes (more_cells (number n) cs) = below_bytes cs
  below_bytes (more_cells (below o) cs) = object_bytes o ++ below_bytes cs
