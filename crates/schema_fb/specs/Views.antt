-- The object that a value in memory stands for.
use Rattle.std.specs.Prelude.{List, [], ◌∷◌, map, string_bytes}
use Rattle.schema_fb.specs.Layout as layout
use Rattle.schema_fb.specs.declared.object.Cell.{Cell, fold-Cell}
use Rattle.schema_fb.specs.declared.object.Cell.TheOpen.{Cell-F, Object-F}
use Rattle.schema_fb.specs.declared.object.Object.{Object, fold-Object}

abbrev pub cells_of : List layout.Cell → layout.Cells
cells_of [] = layout.no_cells
cells_of (c ∷ cs) = layout.more_cells c (cells_of cs)

abbrev pub objects_of : List layout.Object → layout.Objects
objects_of [] = layout.no_objects
objects_of (o ∷ os) = layout.more_objects o (objects_of os)

-- one level, with each cell and object inside already seen as what it stands for
abbrev pub cell_step : Cell-F layout.Cell layout.Object → layout.Cell
cell_step Cell-F.Absent = layout.absent
cell_step (Cell-F.Number n) = layout.number n
cell_step (Cell-F.Below o) = layout.below o

abbrev pub object_step : Object-F layout.Cell layout.Object → layout.Object
object_step (Object-F.Text text) = layout.text text.now
object_step (Object-F.Owned text) = layout.text (string_bytes text)
object_step (Object-F.Numbers ids) = layout.numbers ids.now
object_step (Object-F.Vector objects) = layout.vector (objects_of objects.items)
object_step (Object-F.Table cells) = layout.table (cells_of cells.items)

abbrev pub cell_view : Cell → layout.Cell
cell_view = fold-Cell layout.Cell layout.Object cell_step object_step

abbrev pub object_view : Object → layout.Object
object_view = fold-Object layout.Cell layout.Object cell_step object_step

abbrev pub cells_view : List Cell → layout.Cells
cells_view cells = cells_of (map cell_view cells)

abbrev pub objects_view : List Object → layout.Objects
objects_view objects = objects_of (map object_view objects)
