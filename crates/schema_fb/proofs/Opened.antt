-- The views of objects, one level.
use Rattle.std.proofs.Common.{◌≡◌, ℕ, rules, Global, string_bytes}
use Rattle.std.specs.declared.vec.Vec.{Vec}
use Rattle.columns_core.specs.Tree.{field}
use Rattle.columns_core.specs.View.{type_view, field_view}
use Rattle.columns_core.specs.declared.types.Field.{Field, out-Field, fold_out-Field}
use Rattle.schema_fb.specs.Layout as layout
use Rattle.schema_fb.specs.declared.object.Cell.{Cell, Absent, Number, Below, the_lemmas}
use Rattle.schema_fb.specs.declared.object.Object.{Object, Vector, Table}
use Rattle.schema_fb.specs.Views.{cell_view, object_view, objects_view, cells_view}

pub vector_opened : (objects : Vec Object Global) → object_view (Vector objects) ≡ layout.vector (objects_view objects.items)
vector_opened objects = search (rules, the_lemmas)

pub table_opened : (cells : Vec Cell Global) → object_view (Table cells) ≡ layout.table (cells_view cells.items)
table_opened cells = search (rules, the_lemmas)

pub below_opened : (object : Object) → cell_view (Below object) ≡ layout.below (object_view object)
below_opened object = search (rules, the_lemmas)

pub number_opened : (n : ℕ) → cell_view (Number n) ≡ layout.number n
number_opened n = search (rules, the_lemmas)

pub absent_opened : cell_view Absent ≡ layout.absent
absent_opened = search (rules, the_lemmas)

pub field_opened : (f : Field) → field_view f ≡ field (string_bytes (out-Field f).name) (type_view (out-Field f).data_type) (out-Field f).is_nullable (out-Field f).metadata
field_opened f = search (rules, fold_out-Field)
