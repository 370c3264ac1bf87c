-- What each iterator keeps.
use Rattle.columns_core.specs.View.{type_view}
use Rattle.struct_iters.specs.Items.{ItemsReading}
use Rattle.struct_iters.specs.declared.columns_iter.ColumnsIter.{ColumnsIter}
use Rattle.struct_iters.specs.declared.nested.NestedArrayIter.{NestedArrayIter}
use Rattle.struct_iters.specs.declared.nested.NestedArrayIter.TheVariants as N
use Rattle.struct_iters.specs.declared.struct_iter.StructIterator.{StructIterator}

abbrev pub columns_in : {I : Type 0} → ColumnsIter I → ItemsReading
columns_in it = record { type = type_view it.data_type; readers = it.columns.items }

abbrev pub struct_in : {I : Type 0} → StructIterator I → ItemsReading
struct_in it = columns_in it.children

abbrev pub items_in : {I : Type 0} → NestedArrayIter I → ItemsReading
items_in (N.Columns it) = columns_in it
items_in (N.Struct it) = struct_in it
