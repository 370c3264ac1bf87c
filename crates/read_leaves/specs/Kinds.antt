-- The reader of a column of each kind.
use Rattle.std.specs.Prelude.{◌≡◌}
use Rattle.read_column.specs.Queues.{IsSuited}
use Rattle.read_column.specs.Reading.{Reading}
use Rattle.read_types.specs.declared.kind.LeafKind.{LeafKind}
use Rattle.read_types.specs.declared.kind.LeafKind.TheVariants as K
use Rattle.read_leaves.specs.declared.column.KindColumn.{KindColumn}
use Rattle.read_leaves.specs.declared.column.KindColumn.TheVariants as C

abbrev pub kind_in : {I : Type 0} → KindColumn I → LeafKind
kind_in (C.Boolean r) = K.Boolean
kind_in (C.Null r) = K.Null
kind_in (C.Int8 r) = K.Int8
kind_in (C.Int16 r) = K.Int16
kind_in (C.Int32 r) = K.Int32
kind_in (C.UInt8 r) = K.UInt8
kind_in (C.UInt16 r) = K.UInt16
kind_in (C.UInt32 r) = K.UInt32
kind_in (C.Int64 r) = K.Int64
kind_in (C.Decimal r) = K.Decimal
kind_in (C.WideDecimal r) = K.WideDecimal
kind_in (C.WideUInt32 r) = K.WideUInt32
kind_in (C.UInt64 r) = K.UInt64
kind_in (C.Utf8 r) = K.Utf8
kind_in (C.LargeUtf8 r) = K.LargeUtf8
kind_in (C.Binary r) = K.Binary
kind_in (C.LargeBinary r) = K.LargeBinary
kind_in (C.FixedDecimal r n) = K.FixedDecimal n
kind_in (C.Months r) = K.Months
kind_in (C.Days r) = K.Days
kind_in (C.FixedSizeBinary r n) = K.FixedSizeBinary n

abbrev pub reader_in : {I : Type 0} → KindColumn I → Reading
reader_in (C.Boolean r) = r.value
reader_in (C.Null r) = r.value
reader_in (C.Int8 r) = r.value
reader_in (C.Int16 r) = r.value
reader_in (C.Int32 r) = r.value
reader_in (C.UInt8 r) = r.value
reader_in (C.UInt16 r) = r.value
reader_in (C.UInt32 r) = r.value
reader_in (C.Int64 r) = r.value
reader_in (C.Decimal r) = r.value
reader_in (C.WideDecimal r) = r.value
reader_in (C.WideUInt32 r) = r.value
reader_in (C.UInt64 r) = r.value
reader_in (C.Utf8 r) = r.value
reader_in (C.LargeUtf8 r) = r.value
reader_in (C.Binary r) = r.value
reader_in (C.LargeBinary r) = r.value
reader_in (C.FixedDecimal r n) = r.value
reader_in (C.Months r) = r.value
reader_in (C.Days r) = r.value
reader_in (C.FixedSizeBinary r n) = r.value

-- what its reader holds of byte strings of one size has the size of the kind
abbrev pub IsSized : LeafKind → Reading → Type 0
IsSized (K.FixedSizeBinary n) r = IsSuited (λ w. w ≡ n) r.queue
IsSized k r = Unit {0}
