use Rattle.read_leaves.proofs.column.KindColumn.new.Goals.{in-Boolean+in_ok-read-in-Boolean, in-Null+in_ok-read-in-Null, in-Int8+in_ok-read-in-Int8, in-Int16+in_ok-read-in-Int16, in-Int32+in_ok-read-in-Int32, in-UInt8+in_ok-read-in-UInt8, in-UInt16+in_ok-read-in-UInt16, in-UInt32+in_ok-read-in-UInt32, in-Int64+in_ok-read-in-Int64, in-Decimal+in_ok-read-in-Decimal, in-WideDecimal+in_ok-read-in-WideDecimal, in-WideUInt32+in_ok-read-in-WideUInt32, in-UInt64+in_ok-read-in-UInt64, in-Utf8+in_ok-read-in-Utf8, in-LargeUtf8+in_ok-read-in-LargeUtf8, in-Binary+in_ok-read-in-Binary, in-LargeBinary+in_ok-read-in-LargeBinary, in-FixedDecimal+in_ok-read-in-FixedDecimal, in-Months+in_ok-read-in-Months, in-Days+in_ok-read-in-Days, in-FixedSizeBinary+in_ok-read-in-FixedSizeBinary}
use Rattle.read_leaves.proofs.column.KindColumn.new.Goals as goal

pub returns-clause-reads : goal.returns-clause-reads
returns-clause-reads g c o readable physical outcomes way rows size = elim c.match-kind.branch [
  | in-Boolean+in_ok-read-in-Boolean w ↦ rw (w.in-Boolean.is, w.result-is) (w.in_ok-read-in-Boolean.ensures.reads o _ _ (rw w.in-Boolean.is at readable) physical outcomes way rows size)
  | in-Null+in_ok-read-in-Null w ↦ rw (w.in-Null.is, w.result-is) (w.in_ok-read-in-Null.ensures.reads o _ _ (rw w.in-Null.is at readable) physical outcomes way rows size)
  | in-Int8+in_ok-read-in-Int8 w ↦ rw (w.in-Int8.is, w.result-is) (w.in_ok-read-in-Int8.ensures.reads o _ _ (rw w.in-Int8.is at readable) physical outcomes way rows size)
  | in-Int16+in_ok-read-in-Int16 w ↦ rw (w.in-Int16.is, w.result-is) (w.in_ok-read-in-Int16.ensures.reads o _ _ (rw w.in-Int16.is at readable) physical outcomes way rows size)
  | in-Int32+in_ok-read-in-Int32 w ↦ rw (w.in-Int32.is, w.result-is) (w.in_ok-read-in-Int32.ensures.reads o _ _ (rw w.in-Int32.is at readable) physical outcomes way rows size)
  | in-UInt8+in_ok-read-in-UInt8 w ↦ rw (w.in-UInt8.is, w.result-is) (w.in_ok-read-in-UInt8.ensures.reads o _ _ (rw w.in-UInt8.is at readable) physical outcomes way rows size)
  | in-UInt16+in_ok-read-in-UInt16 w ↦ rw (w.in-UInt16.is, w.result-is) (w.in_ok-read-in-UInt16.ensures.reads o _ _ (rw w.in-UInt16.is at readable) physical outcomes way rows size)
  | in-UInt32+in_ok-read-in-UInt32 w ↦ rw (w.in-UInt32.is, w.result-is) (w.in_ok-read-in-UInt32.ensures.reads o _ _ (rw w.in-UInt32.is at readable) physical outcomes way rows size)
  | in-Int64+in_ok-read-in-Int64 w ↦ rw (w.in-Int64.is, w.result-is) (w.in_ok-read-in-Int64.ensures.reads o _ _ (rw w.in-Int64.is at readable) physical outcomes way rows size)
  | in-Decimal+in_ok-read-in-Decimal w ↦ rw (w.in-Decimal.is, w.result-is) (w.in_ok-read-in-Decimal.ensures.reads o _ _ (rw w.in-Decimal.is at readable) physical outcomes way rows size)
  | in-WideDecimal+in_ok-read-in-WideDecimal w ↦ rw (w.in-WideDecimal.is, w.result-is) (w.in_ok-read-in-WideDecimal.ensures.reads o _ _ (rw w.in-WideDecimal.is at readable) physical outcomes way rows size)
  | in-WideUInt32+in_ok-read-in-WideUInt32 w ↦ rw (w.in-WideUInt32.is, w.result-is) (w.in_ok-read-in-WideUInt32.ensures.reads o _ _ (rw w.in-WideUInt32.is at readable) physical outcomes way rows size)
  | in-UInt64+in_ok-read-in-UInt64 w ↦ rw (w.in-UInt64.is, w.result-is) (w.in_ok-read-in-UInt64.ensures.reads o _ _ (rw w.in-UInt64.is at readable) physical outcomes way rows size)
  | in-Utf8+in_ok-read-in-Utf8 w ↦ rw (w.in-Utf8.is, w.result-is) (w.in_ok-read-in-Utf8.ensures.reads o _ _ (rw w.in-Utf8.is at readable) physical outcomes way rows size)
  | in-LargeUtf8+in_ok-read-in-LargeUtf8 w ↦ rw (w.in-LargeUtf8.is, w.result-is) (w.in_ok-read-in-LargeUtf8.ensures.reads o _ _ (rw w.in-LargeUtf8.is at readable) physical outcomes way rows size)
  | in-Binary+in_ok-read-in-Binary w ↦ rw (w.in-Binary.is, w.result-is) (w.in_ok-read-in-Binary.ensures.reads o _ _ (rw w.in-Binary.is at readable) physical outcomes way rows size)
  | in-LargeBinary+in_ok-read-in-LargeBinary w ↦ rw (w.in-LargeBinary.is, w.result-is) (w.in_ok-read-in-LargeBinary.ensures.reads o _ _ (rw w.in-LargeBinary.is at readable) physical outcomes way rows size)
  | in-FixedDecimal+in_ok-read-in-FixedDecimal w ↦ rw (w.in-FixedDecimal.is, w.result-is) (w.in_ok-read-in-FixedDecimal.ensures.reads o _ _ (rw w.in-FixedDecimal.is at readable) physical outcomes way rows size)
  | in-Months+in_ok-read-in-Months w ↦ rw (w.in-Months.is, w.result-is) (w.in_ok-read-in-Months.ensures.reads o _ _ (rw w.in-Months.is at readable) physical outcomes way rows size)
  | in-Days+in_ok-read-in-Days w ↦ rw (w.in-Days.is, w.result-is) (w.in_ok-read-in-Days.ensures.reads o _ _ (rw w.in-Days.is at readable) physical outcomes way rows size)
  | in-FixedSizeBinary+in_ok-read-in-FixedSizeBinary w ↦ rw (w.in-FixedSizeBinary.is, w.result-is) (w.in_ok-read-in-FixedSizeBinary.ensures.reads o _ _ (rw w.in-FixedSizeBinary.is at readable) physical outcomes way rows size)
]

pub returns-clause-sized : goal.returns-clause-sized
returns-clause-sized g c = elim c.match-kind.branch [
  | in-Boolean+in_ok-read-in-Boolean w ↦ rw w.result-is tt
  | in-Null+in_ok-read-in-Null w ↦ rw w.result-is tt
  | in-Int8+in_ok-read-in-Int8 w ↦ rw w.result-is tt
  | in-Int16+in_ok-read-in-Int16 w ↦ rw w.result-is tt
  | in-Int32+in_ok-read-in-Int32 w ↦ rw w.result-is tt
  | in-UInt8+in_ok-read-in-UInt8 w ↦ rw w.result-is tt
  | in-UInt16+in_ok-read-in-UInt16 w ↦ rw w.result-is tt
  | in-UInt32+in_ok-read-in-UInt32 w ↦ rw w.result-is tt
  | in-Int64+in_ok-read-in-Int64 w ↦ rw w.result-is tt
  | in-Decimal+in_ok-read-in-Decimal w ↦ rw w.result-is tt
  | in-WideDecimal+in_ok-read-in-WideDecimal w ↦ rw w.result-is tt
  | in-WideUInt32+in_ok-read-in-WideUInt32 w ↦ rw w.result-is tt
  | in-UInt64+in_ok-read-in-UInt64 w ↦ rw w.result-is tt
  | in-Utf8+in_ok-read-in-Utf8 w ↦ rw w.result-is tt
  | in-LargeUtf8+in_ok-read-in-LargeUtf8 w ↦ rw w.result-is tt
  | in-Binary+in_ok-read-in-Binary w ↦ rw w.result-is tt
  | in-LargeBinary+in_ok-read-in-LargeBinary w ↦ rw w.result-is tt
  | in-FixedDecimal+in_ok-read-in-FixedDecimal w ↦ rw w.result-is tt
  | in-Months+in_ok-read-in-Months w ↦ rw w.result-is tt
  | in-Days+in_ok-read-in-Days w ↦ rw w.result-is tt
  | in-FixedSizeBinary+in_ok-read-in-FixedSizeBinary w ↦ rw w.result-is w.in_ok-read-in-FixedSizeBinary.ensures.suits
]
