use Rattle.read_leaves.proofs.column.KindColumn.next_piece.Goals as goal

pub returns-in-Boolean-clause-gives : goal.returns-in-Boolean-clause-gives
returns-in-Boolean-clause-gives g c o pieces r = rw c.in-Boolean.is (c.next_of.ensures.gives o pieces (rw c.in-Boolean.is at r))

pub returns-in-Null-clause-gives : goal.returns-in-Null-clause-gives
returns-in-Null-clause-gives g c o pieces r = rw c.in-Null.is (c.next_of-in-Null.ensures.gives o pieces (rw c.in-Null.is at r))

pub returns-in-Int8-clause-gives : goal.returns-in-Int8-clause-gives
returns-in-Int8-clause-gives g c o pieces r = rw c.in-Int8.is (c.next_of-in-Int8.ensures.gives o pieces (rw c.in-Int8.is at r))

pub returns-in-Int16-clause-gives : goal.returns-in-Int16-clause-gives
returns-in-Int16-clause-gives g c o pieces r = rw c.in-Int16.is (c.next_of-in-Int16.ensures.gives o pieces (rw c.in-Int16.is at r))

pub returns-in-Int32-clause-gives : goal.returns-in-Int32-clause-gives
returns-in-Int32-clause-gives g c o pieces r = rw c.in-Int32.is (c.next_of-in-Int32.ensures.gives o pieces (rw c.in-Int32.is at r))

pub returns-in-UInt8-clause-gives : goal.returns-in-UInt8-clause-gives
returns-in-UInt8-clause-gives g c o pieces r = rw c.in-UInt8.is (c.next_of-in-UInt8.ensures.gives o pieces (rw c.in-UInt8.is at r))

pub returns-in-UInt16-clause-gives : goal.returns-in-UInt16-clause-gives
returns-in-UInt16-clause-gives g c o pieces r = rw c.in-UInt16.is (c.next_of-in-UInt16.ensures.gives o pieces (rw c.in-UInt16.is at r))

pub returns-in-UInt32-clause-gives : goal.returns-in-UInt32-clause-gives
returns-in-UInt32-clause-gives g c o pieces r = rw c.in-UInt32.is (c.next_of-in-UInt32.ensures.gives o pieces (rw c.in-UInt32.is at r))

pub returns-in-Int64-clause-gives : goal.returns-in-Int64-clause-gives
returns-in-Int64-clause-gives g c o pieces r = rw c.in-Int64.is (c.next_of-in-Int64.ensures.gives o pieces (rw c.in-Int64.is at r))

pub returns-in-Decimal-clause-gives : goal.returns-in-Decimal-clause-gives
returns-in-Decimal-clause-gives g c o pieces r = rw c.in-Decimal.is (c.next_of-in-Decimal.ensures.gives o pieces (rw c.in-Decimal.is at r))

pub returns-in-WideDecimal-clause-gives : goal.returns-in-WideDecimal-clause-gives
returns-in-WideDecimal-clause-gives g c o pieces r = rw c.in-WideDecimal.is (c.next_of-in-WideDecimal.ensures.gives o pieces (rw c.in-WideDecimal.is at r))

pub returns-in-WideUInt32-clause-gives : goal.returns-in-WideUInt32-clause-gives
returns-in-WideUInt32-clause-gives g c o pieces r = rw c.in-WideUInt32.is (c.next_of-in-WideUInt32.ensures.gives o pieces (rw c.in-WideUInt32.is at r))

pub returns-in-UInt64-clause-gives : goal.returns-in-UInt64-clause-gives
returns-in-UInt64-clause-gives g c o pieces r = rw c.in-UInt64.is (c.next_of-in-UInt64.ensures.gives o pieces (rw c.in-UInt64.is at r))

pub returns-in-Utf8-clause-gives : goal.returns-in-Utf8-clause-gives
returns-in-Utf8-clause-gives g c o pieces r = rw c.in-Utf8.is (c.next_of-in-Utf8.ensures.gives o pieces (rw c.in-Utf8.is at r))

pub returns-in-LargeUtf8-clause-gives : goal.returns-in-LargeUtf8-clause-gives
returns-in-LargeUtf8-clause-gives g c o pieces r = rw c.in-LargeUtf8.is (c.next_of-in-LargeUtf8.ensures.gives o pieces (rw c.in-LargeUtf8.is at r))

pub returns-in-Binary-clause-gives : goal.returns-in-Binary-clause-gives
returns-in-Binary-clause-gives g c o pieces r = rw c.in-Binary.is (c.next_of-in-Binary.ensures.gives o pieces (rw c.in-Binary.is at r))

pub returns-in-LargeBinary-clause-gives : goal.returns-in-LargeBinary-clause-gives
returns-in-LargeBinary-clause-gives g c o pieces r = rw c.in-LargeBinary.is (c.next_of-in-LargeBinary.ensures.gives o pieces (rw c.in-LargeBinary.is at r))

pub returns-in-Months-clause-gives : goal.returns-in-Months-clause-gives
returns-in-Months-clause-gives g c o pieces r = rw c.in-Months.is (c.next_fixed-in-Months.ensures o pieces (rw c.in-Months.is at r))

pub returns-in-Days-clause-gives : goal.returns-in-Days-clause-gives
returns-in-Days-clause-gives g c o pieces r = rw c.in-Days.is (c.next_fixed-in-Days.ensures o pieces (rw c.in-Days.is at r))

pub returns-in-FixedDecimal-clause-gives : goal.returns-in-FixedDecimal-clause-gives
returns-in-FixedDecimal-clause-gives g c o pieces r = rw c.in-FixedDecimal.is (c.next_fixed.ensures o pieces (rw c.in-FixedDecimal.is at r))

pub returns-in-FixedSizeBinary-clause-gives : goal.returns-in-FixedSizeBinary-clause-gives
returns-in-FixedSizeBinary-clause-gives g c o pieces r = rw c.in-FixedSizeBinary.is (c.next_chunks.ensures.gives o pieces (rw c.in-FixedSizeBinary.is at r))
