use Rattle.dictionary_leaves.proofs.kinds.entries_of.Goals as goal

pub returns-in-Boolean-clause-ok : goal.returns-in-Boolean-clause-ok
returns-in-Boolean-clause-ok c = rw c.in-Boolean.is c.entry_array.ensures.ok

pub returns-in-Boolean-clause-err : goal.returns-in-Boolean-clause-err
returns-in-Boolean-clause-err c = rw c.in-Boolean.is c.entry_array.ensures.err

pub returns-in-Null-clause-ok : goal.returns-in-Null-clause-ok
returns-in-Null-clause-ok c = rw c.in-Null.is c.entry_array-in-Null.ensures.ok

pub returns-in-Null-clause-err : goal.returns-in-Null-clause-err
returns-in-Null-clause-err c = rw c.in-Null.is c.entry_array-in-Null.ensures.err

pub returns-in-Int8-clause-ok : goal.returns-in-Int8-clause-ok
returns-in-Int8-clause-ok c = rw c.in-Int8.is c.number_entries.ensures.ok

pub returns-in-Int8-clause-err : goal.returns-in-Int8-clause-err
returns-in-Int8-clause-err c = rw c.in-Int8.is c.number_entries.ensures.err

pub returns-in-Int16-clause-ok : goal.returns-in-Int16-clause-ok
returns-in-Int16-clause-ok c = rw c.in-Int16.is c.number_entries-in-Int16.ensures.ok

pub returns-in-Int16-clause-err : goal.returns-in-Int16-clause-err
returns-in-Int16-clause-err c = rw c.in-Int16.is c.number_entries-in-Int16.ensures.err

pub returns-in-Int32-clause-ok : goal.returns-in-Int32-clause-ok
returns-in-Int32-clause-ok c = rw c.in-Int32.is c.number_entries-in-Int32.ensures.ok

pub returns-in-Int32-clause-err : goal.returns-in-Int32-clause-err
returns-in-Int32-clause-err c = rw c.in-Int32.is c.number_entries-in-Int32.ensures.err

pub returns-in-UInt8-clause-ok : goal.returns-in-UInt8-clause-ok
returns-in-UInt8-clause-ok c = rw c.in-UInt8.is c.number_entries-in-UInt8.ensures.ok

pub returns-in-UInt8-clause-err : goal.returns-in-UInt8-clause-err
returns-in-UInt8-clause-err c = rw c.in-UInt8.is c.number_entries-in-UInt8.ensures.err

pub returns-in-UInt16-clause-ok : goal.returns-in-UInt16-clause-ok
returns-in-UInt16-clause-ok c = rw c.in-UInt16.is c.number_entries-in-UInt16.ensures.ok

pub returns-in-UInt16-clause-err : goal.returns-in-UInt16-clause-err
returns-in-UInt16-clause-err c = rw c.in-UInt16.is c.number_entries-in-UInt16.ensures.err

pub returns-in-UInt32-clause-ok : goal.returns-in-UInt32-clause-ok
returns-in-UInt32-clause-ok c = rw c.in-UInt32.is c.number_entries-in-UInt32.ensures.ok

pub returns-in-UInt32-clause-err : goal.returns-in-UInt32-clause-err
returns-in-UInt32-clause-err c = rw c.in-UInt32.is c.number_entries-in-UInt32.ensures.err

pub returns-in-Int64-clause-ok : goal.returns-in-Int64-clause-ok
returns-in-Int64-clause-ok c = rw c.in-Int64.is c.number_entries-in-Int64.ensures.ok

pub returns-in-Int64-clause-err : goal.returns-in-Int64-clause-err
returns-in-Int64-clause-err c = rw c.in-Int64.is c.number_entries-in-Int64.ensures.err

pub returns-in-Decimal-clause-ok : goal.returns-in-Decimal-clause-ok
returns-in-Decimal-clause-ok c = rw c.in-Decimal.is c.number_entries-in-Decimal.ensures.ok

pub returns-in-Decimal-clause-err : goal.returns-in-Decimal-clause-err
returns-in-Decimal-clause-err c = rw c.in-Decimal.is c.number_entries-in-Decimal.ensures.err

pub returns-in-WideDecimal-clause-ok : goal.returns-in-WideDecimal-clause-ok
returns-in-WideDecimal-clause-ok c = rw c.in-WideDecimal.is c.number_entries-in-WideDecimal.ensures.ok

pub returns-in-WideDecimal-clause-err : goal.returns-in-WideDecimal-clause-err
returns-in-WideDecimal-clause-err c = rw c.in-WideDecimal.is c.number_entries-in-WideDecimal.ensures.err

pub returns-in-WideUInt32-clause-ok : goal.returns-in-WideUInt32-clause-ok
returns-in-WideUInt32-clause-ok c = rw c.in-WideUInt32.is c.number_entries-in-WideUInt32.ensures.ok

pub returns-in-WideUInt32-clause-err : goal.returns-in-WideUInt32-clause-err
returns-in-WideUInt32-clause-err c = rw c.in-WideUInt32.is c.number_entries-in-WideUInt32.ensures.err

pub returns-in-UInt64-clause-ok : goal.returns-in-UInt64-clause-ok
returns-in-UInt64-clause-ok c = rw c.in-UInt64.is c.number_entries-in-UInt64.ensures.ok

pub returns-in-UInt64-clause-err : goal.returns-in-UInt64-clause-err
returns-in-UInt64-clause-err c = rw c.in-UInt64.is c.number_entries-in-UInt64.ensures.err

pub returns-in-Utf8-clause-ok : goal.returns-in-Utf8-clause-ok
returns-in-Utf8-clause-ok c = rw c.in-Utf8.is c.entry_array-in-Utf8.ensures.ok

pub returns-in-Utf8-clause-err : goal.returns-in-Utf8-clause-err
returns-in-Utf8-clause-err c = rw c.in-Utf8.is c.entry_array-in-Utf8.ensures.err

pub returns-in-LargeUtf8-clause-ok : goal.returns-in-LargeUtf8-clause-ok
returns-in-LargeUtf8-clause-ok c = rw c.in-LargeUtf8.is c.entry_array-in-LargeUtf8.ensures.ok

pub returns-in-LargeUtf8-clause-err : goal.returns-in-LargeUtf8-clause-err
returns-in-LargeUtf8-clause-err c = rw c.in-LargeUtf8.is c.entry_array-in-LargeUtf8.ensures.err

pub returns-in-Binary-clause-ok : goal.returns-in-Binary-clause-ok
returns-in-Binary-clause-ok c = rw c.in-Binary.is c.entry_array-in-Binary.ensures.ok

pub returns-in-Binary-clause-err : goal.returns-in-Binary-clause-err
returns-in-Binary-clause-err c = rw c.in-Binary.is c.entry_array-in-Binary.ensures.err

pub returns-in-LargeBinary-clause-ok : goal.returns-in-LargeBinary-clause-ok
returns-in-LargeBinary-clause-ok c = rw c.in-LargeBinary.is c.entry_array-in-LargeBinary.ensures.ok

pub returns-in-LargeBinary-clause-err : goal.returns-in-LargeBinary-clause-err
returns-in-LargeBinary-clause-err c = rw c.in-LargeBinary.is c.entry_array-in-LargeBinary.ensures.err

pub returns-in-FixedDecimal-clause-ok : goal.returns-in-FixedDecimal-clause-ok
returns-in-FixedDecimal-clause-ok c = rw c.in-FixedDecimal.is c.fixed_entries.ensures.ok

pub returns-in-FixedDecimal-clause-err : goal.returns-in-FixedDecimal-clause-err
returns-in-FixedDecimal-clause-err c = rw c.in-FixedDecimal.is c.fixed_entries.ensures.err

pub returns-in-Months-clause-ok : goal.returns-in-Months-clause-ok
returns-in-Months-clause-ok c = rw c.in-Months.is c.fixed_entries-in-Months.ensures.ok

pub returns-in-Months-clause-err : goal.returns-in-Months-clause-err
returns-in-Months-clause-err c = rw c.in-Months.is c.fixed_entries-in-Months.ensures.err

pub returns-in-Days-clause-ok : goal.returns-in-Days-clause-ok
returns-in-Days-clause-ok c = rw c.in-Days.is c.fixed_entries-in-Days.ensures.ok

pub returns-in-Days-clause-err : goal.returns-in-Days-clause-err
returns-in-Days-clause-err c = rw c.in-Days.is c.fixed_entries-in-Days.ensures.err

pub returns-in-FixedSizeBinary-clause-ok : goal.returns-in-FixedSizeBinary-clause-ok
returns-in-FixedSizeBinary-clause-ok c = rw c.in-FixedSizeBinary.is c.chunk_entries.ensures.ok

pub returns-in-FixedSizeBinary-clause-err : goal.returns-in-FixedSizeBinary-clause-err
returns-in-FixedSizeBinary-clause-err c = rw c.in-FixedSizeBinary.is c.chunk_entries.ensures.err
