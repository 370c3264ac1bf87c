use Rattle.columns_core.specs.Shapes.{base}
use Rattle.write_values.proofs.IntervalPlaces.{served_unordered}
use Rattle.write_values.proofs.statistics.all_statistics.Goals as goal

pub returns-in-Int8-clause-ok : goal.returns-in-Int8-clause-ok
returns-in-Int8-clause-ok c = rw c.in-Int8.is (rw c.new.ensures at c.column_statistics-in-Int8.ensures.ok)

pub returns-in-Int16-clause-ok : goal.returns-in-Int16-clause-ok
returns-in-Int16-clause-ok c = rw c.in-Int16.is (rw c.new-in-Int16.ensures at c.column_statistics-in-Int16.ensures.ok)

pub returns-in-Int32-clause-ok : goal.returns-in-Int32-clause-ok
returns-in-Int32-clause-ok c = rw c.in-Int32.is (rw c.new-in-Int32.ensures at c.column_statistics-in-Int32.ensures.ok)

pub returns-in-UInt8-clause-ok : goal.returns-in-UInt8-clause-ok
returns-in-UInt8-clause-ok c = rw c.in-UInt8.is (rw c.new-in-UInt8.ensures at c.column_statistics-in-UInt8.ensures.ok)

pub returns-in-UInt16-clause-ok : goal.returns-in-UInt16-clause-ok
returns-in-UInt16-clause-ok c = rw c.in-UInt16.is (rw c.new-in-UInt16.ensures at c.column_statistics-in-UInt16.ensures.ok)

pub returns-in-UInt32-clause-ok : goal.returns-in-UInt32-clause-ok
returns-in-UInt32-clause-ok c = rw c.in-UInt32.is (rw c.new-in-UInt32.ensures at c.column_statistics-in-UInt32.ensures.ok)

pub returns-in-WideUInt32-clause-ok : goal.returns-in-WideUInt32-clause-ok
returns-in-WideUInt32-clause-ok c = rw c.in-WideUInt32.is (rw c.new-in-WideUInt32.ensures at c.column_statistics-in-WideUInt32.ensures.ok)

pub returns-in-Int64-clause-ok : goal.returns-in-Int64-clause-ok
returns-in-Int64-clause-ok c = rw c.in-Int64.is (rw c.new-in-Int64.ensures at c.column_statistics-in-Int64.ensures.ok)

pub returns-in-UInt64-clause-ok : goal.returns-in-UInt64-clause-ok
returns-in-UInt64-clause-ok c = rw c.in-UInt64.is (rw c.new-in-UInt64.ensures at c.column_statistics-in-UInt64.ensures.ok)

pub returns-in-FixedSizeBinary-clause-ok : goal.returns-in-FixedSizeBinary-clause-ok
returns-in-FixedSizeBinary-clause-ok c = rw c.in-FixedSizeBinary.is (rw c.new-in-FixedSizeBinary.ensures.array at c.column_statistics-in-FixedSizeBinary.ensures.ok)

pub null_statistics-requires-clause-unordered : goal.null_statistics-requires-clause-unordered
null_statistics-requires-clause-unordered c =
    rw c.in-Months.is (served_unordered (base c.in-Months.a.now.0) c.know-in-Months.ensures.typed (rw c.in-Months.is at c.requires.served))
