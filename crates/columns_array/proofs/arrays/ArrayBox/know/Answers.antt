use Rattle.std.proofs.Common.{true, false}
use Rattle.columns_array.proofs.Know.{bytes_sound, texts_sound, widths_sound}
use Rattle.columns_array.proofs.arrays.ArrayBox.know.Goals as goal

pub returns-in-Binary : goal.returns-in-Binary
returns-in-Binary c =
    let a = c.in-Binary.a in
    rw c.in-Binary.is (bytes_sound false a.0 a.1.0 a.1.1.0 a.1.1.1 c.know-in-Binary.ensures.typed c.know-in-Binary.ensures.mask)

pub returns-in-LargeBinary : goal.returns-in-LargeBinary
returns-in-LargeBinary c =
    let a = c.in-LargeBinary.a in
    rw c.in-LargeBinary.is (bytes_sound true a.0 a.1.0 a.1.1.0 a.1.1.1 c.know-in-LargeBinary.ensures.typed c.know-in-LargeBinary.ensures.mask)

pub returns-in-Utf8 : goal.returns-in-Utf8
returns-in-Utf8 c =
    let a = c.in-Utf8.a in
    rw c.in-Utf8.is (texts_sound false a.0 a.1.0 a.1.1.0 a.1.1.1 c.know-in-Utf8.ensures.typed c.know-in-Utf8.ensures.mask c.know-in-Utf8.ensures.texts)

pub returns-in-LargeUtf8 : goal.returns-in-LargeUtf8
returns-in-LargeUtf8 c =
    let a = c.in-LargeUtf8.a in
    rw c.in-LargeUtf8.is (texts_sound true a.0 a.1.0 a.1.1.0 a.1.1.1 c.know-in-LargeUtf8.ensures.typed c.know-in-LargeUtf8.ensures.mask c.know-in-LargeUtf8.ensures.texts)

pub returns-in-FixedSizeBinary : goal.returns-in-FixedSizeBinary
returns-in-FixedSizeBinary c =
    let a = c.in-FixedSizeBinary.a in
    rw c.in-FixedSizeBinary.is (widths_sound a.0 a.1.0 a.1.1 c.know-in-FixedSizeBinary.ensures.mask c.know-in-FixedSizeBinary.ensures.width)
