-- Each kind of leaf is read as the page table says.
use Rattle.std.specs.Prelude.{◌&&◌, nat_le}
use Rattle.std.proofs.lemmas.Bool.{and_parts}
use Rattle.read_types.specs.Arrays.{makes_fixed}
use Rattle.columns_core.specs.Natives.{stores_i8, stores_i16, stores_i32, stores_i64, stores_i128, stores_u8, stores_u16, stores_u32, stores_u64}
use Rattle.read_leaf.specs.Loads.{loads-i8, loads-i16, loads-i32, loads-i64, loads-i128, loads-wide-i128, loads-u8, loads-u16, loads-u32, loads-wide-u32, loads-u64}
use Rattle.read_types.specs.Reads.{LeavesAreRead}
use Rattle.read_types.specs.declared.kind.LeafKind.TheVariants as K
use Rattle.read_types.proofs.FixedRead.{chunks_read, months_read, days_read, decimals_read}
use Rattle.read_types.proofs.NumbersRead.{reads-32, reads-64}
use Rattle.read_types.proofs.NullsRead.{nulls}
use Rattle.read_types.proofs.Slots.{stores-so, ordered-so}
use Rattle.read_types.proofs.StringsRead.{texts, large-texts, strings, large-strings}
use Rattle.read_types.proofs.TruthsRead.{truths}

pub leaves-read : LeavesAreRead
leaves-read K.Boolean c e = truths c e
leaves-read K.Null c e = nulls c e
leaves-read K.Int8 c e = reads-32 c _ (loads-i8 c.data_type (stores-so stores_i8 c.data_type e) (ordered-so stores_i8 c.data_type e))
leaves-read K.Int16 c e = reads-32 c _ (loads-i16 c.data_type (stores-so stores_i16 c.data_type e) (ordered-so stores_i16 c.data_type e))
leaves-read K.Int32 c e = reads-32 c _ (loads-i32 c.data_type (stores-so stores_i32 c.data_type e) (ordered-so stores_i32 c.data_type e))
leaves-read K.UInt8 c e = reads-32 c _ (loads-u8 c.data_type (stores-so stores_u8 c.data_type e) (ordered-so stores_u8 c.data_type e))
leaves-read K.UInt16 c e = reads-32 c _ (loads-u16 c.data_type (stores-so stores_u16 c.data_type e) (ordered-so stores_u16 c.data_type e))
leaves-read K.UInt32 c e = reads-32 c _ (loads-u32 c.data_type (stores-so stores_u32 c.data_type e) (ordered-so stores_u32 c.data_type e))
leaves-read K.Int64 c e = reads-64 c _ (loads-i64 c.data_type (stores-so stores_i64 c.data_type e) (ordered-so stores_i64 c.data_type e))
leaves-read K.Decimal c e = reads-32 c _ (loads-i128 c.data_type (stores-so stores_i128 c.data_type e) (ordered-so stores_i128 c.data_type e))
leaves-read K.WideDecimal c e = reads-64 c _ (loads-wide-i128 c.data_type (stores-so stores_i128 c.data_type e) (ordered-so stores_i128 c.data_type e))
leaves-read K.WideUInt32 c e = reads-64 c _ (loads-wide-u32 c.data_type (stores-so stores_u32 c.data_type e) (ordered-so stores_u32 c.data_type e))
leaves-read K.UInt64 c e = reads-64 c _ (loads-u64 c.data_type (stores-so stores_u64 c.data_type e) (ordered-so stores_u64 c.data_type e))
leaves-read K.Utf8 c e = texts c e
leaves-read K.LargeUtf8 c e = large-texts c e
leaves-read K.Binary c e = strings c e
leaves-read K.LargeBinary c e = large-strings c e
leaves-read (K.FixedDecimal n) c e = let p = and_parts (nat_le 1 n && nat_le n 16) (makes_fixed stores_i128 c.data_type) e in decimals_read n p.0 c p.1
leaves-read K.Months c e = months_read c e
leaves-read K.Days c e = days_read c e
leaves-read (K.FixedSizeBinary n) c e = chunks_read n c e
