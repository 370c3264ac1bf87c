use Rattle.std.proofs.Common.{refl}
use Rattle.columns_core.specs.declared.types.IntegerType.TheVariants as K
use Rattle.dictionary_columns.proofs.KeyText.{same_keys}
use Rattle.dictionary_columns.proofs.page.plain_keys.Goals as goal

pub returns-in-Int8-clause-ok : goal.returns-in-Int8-clause-ok
returns-in-Int8-clause-ok c = rw (c.in-Int8.is, same_keys K.Int8 K.UInt32 0 c.args.count refl) c.small_keys.ensures.ok

pub returns-in-Int16-clause-ok : goal.returns-in-Int16-clause-ok
returns-in-Int16-clause-ok c = rw (c.in-Int16.is, same_keys K.Int16 K.UInt32 0 c.args.count refl) c.small_keys-in-Int16.ensures.ok

pub returns-in-Int32-clause-ok : goal.returns-in-Int32-clause-ok
returns-in-Int32-clause-ok c = rw (c.in-Int32.is, same_keys K.Int32 K.UInt32 0 c.args.count refl) c.small_keys-in-Int32.ensures.ok

pub returns-in-UInt8-clause-ok : goal.returns-in-UInt8-clause-ok
returns-in-UInt8-clause-ok c = rw (c.in-UInt8.is, same_keys K.UInt8 K.UInt32 0 c.args.count refl) c.small_keys-in-UInt8.ensures.ok

pub returns-in-UInt16-clause-ok : goal.returns-in-UInt16-clause-ok
returns-in-UInt16-clause-ok c = rw (c.in-UInt16.is, same_keys K.UInt16 K.UInt32 0 c.args.count refl) c.small_keys-in-UInt16.ensures.ok

pub returns-in-Int64-clause-ok : goal.returns-in-Int64-clause-ok
returns-in-Int64-clause-ok c = rw (c.in-Int64.is, same_keys K.Int64 K.UInt64 0 c.args.count refl) c.wide_keys.ensures.ok
