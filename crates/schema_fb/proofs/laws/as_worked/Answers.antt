use Rattle.std.proofs.Common.{refl}
use Rattle.schema_codec.specs.Spelling.{count_bytes, size_bytes}
use Rattle.schema_codec.specs.Parse.{items_at as parts_at}
use Rattle.schema_codec.specs.Reading.{plain_reads, schema_at, count_at, metadata_at, fields_with}
use Rattle.schema_fb.specs.Layout.{short_bytes}
use Rattle.schema_fb.specs.Tables.{flat_bytes}
use Rattle.schema_fb.specs.Places.{byte_at, short_at, word_at, table_at, slot, text_at, numbers_at, numbers_in, items_at, items_in}
use Rattle.schema_fb.specs.Reading.{integer_in, decimal_in, time_in, timestamp_in, child_in, union_in, type_in, key_in, keyed_in, entry_at, metadata_in, field_at, schema_in, message_at, flat_reads}
use Rattle.schema_fb.proofs.laws.as_worked.Goals as goal

pub returns : goal.returns
unfolding count_bytes size_bytes plain_reads schema_at count_at metadata_at fields_with parts_at short_bytes flat_bytes byte_at short_at word_at table_at slot text_at numbers_at numbers_in items_at items_in integer_in decimal_in time_in timestamp_in child_in union_in type_in key_in keyed_in entry_at metadata_in field_at schema_in message_at flat_reads
returns c = record { empty = refl; empty_again = refl; cut = refl; plain = refl }
