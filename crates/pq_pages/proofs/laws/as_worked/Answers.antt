use Rattle.std.proofs.Common.{refl}
use Rattle.pq_numbers.specs.Varint.{varint_up_to}
use Rattle.pq_thrift.specs.Numbers.{signed_at, binary_at}
use Rattle.pq_thrift.specs.Reading.{list_head_at, map_head_at, field_head_at, values_at, pair_with, pairs_at, fields_at, list_with, map_with, struct_with, value_at}
use Rattle.pq_pages.specs.Headers.{data_header_of, data_header_2_of, dictionary_header_of, page_header_of, header_at}
use Rattle.pq_pages.specs.Reading.{next_page, pages_from}
use Rattle.pq_pages.specs.Worked.{AreRead, AreRefused}
use Rattle.pq_pages.proofs.laws.as_worked.Goals as goal

are_read : AreRead
unfolding varint_up_to signed_at binary_at list_head_at map_head_at field_head_at values_at pair_with pairs_at fields_at list_with map_with struct_with value_at data_header_of data_header_2_of dictionary_header_of page_header_of header_at next_page pages_from
are_read = record { first = refl; surplus = refl; none = refl; two = refl; dictionary = refl; version_2 = refl }

are_refused : AreRefused
unfolding varint_up_to signed_at binary_at list_head_at map_head_at field_head_at values_at pair_with pairs_at fields_at list_with map_with struct_with value_at data_header_of data_header_2_of dictionary_header_of page_header_of header_at next_page pages_from
are_refused = record { too_few = refl; too_many = refl; long = refl; cut = refl; index = refl; other = refl; unnamed = refl; no_dictionary = refl; second = refl; behind = refl }

pub returns : goal.returns
returns c = record { read = are_read; refused = are_refused }
