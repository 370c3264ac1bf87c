-- The filter of the tests: pages whose values are spelled plain (Parquet format, Encodings, "Plain").
use Rattle.std.specs.Prelude.{ℤ, pos, negsuc, Bool, false, nat_eq}
use Rattle.pq_tree.specs.Headers.{Header, data_page, data_page_2, dictionary_page}

abbrev pub is_zero : ℤ → Bool
is_zero (pos n) = nat_eq n 0
is_zero (negsuc n) = false

-- the encoding that the header states is PLAIN
abbrev pub is_plain : Header → Bool
is_plain (data_page h) = is_zero h.encoding
is_plain (data_page_2 h) = is_zero h.encoding
is_plain (dictionary_page h) = is_zero h.encoding
