-- What a source of a dictionary's column gives its keys' reader (Parquet format, Encodings: PLAIN_DICTIONARY and RLE_DICTIONARY).
use Rattle.std.specs.Prelude.{ℤ, pos, negsuc, Bool, true, false, cond, ◌||◌, ◌==◌, List, ◌∷◌, map}
use Rattle.columns_base.specs.declared.error.Error.TheVariants.{NotYetImplemented}
use Rattle.columns_base.specs.declared.error.N.TheVariants.{N4}
use Rattle.pq_pages.specs.Outcomes.{Outcome, gives_page, gives_dictionary, fails}
use Rattle.pq_tree.specs.Headers.{Header, data_page, data_page_2, dictionary_page}

-- an encoding by a dictionary (Parquet format, Encodings: PLAIN_DICTIONARY and RLE_DICTIONARY)
abbrev pub is_indices : ℤ → Bool
is_indices (pos n) = (n == 2) || (n == 8)
is_indices (negsuc n) = false

-- no data page in another encoding
abbrev pub has_indices : Header → Bool
has_indices (data_page h) = is_indices h.encoding
has_indices (data_page_2 h) = is_indices h.encoding
has_indices (dictionary_page h) = true

-- a data page in another encoding is not read
abbrev pub keyed_outcome : Outcome → Outcome
keyed_outcome (gives_page p levels) = cond (has_indices p.header) (gives_page p levels) (fails (NotYetImplemented N4))
keyed_outcome (gives_dictionary n body) = gives_dictionary n body
keyed_outcome (fails e) = fails e

-- the page of the keys in front of those behind the dictionary page
abbrev pub keyed_outcomes : Outcome → List Outcome → List Outcome
keyed_outcomes keys os = keys ∷ map keyed_outcome os
