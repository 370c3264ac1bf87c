-- The pages of a chunk, read from left to right (Parquet format, "Column chunks"). `ReadsChunk` says what they are; this is the way to it.
use Rattle.std.specs.Prelude.{ℕ, zero, suc, ℤ, pos, negsuc, ◌+◌, ◌-◌, List, [], ◌∷◌, length, take, drop, Bool, true, false, not, ◌&&◌, ◌||◌, nat_lt, nat_eq, cond, Option, Some, None, Result, Ok, Err}
use Rattle.columns_base.specs.declared.error.Error.{Error}
use Rattle.columns_base.specs.declared.error.Error.TheVariants.{OutOfSpec, NotYetImplemented}
use Rattle.columns_base.specs.declared.error.S.TheVariants.{S3}
use Rattle.columns_base.specs.declared.error.N.TheVariants.{N4}
use Rattle.pq_metadata.specs.Header.{Header, data_page, data_page_2, dictionary_page, PageHeader}
use Rattle.pq_files.specs.Chunk.{RawPage, count_in}
use Rattle.pq_pages.specs.declared.place.Place.{Place}
use Rattle.pq_pages.specs.DataPages.{is_named}
use Rattle.pq_pages.specs.Headers.{header_at}
use Rattle.pq_pages.specs.Outcomes.{Levels, Outcome, gives_page, gives_dictionary, fails}

-- ---- the next page, and the bytes behind it

-- the body behind a header of so many bytes
abbrev pub body_behind : List ℕ → Result (PageHeader × ℕ) Error → Result (RawPage × List ℕ) Error
body_behind bytes (Err e) = Err e
body_behind bytes (Ok read) =
    cond (nat_lt (length bytes) (read.1 + read.0.size)) (Err (OutOfSpec S3))
    (Ok (record { header = read.0.header; body = take read.0.size (drop read.1 bytes) }, drop (read.1 + read.0.size) bytes))

-- whose header takes at most so many bytes
unfoldable pub next_page : ℕ → List ℕ → Result (RawPage × List ℕ) Error
next_page max bytes = body_behind bytes (header_at (take max bytes))

-- ---- whether it may stand there

-- before any page was read
abbrev pub at_start : Place
at_start = record { has_dictionary = false; is_first = true }

-- PLAIN_DICTIONARY and RLE_DICTIONARY
abbrev pub is_indexed : ℤ → Bool
is_indexed (pos n) = nat_eq n 2 || nat_eq n 8
is_indexed (negsuc n) = false

-- PLAIN and PLAIN_DICTIONARY, in which the entries of a dictionary stand
abbrev pub is_of_entries : ℤ → Bool
is_of_entries (pos n) = nat_eq n 0 || nat_eq n 2
is_of_entries (negsuc n) = false

-- a data page of n values in this encoding, where so many values are to come
abbrev pub data_fault : Place → ℕ → ℕ → ℤ → Option Error
data_fault place left n encoding =
    cond (nat_lt left n || (is_indexed encoding && not place.has_dictionary)) (Some (OutOfSpec S3))
    (cond (is_named encoding) None (Some (NotYetImplemented N4)))

abbrev pub dictionary_fault : Place → ℤ → Option Error
dictionary_fault place encoding = cond place.is_first (cond (is_of_entries encoding) None (Some (NotYetImplemented N4))) (Some (OutOfSpec S3))

abbrev pub fault_in : Place → ℕ → Header → Option Error
fault_in place left (data_page h) = data_fault place left h.num_values h.encoding
fault_in place left (data_page_2 h) = data_fault place left h.num_values h.encoding
fault_in place left (dictionary_page h) = dictionary_fault place h.encoding

-- ---- all of them

-- a page of the file as it is given
abbrev pub outcome_in : Levels → Header → List ℕ → Outcome
outcome_in levels (data_page h) body = gives_page (record { header = data_page h; body = body }) levels
outcome_in levels (data_page_2 h) body = gives_page (record { header = data_page_2 h; body = body }) levels
outcome_in levels (dictionary_page h) body = gives_dictionary h.num_values body

-- behind a page
abbrev pub place_behind : Place → Header → Place
place_behind place (dictionary_page h) = record { has_dictionary = true; is_first = false }
place_behind place h = record { has_dictionary = place.has_dictionary; is_first = false }

abbrev pub left_behind : ℕ → Header → ℕ
left_behind left (dictionary_page h) = left
left_behind left h = left - count_in h

-- how pages are read further, in a place, of so many values, from these bytes on
abbrev pub Further : Type 0
Further = Place → ℕ → List ℕ → List Outcome

abbrev pub placed : Further → Levels → Place → ℕ → RawPage → List ℕ → Option Error → List Outcome
placed further levels place left p behind (Some e) = fails e ∷ []
placed further levels place left p behind None = outcome_in levels p.header p.body ∷ further (place_behind place p.header) (left_behind left p.header) behind

abbrev pub read_on : Further → Levels → Place → ℕ → Result (RawPage × List ℕ) Error → List Outcome
read_on further levels place left (Err e) = fails e ∷ []
read_on further levels place left (Ok next) = placed further levels place left next.0 next.1 (fault_in place left next.0.header)

-- The first number bounds the turns. One more than the count of the bytes is always enough, since each page takes a byte.
unfoldable pub pages_from : ℕ → ℕ → Levels → Further
pages_from turns max levels place zero bytes = []
pages_from zero max levels place (suc left) bytes = fails (OutOfSpec S3) ∷ []
pages_from (suc turns) max levels place (suc left) bytes = read_on (pages_from turns max levels) levels place (suc left) (next_page max bytes)

-- What a reader gives of so many values that are to come, from these bytes on, where a header takes at most max bytes.
abbrev pub pages_in : ℕ → Levels → Further
pages_in max levels place left bytes = pages_from (suc (length bytes)) max levels place left bytes
