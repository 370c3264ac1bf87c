-- Chunks as they are read, and why some are not, byte by byte (Parquet format, "Column chunks").
use Rattle.std.specs.Prelude.{◌≡◌, ℕ, pos, List, [], ◌∷◌, ◌++◌, Some}
use Rattle.columns_base.specs.declared.error.Error.TheVariants.{OutOfSpec, NotYetImplemented}
use Rattle.columns_base.specs.declared.error.S.TheVariants.{S3}
use Rattle.columns_base.specs.declared.error.N.TheVariants.{N4}
use Rattle.pq_metadata.specs.Header.{data_page, data_page_2}
use Rattle.pq_files.specs.FirstFile.{head, body}
use Rattle.pq_pages.specs.Outcomes.{Levels, Outcome, gives_page, gives_dictionary, fails}
use Rattle.pq_pages.specs.Reading.{at_start, pages_in}

abbrev pub some_levels : Levels
some_levels = record { repetition = 1; definition = 3 }

abbrev pub read : ℕ → ℕ → List ℕ → List Outcome
read max n bytes = pages_in max some_levels at_start n bytes

-- the first file's header, of a page of five pairs in 21 bytes, with another type or encoding
abbrev pub header_with : ℕ → ℕ → List ℕ
header_with type encoding = 21 ∷ type ∷ 21 ∷ 42 ∷ 21 ∷ 42 ∷ 44 ∷ 21 ∷ 10 ∷ 21 ∷ encoding ∷ 21 ∷ 6 ∷ 21 ∷ 6 ∷ 0 ∷ 0 ∷ []

-- that page, in the encoding of a number
abbrev pub page_with : ℕ → Outcome
page_with n = gives_page (record { header = data_page (record { num_values = 5; encoding = pos n; definition_encoding = Some (pos 3); repetition_encoding = Some (pos 3) }); body = body }) some_levels

-- a dictionary page of one number
abbrev pub dictionary_text : List ℕ
dictionary_text = 21 ∷ 4 ∷ 21 ∷ 8 ∷ 21 ∷ 8 ∷ 76 ∷ 21 ∷ 2 ∷ 21 ∷ 0 ∷ 0 ∷ 0 ∷ 7 ∷ 0 ∷ 0 ∷ 0 ∷ []

abbrev pub dictionary_given : Outcome
dictionary_given = gives_dictionary 1 (7 ∷ 0 ∷ 0 ∷ 0 ∷ [])

-- a page of version 2 with one value and no levels
abbrev pub second_version : List ℕ
second_version = 21 ∷ 6 ∷ 21 ∷ 8 ∷ 21 ∷ 8 ∷ 92 ∷ 21 ∷ 2 ∷ 21 ∷ 0 ∷ 21 ∷ 2 ∷ 21 ∷ 0 ∷ 21 ∷ 0 ∷ 21 ∷ 0 ∷ 0 ∷ 0 ∷ 7 ∷ 0 ∷ 0 ∷ 0 ∷ []

abbrev pub wrong : Outcome
wrong = fails (OutOfSpec S3)

abbrev pub unread : Outcome
unread = fails (NotYetImplemented N4)

pub record AreRead : Type 0 where
  -- the first file's chunk of five values, with and without bytes behind it
  pub first : read 38 5 (head ++ body) ≡ page_with 0 ∷ []
  pub surplus : read 38 5 (head ++ (body ++ (1 ∷ 2 ∷ []))) ≡ page_with 0 ∷ []
  -- no value is to come
  pub none : read 38 0 (head ++ body) ≡ []
  -- pages after one another, with one header at its greatest size
  pub two : read 17 10 (head ++ (body ++ (head ++ body))) ≡ page_with 0 ∷ page_with 0 ∷ []
  -- entries, and indices of them
  pub dictionary : read 38 5 (dictionary_text ++ (header_with 0 16 ++ body)) ≡ dictionary_given ∷ page_with 8 ∷ []
  pub version_2 : read 38 1 second_version ≡ gives_page (record { header = data_page_2 (record { num_values = 1; num_rows = 1; encoding = pos 0; definition_length = 0; repetition_length = 0 }); body = 7 ∷ 0 ∷ 0 ∷ 0 ∷ [] }) some_levels ∷ []

pub record AreRefused : Type 0 where
  -- the bytes end before all values came, or a page has more
  pub too_few : read 38 6 (head ++ body) ≡ page_with 0 ∷ wrong ∷ []
  pub too_many : read 38 4 (head ++ body) ≡ wrong ∷ []
  -- a header of 17 bytes where 16 are allowed
  pub long : read 16 5 (head ++ body) ≡ wrong ∷ []
  -- a body of 22 bytes where 21 follow
  pub cut : read 38 5 (21 ∷ 0 ∷ 21 ∷ 44 ∷ 21 ∷ 44 ∷ 44 ∷ 21 ∷ 10 ∷ 21 ∷ 0 ∷ 21 ∷ 6 ∷ 21 ∷ 6 ∷ 0 ∷ 0 ∷ body) ≡ wrong ∷ []
  -- an index page, and a page of type 4
  pub index : read 38 5 (header_with 2 0 ++ body) ≡ unread ∷ []
  pub other : read 38 5 (header_with 8 0 ++ body) ≡ unread ∷ []
  -- encoding 9, and indices without a dictionary
  pub unnamed : read 38 5 (header_with 0 18 ++ body) ≡ unread ∷ []
  pub no_dictionary : read 38 5 (header_with 0 16 ++ body) ≡ wrong ∷ []
  -- a second dictionary page, and one behind a data page
  pub second : read 38 5 (dictionary_text ++ dictionary_text) ≡ dictionary_given ∷ wrong ∷ []
  pub behind : read 38 10 (head ++ (body ++ dictionary_text)) ≡ page_with 0 ∷ wrong ∷ []

pub record AreWorked : Type 0 where
  pub read : AreRead
  pub refused : AreRefused
