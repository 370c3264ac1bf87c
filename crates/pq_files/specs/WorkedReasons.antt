-- Worked examples of reasons: pages and columns of the first file that are changed in one place.
use Rattle.std.specs.Prelude.{ℕ, ℤ, pos, negsuc, Option, Some, None, List, [], ◌∷◌, ◌++◌, take, drop}
use Rattle.shredding.specs.Shape.{signed}
use Rattle.shredding.specs.Slot.{Value, number}
use Rattle.pq_metadata.specs.Footer.{ChunkMeta, Footer}
use Rattle.pq_metadata.specs.Header.{data_page, dictionary_page}
use Rattle.pq_files.specs.Chunk.{RawPage}
use Rattle.pq_files.specs.FirstFile.{head, body, schema, the_leaf}
use Rattle.pq_files.specs.NearMiss.{header, cut_levels}
use Rattle.pq_files.specs.PageReasons.{S3, S4, GoesOn, S5, N8, S6Entries, S7Entries}
use Rattle.pq_files.specs.Reasons.{S2, N1, N3}
use Rattle.pq_files.specs.RowReasons.{ReadsEntries, S9}

-- a page of five pairs
abbrev pub page_of : List ℕ → RawPage
page_of text = record { header = header 5; body = text }

-- the repetition levels 1, 1, 0, 0, 0: the first pair goes on with a row
abbrev pub inside : List ℕ
inside = take 5 body ++ (3 ∷ drop 6 body)

-- such a page whose header says of the definition levels that they are packed without runs
abbrev pub bit_packed : List ℕ → RawPage
bit_packed text = record { header = data_page (record { num_values = 5; encoding = pos 0; definition_encoding = Some (pos 4); repetition_encoding = Some (pos 3) }); body = text }

-- so many entries, in these bytes
abbrev pub entries_page : ℕ → List ℕ → RawPage
entries_page n text = record { header = dictionary_page (record { num_values = n; encoding = pos 0 }); body = text }

-- 300, of which no page refers to
abbrev pub entries : List Value
entries = number (pos 300) ∷ []

abbrev pub of_300 : RawPage
of_300 = entries_page 1 (44 ∷ 1 ∷ 0 ∷ 0 ∷ [])

-- the first file's chunk: its codec, its size and the file that it lies in
abbrev pub meta_of : ℤ → ℤ → Option (List ℕ) → ChunkMeta
meta_of codec size path = record { file_path = path; physical = pos 1; codec = codec; num_values = pos 5; size = size; data_page = pos 4; dictionary_page = None; statistics = None }

abbrev pub footer_with : List ChunkMeta → Footer
footer_with chunks = record { schema = schema; groups = record { chunks = chunks; num_rows = pos 4 } ∷ []; keys = [] }

-- the first file's footer, which starts at place 42
abbrev pub the_footer : Footer
the_footer = footer_with (meta_of (pos 0) (pos 38) None ∷ [])

pub record AreReasons : Type 0 where
  -- a chunk that ends in front of the footer, and those that reach into it or have a negative size; and a group without a chunk
  pub chunk_stands : ¬ S2 42 the_footer
  pub chunk_reaches : S2 41 the_footer
  pub chunk_negative : S2 42 (footer_with (meta_of (pos 0) (negsuc 0) None ∷ []))
  pub chunk_lacks : S2 42 (footer_with [])
  -- an empty path is that of this file
  pub compressed : N1 (footer_with (meta_of (pos 1) (pos 38) None ∷ [])) × (¬ N1 the_footer)
  pub elsewhere : N3 (footer_with (meta_of (pos 0) (pos 38) (Some (120 ∷ [])) ∷ [])) × (¬ N3 (footer_with (meta_of (pos 0) (pos 38) (Some []) ∷ [])))
  -- a chunk of six values that ends behind five, and one of four with a page of five
  pub page_lacks : S3 6 (head ++ body)
  pub page_too_large : S3 4 (head ++ body)
  -- levels are those of data pages
  pub levels_lack : S4 the_leaf (page_of cut_levels)
  pub levels_stand : ¬ S4 the_leaf (page_of body)
  pub no_levels : ¬ S4 the_leaf of_300
  -- the first page of a column, and one of version 1 behind another
  pub first_inside : S5 the_leaf [] (page_of inside)
  pub next_inside : N8 the_leaf (page_of body ∷ []) (page_of inside)
  pub begins_row : ¬ GoesOn the_leaf (page_of body)
  pub not_in_runs : ¬ GoesOn the_leaf (bit_packed inside)
  -- two entries, the second without its last byte; and one that is no number of 8 bits, so that nothing of the column can be read
  pub entry_lacks : S6Entries the_leaf (entries_page 2 (1 ∷ 0 ∷ 0 ∷ 0 ∷ 2 ∷ 0 ∷ 0 ∷ []))
  pub entry_outside : S7Entries (signed 8) the_leaf of_300
  pub entry_not_read : ¬ ReadsEntries (signed 8) the_leaf (Some entries) (Some of_300)
  -- a column of four rows in a group of five, and in one of three
  pub row_lacks : S9 (signed 32) the_leaf 5 5 (head ++ body)
  pub row_more : S9 (signed 32) the_leaf 3 5 (head ++ body)
