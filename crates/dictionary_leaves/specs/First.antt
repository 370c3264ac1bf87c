-- What comes of the first page of a dictionary's column (Parquet format, "Dictionary Page").
use Rattle.std.specs.Prelude.{◌≡◌, ◌⊎◌, ℕ, ◌<◌, false, true, Option, Some, None, Result, Ok, Err, []}
use Rattle.columns_array.specs.Boxed.{boxed}
use Rattle.columns_base.specs.declared.error.Error.{Error}
use Rattle.columns_base.specs.declared.error.Error.TheVariants.{NotYetImplemented, OutOfSpec}
use Rattle.columns_base.specs.declared.error.N.TheVariants.{N4}
use Rattle.columns_base.specs.declared.error.S.TheVariants.{S3, S9}
use Rattle.columns_core.specs.Tree.{TypeTree}
use Rattle.dictionary_columns.specs.Sources.{has_indices}
use Rattle.pq_files.specs.Chunk.{IsData}
use Rattle.pq_pages.specs.Outcomes.{Outcome, fails, gives_dictionary, gives_page, page_shown}
use Rattle.read_pieces.specs.Columns.{ColumnOpening, IsWhole, RefusesPiece}
use Rattle.dictionary_leaves.specs.Dictionaries.{AreRead, CannotRead, IsOpenDictionary}
use Rattle.dictionary_leaves.specs.EntryTypes.{EntryReading}
use Rattle.dictionary_leaves.specs.KeyColumns.{key_in, reader_in}
use Rattle.dictionary_leaves.specs.declared.entry_type.ReadEntries.{ReadEntries}
use Rattle.dictionary_leaves.specs.declared.first_page.Opened.{Opened}

-- The entries of a dictionary page and the page of their keys, or why they are not read. A data page is refused by its encoding.
abbrev pub IsOfPage : EntryReading → Outcome → Result (Option ReadEntries) Error → Type 0
IsOfPage e (gives_dictionary n body) (Ok (Some v)) = AreRead e n body (boxed v.array) (page_shown v.keys)
IsOfPage e (gives_dictionary n body) (Ok None) = ⊥
IsOfPage e (gives_dictionary n body) (Err x) = CannotRead e n body x
IsOfPage e (gives_page p levels) (Ok v) = ⊥
IsOfPage e (gives_page p levels) (Err x) = IsData p.header × (((x ≡ OutOfSpec S3) × (has_indices p.header ≡ true)) ⊎ ((x ≡ NotYetImplemented N4) × (has_indices p.header ≡ false)))
IsOfPage e (fails f) result = ⊥

-- None of a column of no pages and no rows. Without pages there may be no row.
abbrev pub IsFirst : EntryReading → ℕ → Option Outcome → Result (Option ReadEntries) Error → Type 0
IsFirst e num (Some x) result = IsOfPage e x result
IsFirst e num None (Ok (Some v)) = ⊥
IsFirst e num None (Ok None) = num ≡ 0
IsFirst e num None (Err x) = (x ≡ OutOfSpec S9) × (0 < num)

-- what comes of the first page: the keys' column and the entries, all of a column of no rows, or an error
abbrev pub Opens : {I : Type 0} → ColumnOpening → TypeTree → Result (Option (Opened I)) Error → Type 0
Opens o t (Ok (Some v)) = IsOpenDictionary o t [] (key_in v.keys) (reader_in v.keys) (boxed v.entries)
Opens o t (Ok None) = IsWhole o []
Opens o t (Err e) = RefusesPiece o e
