-- Filters of data pages: what they answer, and what they leave of a source's pages (Parquet format, "Data Pages").
use Rattle.std.specs.Prelude.{Bool, true, false, not, Option, Some, None, List, filter}
use Rattle.pq_tree.specs.Columns.{Column}
use Rattle.pq_tree.specs.Headers.{Header, data_page, data_page_2, dictionary_page}
use Rattle.pq_tree.specs.Views.{typed_view}
use Rattle.pq_tree.specs.declared.types.DataPageHeader.{DataPageHeader}
use Rattle.pq_tree.specs.declared.types.TypedPageHeader.TheVariants as T
use Rattle.pq_pages.specs.Outcomes.{Outcome, gives_page, gives_dictionary, fails}

-- what a reader takes from the header of a data page
abbrev pub header_view : DataPageHeader → Header
header_view h = typed_view (T.Data h)

-- whether the data pages of a column with a header are kept: as the filter says, and without a filter always
abbrev pub keeping : {F : Type 0} → (F → Column → Header → Bool) → Option F → Column → Header → Bool
keeping keeps None c h = true
keeping keeps (Some f) c h = keeps f c h

-- whether a data page with this header is kept; none has the header of a dictionary page
abbrev pub is_kept_under : (Header → Bool) → Header → Bool
is_kept_under keeps (data_page h) = keeps (data_page h)
is_kept_under keeps (data_page_2 h) = keeps (data_page_2 h)
is_kept_under keeps (dictionary_page h) = true

-- a data page that is kept, a dictionary page, or an error
abbrev pub is_kept : (Header → Bool) → Outcome → Bool
is_kept keeps (gives_page p levels) = is_kept_under keeps p.header
is_kept keeps (gives_dictionary n body) = true
is_kept keeps (fails e) = true

-- the outcomes without the data pages that are not kept
abbrev pub kept : (Header → Bool) → List Outcome → List Outcome
kept keeps os = filter (is_kept keeps) os

-- a page is lent that is not kept
abbrev pub is_refused : (Header → Bool) → Option Outcome → Bool
is_refused keeps None = false
is_refused keeps (Some o) = not (is_kept keeps o)
