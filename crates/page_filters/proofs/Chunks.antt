-- A chunk that is opened, behind a filter.
use Rattle.std.proofs.Common.{◌≡◌, sym, ap, ◌∙◌, ℕ, Bool, List, Option, Some, None}
use Rattle.pq_tree.specs.Columns.{Column}
use Rattle.pq_tree.specs.Described.{column_view}
use Rattle.pq_tree.specs.Headers.{Header}
use Rattle.pq_tree.specs.declared.types.ColumnChunkMetaData.{ColumnChunkMetaData}
use Rattle.pq_tree.specs.declared.types.Descriptor.{Descriptor}
use Rattle.pq_pages.specs.Opened.{OpensChunk}
use Rattle.pq_pages.specs.Outcomes.{Outcome}
use Rattle.pq_pages.specs.Sources.{Source}
use Rattle.page_filters.specs.Filters.{kept}
use Rattle.page_filters.specs.Opened.{OpensKept}

abbrev column_or : Column → Option Descriptor → Column
column_or c None = c
column_or c (Some d) = column_view d

pub opens_kept : (file : List ℕ) (c : ColumnChunkMetaData) (max : ℕ) (keeps : Column → Header → Bool) (d copy : Descriptor) (whole r : Source) → OpensChunk file c max whole → c.descriptor ≡ Some d → column_view copy ≡ column_view d → r ≡ record { outcomes = kept (keeps (column_view copy)) whole.outcomes; lent = whole.lent; shown = whole.lent } → OpensKept file c max keeps r
opens_kept file c max keeps d copy whole r o e m n =
    let outcomes : Source → List Outcome = λ s. s.outcomes in
    let lent : Source → Option Outcome = λ s. s.lent in
    record {
      whole = whole;
      opens = o;
      outcomes = ap outcomes n ∙ ap (λ v. kept (keeps v) whole.outcomes) (m ∙ ap (column_or (column_view d)) (sym e ∙ o.is_column));
      lends_none = ap lent n ∙ o.lends_none;
    }
