-- What a page is that a source shows (Parquet format, "Data Pages" and "Dictionary Page").
use Rattle.pq_pages.specs.declared.shown.PageRef.{PageRef}
use Rattle.pq_pages.specs.declared.shown.PageRef.TheVariants.{Data, Dict}
use Rattle.pq_pages.specs.Outcomes.{Outcome, gives_page, gives_dictionary, levels_in, raw_page}

abbrev pub ref_shown : PageRef → Outcome
ref_shown (Data p) = gives_page (raw_page p) (levels_in p.descriptor)
ref_shown (Dict p) = gives_dictionary p.num_values p.buffer.now
