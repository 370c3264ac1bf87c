-- What a source of keys still gives, and what it lends.
use Rattle.std.specs.Prelude.{Option, Some, None, List, map}
use Rattle.pq_pages.specs.Outcomes.{Outcome}
use Rattle.dictionary_columns.specs.Sources.{keyed_outcome, keyed_outcomes}
use Rattle.dictionary_columns.specs.declared.source.Lent.{Lent}
use Rattle.dictionary_columns.specs.declared.source.Lent.TheVariants as L

-- the page of the keys is still to come, or those of the source are
abbrev pub keyed_from : Lent → Outcome → List Outcome → List Outcome
keyed_from L.Ahead keys os = keyed_outcomes keys os
keyed_from lent keys os = map keyed_outcome os

-- what is lent: the page of the keys, or what the source lends
abbrev pub keyed_lent : Lent → Outcome → Option Outcome → Option Outcome
keyed_lent L.Keys keys lent = Some keys
keyed_lent L.Page keys lent = lent
keyed_lent L.Ahead keys lent = None
keyed_lent L.Nothing keys lent = None
