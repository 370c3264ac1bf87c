use Rattle.columns_array.specs.Boxed.{boxed}
use Rattle.columns_core.specs.Shapes.{leaf_type}
use Rattle.columns_slots.specs.Slots.{type_of}
use Rattle.pq_tree.specs.Views.{physical_view}
use Rattle.dictionary_pages.proofs.EntryTypes.{kind_no_decimal}
use Rattle.dictionary_pages.proofs.Named.{kind_of}
use Rattle.dictionary_pages.proofs.statistics.entry_statistics.Goals as goal

pub column_statistics-requires-clause-held : goal.column_statistics-requires-clause-held
column_statistics-requires-clause-held c = λ h.
    let e = boxed c.args.entries.now in
    kind_no_decimal (leaf_type (type_of e)) (kind_of e (physical_view c.args.physical_type) c.requires) h.0
