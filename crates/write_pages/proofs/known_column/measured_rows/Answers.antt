use Rattle.columns_array.specs.Boxed.{boxed}
use Rattle.pq_tree.specs.Views.{physical_view}
use Rattle.write_pages.proofs.PageRows.{are_measured, rows_held}
use Rattle.write_pages.proofs.known_column.measured_rows.Goals as goal

pub known_values-requires-clause-held : goal.known_values-requires-clause-held
known_values-requires-clause-held c =
    rows_held (boxed c.args.array.now) (physical_view c.args.physical_type) c.args.nested.now c.know.ensures c.requires.served c.requires.nulls c.requires.held

pub returns-clause-measured : goal.returns-clause-measured
returns-clause-measured c =
    are_measured (boxed c.args.array.now) (physical_view c.args.physical_type) c.args.nested.now c.know.ensures c.requires.served c.requires.nulls c.in_ok-known.known.measured c.requires.held c.in_ok-known.ensures.ok.measures
