use Rattle.std.proofs.Common.{List, ap, option_map, refl, sym, subst}
use Rattle.shredding.specs.Parts.{path_way, path_slots}
use Rattle.columns_array.specs.Boxed.{boxed}
use Rattle.levels.specs.declared.nested.Nested.{Nested}
use Rattle.levels.specs.Nested.{parts_of}
use Rattle.nested_paths.specs.Seen.{leaf_slot}
use Rattle.pq_tree.specs.Views.{physical_view, statistics_view}
use Rattle.write_values.specs.Nulls.{TellsNulls}
use Rattle.write_pages.proofs.Moved.{stated_moved}
use Rattle.write_pages.proofs.PageRows.{rows_held, rows_stated}
use Rattle.write_pages.proofs.WidePieces.{wide_moved}
use Rattle.write_pages.proofs.known_pages.statistics_at_once.Goals as goal

pub column_statistics-requires-clause-held : goal.column_statistics-requires-clause-held
column_statistics-requires-clause-held c =
    let own = boxed c.args.rows.now.array in
    let p = physical_view c.args.physical_type in
    let nulls : TellsNulls own (parts_of c.deref.result.now) = subst (λ (xs : List Nested). TellsNulls own (parts_of xs)) (sym c.deref.ensures.value) c.requires.nulls in
    rows_held own p c.deref.result.now c.know.ensures c.requires.served nulls
    (λ w. c.requires.held (wide_moved _ _ p _ _ _ _ refl (ap (λ (xs : List Nested). path_way (parts_of xs)) c.deref.ensures.value) (ap (λ (xs : List Nested). path_slots (leaf_slot own) (parts_of xs)) c.deref.ensures.value) w))

pub returns-clause-stated : goal.returns-clause-stated
returns-clause-stated c =
    let own = boxed c.args.rows.now.array in
    let p = physical_view c.args.physical_type in
    let nulls : TellsNulls own (parts_of c.deref.result.now) = subst (λ (xs : List Nested). TellsNulls own (parts_of xs)) (sym c.deref.ensures.value) c.requires.nulls in
    let s = option_map statistics_view c.in_ok-statistics.statistics in
    stated_moved c.args.is_wanted _ _ p _ _ _ _ s refl (ap (λ (xs : List Nested). path_way (parts_of xs)) c.deref.ensures.value)
    (ap (λ (xs : List Nested). path_slots (leaf_slot own) (parts_of xs)) c.deref.ensures.value)
    (rows_stated own p c.deref.result.now c.know.ensures c.requires.served nulls c.args.is_wanted s c.in_ok-statistics.ensures.ok)
