use Rattle.std.proofs.Common.{option_map, ℕ, ◌≡◌, ◌≤◌, ◌∙◌, ap, arith, length, rules, subst, sym, true}
use Rattle.columns_array.specs.Boxed.{boxed}
use Rattle.columns_core.specs.Shapes.{base}
use Rattle.columns_slots.specs.Slots.{type_of}
use Rattle.leaf_pages.proofs.EncodedPages.{encoded_is, is_numbered, named_back, pairs_few}
use Rattle.leaf_pages.proofs.Opened.{fits, is_wide}
use Rattle.leaf_pages.proofs.Values.{values_told}
use Rattle.leaf_pages.specs.Columns.{IsPageAlong, column_along}
use Rattle.levels.specs.Nested.{nested_column, parts_of}
use Rattle.nested_paths.specs.LeafNulls.{value_at}
use Rattle.pq_files.specs.Room.{max_count}
use Rattle.pq_pages.specs.DataPages.{DataPageValue, is_named}
use Rattle.pq_tree.specs.Views.{physical_view, statistics_view}
use Rattle.write_pages.proofs.PageRows.{rows_held, rows_stated}
use Rattle.write_pages.proofs.PageTable.{fits_served}
use Rattle.write_pages.specs.Holds.{encoding_view}
use Rattle.write_values.proofs.Made.{few_values, out_is, rows_few}
use Rattle.write_values.proofs.ServedDeltas.{named_number}
use Rattle.write_values.specs.Stored.{stored_at}
use Rattle.leaf_pages.proofs.encoded.encoded_page.Goals as goal

pub column_statistics-requires-clause-leaf : goal.column_statistics-requires-clause-leaf
column_statistics-requires-clause-leaf c =
    let f = fits (column_along c.args.type_ c.args.nested.now (boxed c.args.array.now)) c.requires.fits in
    sym f.array.count

pub column_statistics-requires-clause-nulls : goal.column_statistics-requires-clause-nulls
column_statistics-requires-clause-nulls c = values_told (boxed c.args.array.now) (parts_of c.args.nested.now) c.requires.values

pub column_statistics-requires-clause-served : goal.column_statistics-requires-clause-served
column_statistics-requires-clause-served c =
    let a = boxed c.args.array.now in
    let f = fits (column_along c.args.type_ c.args.nested.now a) c.requires.fits in
    fits_served true (base (type_of a)) (physical_view c.args.type_.physical_type) c.requires.written f.physical

pub column_statistics-requires-clause-held : goal.column_statistics-requires-clause-held
column_statistics-requires-clause-held c =
    let a = boxed c.args.array.now in
    let p = physical_view c.args.type_.physical_type in
    let col = column_along c.args.type_ c.args.nested.now a in
    let f = fits col c.requires.fits in
    let served = fits_served true (base (type_of a)) p c.requires.written f.physical in
    rows_held a p c.args.nested.now c.know.ensures served (values_told a (parts_of c.args.nested.now) c.requires.values) (λ w. c.requires.held (is_wide col w))

pub overflow_sub-counts : goal.overflow_sub-counts
overflow_sub-counts c =
    let a = boxed c.args.array.now in
    let p = physical_view c.args.type_.physical_type in
    let stored = stored_at a p in
    omega (arith, c.num_values-pairs.ensures stored, c.requires.count, c.requires.room, few_values p stored c.args.nested.now)

pub overflow_cast-counts : goal.overflow_cast-counts
overflow_cast-counts c =
    let stored = stored_at (boxed c.args.array.now) (physical_view c.args.type_.physical_type) in
    omega (arith, c.num_values-pairs.ensures stored, c.requires.room)

pub overflow_cast-counts-2 : goal.overflow_cast-counts-2
overflow_cast-counts-2 c =
    let stored = stored_at (boxed c.args.array.now) (physical_view c.args.type_.physical_type) in
    omega (arith, c.num_values-pairs.ensures stored, c.requires.room)

pub overflow_cast-counts-3 : goal.overflow_cast-counts-3
overflow_cast-counts-3 c =
    let p = physical_view c.args.type_.physical_type in
    let stored = stored_at (boxed c.args.array.now) p in
    let rows : c.slot_count-rows.result ≤ 2147483647 = omega (arith, rows_few p stored c.args.nested.now, c.requires.room, c.slot_count-rows.ensures) in
    omega arith

pub page_header-header-requires-clause-pairs : goal.page_header-header-requires-clause-pairs
page_header-header-requires-clause-pairs c =
    let stored = stored_at (boxed c.args.array.now) (physical_view c.args.type_.physical_type) in
    omega (arith, c.num_values-pairs.ensures stored, c.requires.room)

pub page_header-header-requires-clause-nulls : goal.page_header-header-requires-clause-nulls
page_header-header-requires-clause-nulls c =
    let stored = stored_at (boxed c.args.array.now) (physical_view c.args.type_.physical_type) in
    omega (arith, c.num_values-pairs.ensures stored, c.requires.room)

pub page_header-header-requires-clause-rows : goal.page_header-header-requires-clause-rows
page_header-header-requires-clause-rows c =
    let p = physical_view c.args.type_.physical_type in
    let stored = stored_at (boxed c.args.array.now) p in
    omega (arith, rows_few p stored c.args.nested.now, c.requires.room, c.slot_count-rows.ensures)

pub page_header-header-requires-clause-repetition : goal.page_header-header-requires-clause-repetition
page_header-header-requires-clause-repetition c =
    let h = c.requires.holds.2 in
    omega (arith, ap (λ (x : ℕ × ℕ). x.0) h.sections.sizes_are, h.sections.tight, c.requires.room)

pub page_header-header-requires-clause-definition : goal.page_header-header-requires-clause-definition
page_header-header-requires-clause-definition c =
    let h = c.requires.holds.2 in
    omega (arith, ap (λ (x : ℕ × ℕ). x.1) h.sections.sizes_are, h.sections.tight, c.requires.room)

pub new-requires : goal.new-requires
new-requires c = record {
  values = rw c.page_header-header.ensures.values (search rules);
  encoding = ap is_named (c.page_header-header.ensures.encoding ∙ named_number c.args.encoding c.requires.holds.0 c.requires.holds.1) ∙ is_numbered c.requires.holds.0;
  definition = rw c.descriptor_of-descriptor.ensures.defines (search rules);
  repetition = rw c.descriptor_of-descriptor.ensures.repeats (search rules);
}

pub returns-clause-ok : goal.returns-clause-ok
returns-clause-ok c =
    let a = boxed c.args.array.now in
    let p = physical_view c.args.type_.physical_type in
    let stored = stored_at a p in
    let nested = c.args.nested.now in
    let col = column_along c.args.type_ nested a in
    let f = fits col c.requires.fits in
    let served = fits_served true (base (type_of a)) p c.requires.written f.physical in
    let told = values_told a (parts_of nested) c.requires.values in
    let k = c.requires.holds.0 in
    let stated = option_map statistics_view c.in_ok-statistics.statistics in
    let st = rows_stated a p nested c.know.ensures served told c.args.options.write_statistics stated c.in_ok-statistics.ensures.ok in
    let pairs : c.num_values-pairs.result ≡ length (nested_column stored nested) = omega (arith, c.num_values-pairs.ensures stored, c.requires.room) in
    let most : length (nested_column (value_at a) nested) ≤ max_count = omega (arith, c.num_values-pairs.ensures (value_at a), c.num_values-pairs.ensures stored, c.requires.room) in
    let out = out_is k stored st.out stated nested c.num_values-pairs.result c.args.encoded.values c.slot_count-rows.result c.requires.well pairs c.requires.count c.slot_count-rows.ensures (st.are (pairs_few a c.args.type_ nested c.requires.values c.know.ensures served max_count most)) in
    let page = encoded_is a c.args.type_ nested c.requires.values c.know.ensures served c.args.options k stated c.page_header-header.result c.descriptor_of-descriptor.result c.args.encoded.body.buffer.items c.args.encoded.body.repetition c.args.encoded.body.definition c.requires.well c.requires.holds.2 c.requires.room c.requires.stored st (c.page_header-header.ensures.is k _ c.requires.holds.1 out) c.descriptor_of-descriptor.ensures.about c.descriptor_of-descriptor.ensures.repeats c.descriptor_of-descriptor.ensures.defines in
    (k, ap encoding_view c.requires.holds.1 ∙ named_back k, subst (λ (x : DataPageValue). IsPageAlong c.args.options k col x) (sym c.new.ensures) page)
