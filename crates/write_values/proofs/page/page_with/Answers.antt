use Rattle.std.proofs.Common.{option_map, None, ◌≡◌, ◌≤◌, ◌∙◌, length, ap, sym, subst, arith, refl, rules, inr, true≢false}
use Rattle.columns_slots.specs.Slots.{tree_len}
use Rattle.levels.specs.Nested.{parts_of, nested_column}
use Rattle.nested_paths.specs.LeafNulls.{value_at}
use Rattle.pq_tree.specs.Views.{statistics_view}
use Rattle.pq_files.specs.Room.{room, max_count, max_size}
use Rattle.shredding.specs.Parts.{path_way}
use Rattle.shredding.specs.Shred.{max_repetition, max_definition}
use Rattle.pq_files.specs.Page.{Encoding}
use Rattle.pq_pages.specs.Denotes.{Denotes}
use Rattle.pq_pages.specs.DataPages.{DataPageValue, is_named}
use Rattle.write_places.specs.Places.{path_places}
use Rattle.write_values.specs.Leaf.{leaf_tree, leaf_physical}
use Rattle.write_values.specs.Deltas.{encoding_in}
use Rattle.write_values.specs.Pages.{IsColumnPage, out_page, stored_column}
use Rattle.write_values.specs.Stored.{stored_at}
use Rattle.write_values.proofs.ServedDeltas.{is_numbered, named_number}
use Rattle.write_values.proofs.Made.{denotes, out_is, room_over, room_within, few_values, rows_few}
use Rattle.write_values.proofs.page.page_with.Goals as goal

pub returns-then-not-has_room-clause-err : goal.returns-then-not-has_room-clause-err
returns-then-not-has_room-clause-err c =
    let leaf = c.args.leaf in
    let stored = stored_at (leaf_tree leaf) (leaf_physical leaf) in
    let no : ¬ (room c.num_values-pairs.result c.args.known.measured.plain ≤ max_size) = λ h. true≢false (sym (c.has_room.ensures.1 h) ∙ c.if-not-has_room.true) in
    inr (refl, room_over (leaf_physical leaf) stored c.args.nested.now (tree_len (leaf_tree leaf)) c.num_values-pairs.result c.args.known.measured (c.num_values-pairs.ensures stored) c.requires.known.measures no)

pub page_body-requires-clause-room : goal.page_body-requires-clause-room
page_body-requires-clause-room c =
    let leaf = c.args.leaf in
    let stored = stored_at (leaf_tree leaf) (leaf_physical leaf) in
    let yes : room c.num_values-pairs.result c.args.known.measured.plain ≤ max_size = c.has_room.ensures.0 c.if-not-has_room.false in
    room_within (leaf_physical leaf) stored c.args.nested.now (tree_len (leaf_tree leaf)) c.num_values-pairs.result c.args.known.measured (c.num_values-pairs.ensures stored) c.requires.known.measures yes

pub page_body-requires-clause-pairs : goal.page_body-requires-clause-pairs
page_body-requires-clause-pairs c =
    let yes : room c.num_values-pairs.result c.args.known.measured.plain ≤ max_size = c.has_room.ensures.0 c.if-not-has_room.false in
    omega (arith, yes)

pub page_body-requires-clause-count : goal.page_body-requires-clause-count
page_body-requires-clause-count c =
    let leaf = c.args.leaf in
    let p = leaf_physical leaf in
    let stored = stored_at (leaf_tree leaf) p in
    let nested = c.args.nested.now in
    let yes : room c.num_values-pairs.result c.args.known.measured.plain ≤ max_size = c.has_room.ensures.0 c.if-not-has_room.false in
    let fits = room_within p stored nested (tree_len (leaf_tree leaf)) c.num_values-pairs.result c.args.known.measured (c.num_values-pairs.ensures stored) c.requires.known.measures yes in
    omega (arith, c.requires.known.measures.values, few_values p stored nested, fits)

pub overflow_sub-counts : goal.overflow_sub-counts
overflow_sub-counts c =
    let leaf = c.args.leaf in
    let stored = stored_at (leaf_tree leaf) (leaf_physical leaf) in
    omega (arith, c.num_values-pairs.ensures stored, c.requires.known.measures.values, few_values (leaf_physical leaf) stored c.args.nested.now)

pub overflow_cast-counts-3 : goal.overflow_cast-counts-3
overflow_cast-counts-3 c =
    let leaf = c.args.leaf in
    let stored = stored_at (leaf_tree leaf) (leaf_physical leaf) in
    let yes : room c.num_values-pairs.result c.args.known.measured.plain ≤ max_size = c.has_room.ensures.0 c.if-not-has_room.false in
    let rows : c.slot_count-rows.result ≤ 2147483647 = omega (arith, c.num_values-pairs.ensures stored, rows_few (leaf_physical leaf) stored c.args.nested.now, yes, c.slot_count-rows.ensures) in
    omega arith

pub page_header-header-requires-clause-rows : goal.page_header-header-requires-clause-rows
page_header-header-requires-clause-rows c =
    let leaf = c.args.leaf in
    let stored = stored_at (leaf_tree leaf) (leaf_physical leaf) in
    let yes : room c.num_values-pairs.result c.args.known.measured.plain ≤ max_size = c.has_room.ensures.0 c.if-not-has_room.false in
    omega (arith, c.num_values-pairs.ensures stored, rows_few (leaf_physical leaf) stored c.args.nested.now, yes, c.slot_count-rows.ensures)

pub new-requires : goal.new-requires
new-requires c = record {
  values = rw c.page_header-header.ensures.values (search rules);
  encoding = ap is_named (c.page_header-header.ensures.encoding ∙ named_number c.encoding_in-encoding.result (encoding_in c.args.deltas) c.encoding_in-encoding.ensures) ∙ is_numbered c.args.deltas;
  definition = rw c.descriptor_of-descriptor.ensures.defines (search rules);
  repetition = rw c.descriptor_of-descriptor.ensures.repeats (search rules);
}

pub returns-clause-ok : goal.returns-clause-ok
returns-clause-ok c =
    let leaf = c.args.leaf in
    let p = leaf_physical leaf in
    let stored = stored_at (leaf_tree leaf) p in
    let nested = c.args.nested.now in
    let yes : room c.num_values-pairs.result c.args.known.measured.plain ≤ max_size = c.has_room.ensures.0 c.if-not-has_room.false in
    let fits = room_within p stored nested (tree_len (leaf_tree leaf)) c.num_values-pairs.result c.args.known.measured (c.num_values-pairs.ensures stored) c.requires.known.measures yes in
    let few = few_values p stored nested in
    let pairs : c.num_values-pairs.result ≡ length (nested_column stored nested) = omega (arith, c.num_values-pairs.ensures stored, yes) in
    let count : c.args.known.measured.values ≡ length (path_places (parts_of nested)) = omega (arith, c.requires.known.measures.values, few, fits) in
    let a = leaf_tree leaf in
    let st = c.requires.known.stated in
    let most : length (nested_column (value_at a) nested) ≤ max_count = omega (arith, c.num_values-pairs.ensures (value_at a), yes) in
    let e = encoding_in c.args.deltas in
    let out = out_is e stored st.out (option_map statistics_view c.args.known.statistics) nested c.num_values-pairs.result c.args.known.measured.values c.slot_count-rows.result c.requires.well pairs count c.slot_count-rows.ensures (st.are most) in
    subst (λ (x : DataPageValue). IsColumnPage c.args.form a p c.args.type_ nested x) (sym c.new.ensures)
    (record {
      statistics = st.out;
      has = st.has;
      exact = st.exact;
      denotes = subst (λ (k : Encoding). Denotes c.args.form.version p (max_repetition (path_way (parts_of nested))) (max_definition (path_way (parts_of nested))) None (out_page k (stored_column a p nested) st.out) (record { header = c.page_header-header.result; buffer = c.in_ok-body.body.buffer.items; descriptor = c.descriptor_of-descriptor.result; selected_rows = None })) c.requires.spelling.encoding (denotes c.args.form.version e p stored st.out nested c.in_ok-body.body c.page_header-header.result c.descriptor_of-descriptor.result c.requires.well c.in_ok-body.ensures.ok (c.page_header-header.ensures.is e _ c.encoding_in-encoding.ensures out) fits);
      within = fits;
      about = c.descriptor_of-descriptor.ensures.about;
      repeats = c.descriptor_of-descriptor.ensures.repeats;
      defines = c.descriptor_of-descriptor.ensures.defines;
    })
