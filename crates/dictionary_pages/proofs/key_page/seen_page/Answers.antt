use Rattle.std.proofs.Common.{◌≡◌, ◌≤◌, ◌-◌, ◌∙◌, ℤ, List, map, length, option_map, is_none, refl, ap, sym, subst, arith, rules, inr, true≢false}
use Rattle.std.specs.Prelude.{count_by}
use Rattle.shredding.specs.Parts.{path_slots, path_way}
use Rattle.shredding.specs.Shape.{LeafType}
use Rattle.shredding.specs.Slot.{value}
use Rattle.columns_core.specs.Shapes.{leaf_type}
use Rattle.columns_entries.specs.Entries.{entries_of}
use Rattle.columns_slots.specs.Slots.{child_of, entry_at, keys_in, tree_len, type_of}
use Rattle.columns_slots.specs.Tree.{ArrayTree}
use Rattle.levels.specs.Nested.{nested_column, parts_of}
use Rattle.nested_paths.specs.LeafNulls.{value_at}
use Rattle.pq_tree.specs.Views.{physical_view, statistics_view}
use Rattle.pq_files.specs.Page.{dictionary}
use Rattle.pq_files.specs.Room.{room, max_count, max_size}
use Rattle.pq_pages.specs.DataPages.{DataPageValue, is_named}
use Rattle.write_places.specs.Places.{path_places}
use Rattle.write_values.specs.Stored.{stored_at}
use Rattle.write_values.proofs.Made.{few_values, out_is, room_over, room_within, rows_few}
use Rattle.dictionary_pages.specs.Entries.{stored_entries}
use Rattle.dictionary_pages.specs.Pages.{AreStatedBy, HoldsIndices, IsIndexBody}
use Rattle.dictionary_pages.proofs.IndexMade.{index_holds, index_low, nulls_are, short_sections}
use Rattle.dictionary_pages.proofs.Named.{entries_count, entry_kinds, over_entries}
use Rattle.dictionary_pages.proofs.key_page.seen_page.Goals as goal

pub returns-then-not-has_room-clause-err : goal.returns-then-not-has_room-clause-err
returns-then-not-has_room-clause-err c =
    let a = c.args.array.now in
    let p = physical_view c.args.type_.physical_type in
    let stored = stored_at a p in
    let no : ¬ (room c.num_values-pairs.result c.reach_along-reached.result.values.plain ≤ max_size) = λ h. true≢false (sym (c.has_room.ensures.1 h) ∙ c.if-not-has_room.true) in
    inr (refl, room_over p stored c.args.nested.now (tree_len a) c.num_values-pairs.result c.reach_along-reached.result.values (c.num_values-pairs.ensures stored) c.reach_along-reached.ensures.values no)

pub page_body-requires-clause-low : goal.page_body-requires-clause-low
page_body-requires-clause-low c = index_low c.args.array.now (path_places (parts_of c.args.nested.now)) c.reach_along-reached.result.largest c.requires.few c.requires.named c.reach_along-reached.ensures.largest

pub page_body-requires-clause-room : goal.page_body-requires-clause-room
page_body-requires-clause-room c = λ values.
    let yes : room c.num_values-pairs.result c.reach_along-reached.result.values.plain ≤ max_size = c.has_room.ensures.0 c.if-not-has_room.false in
    omega (arith, yes, c.num_values-pairs.ensures values)

pub overflow_sub-nulls : goal.overflow_sub-nulls
overflow_sub-nulls c =
    let p = physical_view c.args.type_.physical_type in
    let stored = stored_at c.args.array.now p in
    omega (arith, c.num_values-pairs.ensures stored, c.reach_along-reached.ensures.values.values, few_values p stored c.args.nested.now)

pub page_header-header-requires-clause-rows : goal.page_header-header-requires-clause-rows
page_header-header-requires-clause-rows c =
    let p = physical_view c.args.type_.physical_type in
    let stored = stored_at c.args.array.now p in
    let yes : room c.num_values-pairs.result c.reach_along-reached.result.values.plain ≤ max_size = c.has_room.ensures.0 c.if-not-has_room.false in
    omega (arith, c.num_values-pairs.ensures stored, rows_few p stored c.args.nested.now, yes, c.slot_count-rows.ensures)

pub overflow_cast-counts-3 : goal.overflow_cast-counts-3
overflow_cast-counts-3 c =
    let p = physical_view c.args.type_.physical_type in
    let stored = stored_at c.args.array.now p in
    let yes : room c.num_values-pairs.result c.reach_along-reached.result.values.plain ≤ max_size = c.has_room.ensures.0 c.if-not-has_room.false in
    let rows : c.slot_count-rows.result ≤ 2147483647 = omega (arith, c.num_values-pairs.ensures stored, rows_few p stored c.args.nested.now, yes, c.slot_count-rows.ensures) in
    omega arith

pub new-requires : goal.new-requires
new-requires c = record {
  values = rw c.page_header-header.ensures.values (search rules);
  encoding = ap is_named c.page_header-header.ensures.encoding;
  definition = rw c.descriptor_of-descriptor.ensures.defines (search rules);
  repetition = rw c.descriptor_of-descriptor.ensures.repeats (search rules);
}

pub returns-clause-ok : goal.returns-clause-ok
returns-clause-ok c =
    let a = c.args.array.now in
    let p = physical_view c.args.type_.physical_type in
    let stored = stored_at a p in
    let nested = c.args.nested.now in
    let places = path_places (parts_of nested) in
    let are = c.requires.entries.entries in
    let o = over_entries a p c.know.ensures.parts c.know.ensures.sound are in
    let yes : room c.num_values-pairs.result c.reach_along-reached.result.values.plain ≤ max_size = c.has_room.ensures.0 c.if-not-has_room.false in
    let fits = room_within p stored nested (tree_len a) c.num_values-pairs.result c.reach_along-reached.result.values (c.num_values-pairs.ensures stored) c.reach_along-reached.ensures.values yes in
    let few = few_values p stored nested in
    let pairs : c.num_values-pairs.result ≡ length (nested_column stored nested) = omega (arith, c.num_values-pairs.ensures stored, yes) in
    let count : c.reach_along-reached.result.values.values ≡ length places = omega (arith, c.reach_along-reached.ensures.values.values, few, fits) in
    let ts = nested_column (value_at a) nested in
    let most : length ts ≤ max_count = omega (arith, c.num_values-pairs.ensures (value_at a), yes) in
    let nulls : length ts ≤ max_count → c.num_values-pairs.result - c.reach_along-reached.result.values.values ≡ count_by (λ t. is_none t.value) ts = nulls_are (value_at a) nested c.num_values-pairs.result c.reach_along-reached.result.values.values (c.num_values-pairs.ensures (value_at a)) c.reach_along-reached.ensures.values.values in
    let stated = option_map statistics_view c.in_ok-statistics.statistics in
    let told : AreStatedBy c.args.form.with_statistics (leaf_type (type_of a)) p (entries_of (child_of a)) ts stated =
    subst (λ (t : LeafType). AreStatedBy c.args.form.with_statistics t p (entries_of (child_of a)) ts stated) (sym (entry_kinds a o p c.know.ensures.sound are))
    (subst (λ (x : ArrayTree). AreStatedBy c.args.form.with_statistics (leaf_type (type_of x)) p (entries_of x) ts stated) c.values.ensures (c.in_ok-statistics.ensures.ok ts nulls)) in
    let body : IsIndexBody c.args.form.version nested stored (map (entry_at (keys_in a)) places) c.in_ok-body.body = subst (λ (ks : List ℤ). IsIndexBody c.args.form.version nested stored (map (entry_at ks) places) c.in_ok-body.body) c.keys.ensures.keys (c.in_ok-body.ensures.ok stored) in
    let less : length (entries_of (child_of a)) ≤ max_count = omega (arith, entries_count (child_of a), c.requires.few) in
    let out = out_is dictionary stored told.out stated nested c.num_values-pairs.result c.reach_along-reached.result.values.values c.slot_count-rows.result c.requires.well pairs count c.slot_count-rows.ensures (told.are most less) in
    subst (λ (x : DataPageValue). HoldsIndices c.args.form (leaf_type (type_of a)) p (path_way (parts_of nested)) (entries_of (child_of a)) (stored_entries (child_of a) p) (path_slots (λ i. value (value_at a i)) (parts_of nested)) c.args.type_ x) (sym c.new.ensures)
    (index_holds a o p c.know.ensures.sound are nested c.requires.named c.args.form c.args.type_ c.in_ok-body.body c.page_header-header.result c.descriptor_of-descriptor.result stated c.requires.well body told (c.page_header-header.ensures.is dictionary _ refl out) fits c.descriptor_of-descriptor.ensures.about c.descriptor_of-descriptor.ensures.repeats c.descriptor_of-descriptor.ensures.defines)

pub page_header-header-requires-clause-repetition : goal.page_header-header-requires-clause-repetition
page_header-header-requires-clause-repetition c =
    let stored = stored_at c.args.array.now (physical_view c.args.type_.physical_type) in
    let yes : room c.num_values-pairs.result c.reach_along-reached.result.values.plain ≤ max_size = c.has_room.ensures.0 c.if-not-has_room.false in
    (short_sections c.args.form.version c.args.nested.now stored _ c.in_ok-body.body (c.in_ok-body.ensures.ok stored) (omega (arith, yes, c.num_values-pairs.ensures stored))).0

pub page_header-header-requires-clause-definition : goal.page_header-header-requires-clause-definition
page_header-header-requires-clause-definition c =
    let stored = stored_at c.args.array.now (physical_view c.args.type_.physical_type) in
    let yes : room c.num_values-pairs.result c.reach_along-reached.result.values.plain ≤ max_size = c.has_room.ensures.0 c.if-not-has_room.false in
    (short_sections c.args.form.version c.args.nested.now stored _ c.in_ok-body.body (c.in_ok-body.ensures.ok stored) (omega (arith, yes, c.num_values-pairs.ensures stored))).1
