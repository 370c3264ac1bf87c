use Rattle.std.proofs.Common.{◌≡◌, ◌-◌, ◌^◌, List, length, min, option_map, arith, sym, subst}
use Rattle.shredding.specs.Shape.{LeafType}
use Rattle.shredding.specs.Shred.{Triple}
use Rattle.columns_core.specs.Shapes.{leaf_type}
use Rattle.columns_entries.specs.Entries.{entries_of}
use Rattle.columns_slots.specs.Slots.{child_of, type_of}
use Rattle.columns_slots.specs.Tree.{ArrayTree}
use Rattle.levels.specs.declared.nested.Nested.{Nested}
use Rattle.levels.specs.Nested.{nested_column, parts_of}
use Rattle.nested_paths.specs.LeafNulls.{value_at}
use Rattle.pq_tree.specs.Views.{physical_view, statistics_view}
use Rattle.write_places.specs.Places.{path_places}
use Rattle.write_values.proofs.Made.{few_values}
use Rattle.dictionary_pages.specs.Pages.{AreStatedBy}
use Rattle.dictionary_pages.specs.Seen.{IsSeenPath}
use Rattle.dictionary_pages.proofs.IndexMade.{nulls_are}
use Rattle.dictionary_pages.proofs.Named.{entry_kinds, over_entries}
use Rattle.dictionary_pages.proofs.SeenColumns.{all_named, column_is}
use Rattle.dictionary_pages.proofs.statistics.dictionary_statistics.Goals as goal

pub reach_along-reached-requires-clause-named : goal.reach_along-reached-requires-clause-named
reach_along-reached-requires-clause-named c =
    let a = c.args.array.now in
    let p = physical_view c.args.physical_type in
    let old = parts_of c.args.nested.now in
    let s : IsSeenPath a old (parts_of c.deref.result.now) = subst (λ (ns : List Nested). IsSeenPath a old (parts_of ns)) (sym c.deref.ensures.value) c.in_ok-seen.ensures.ok in
    let o = over_entries a p c.know.ensures.parts c.know.ensures.sound c.requires.served in
    all_named a o p c.know.ensures.sound c.requires.served old c.deref.result.now s c.requires.rows.in_range

pub overflow_sub-nulls : goal.overflow_sub-nulls
overflow_sub-nulls c =
    let values = value_at c.args.array.now in
    let items = c.in_ok-seen.seen.items in
    let pairs : c.num_values.result ≡ min (length (nested_column values items)) (2 ^ 64 - 1) = subst (λ (ns : List Nested). c.num_values.result ≡ min (length (nested_column values ns)) (2 ^ 64 - 1)) c.deref-2.ensures.value (c.num_values.ensures values) in
    let count : c.reach_along-reached.result.values.values ≡ min (length (path_places (parts_of items))) (2 ^ 64 - 1) =
    subst (λ (ns : List Nested). c.reach_along-reached.result.values.values ≡ min (length (path_places (parts_of ns))) (2 ^ 64 - 1)) c.deref.ensures.value c.reach_along-reached.ensures.values.values in
    omega (arith, pairs, count, few_values (physical_view c.args.physical_type) values items)

pub returns-clause-ok : goal.returns-clause-ok
returns-clause-ok c =
    let a = c.args.array.now in
    let p = physical_view c.args.physical_type in
    let old = parts_of c.args.nested.now in
    let values = value_at a in
    let items = c.in_ok-seen.seen.items in
    let o = over_entries a p c.know.ensures.parts c.know.ensures.sound c.requires.served in
    let pairs : c.num_values.result ≡ min (length (nested_column values items)) (2 ^ 64 - 1) = subst (λ (ns : List Nested). c.num_values.result ≡ min (length (nested_column values ns)) (2 ^ 64 - 1)) c.deref-2.ensures.value (c.num_values.ensures values) in
    let count : c.reach_along-reached.result.values.values ≡ min (length (path_places (parts_of items))) (2 ^ 64 - 1) =
    subst (λ (ns : List Nested). c.reach_along-reached.result.values.values ≡ min (length (path_places (parts_of ns))) (2 ^ 64 - 1)) c.deref.ensures.value c.reach_along-reached.ensures.values.values in
    let ts = nested_column values items in
    let stated = option_map statistics_view c.in_ok-statistics.statistics in
    let told = c.in_ok-statistics.ensures.ok ts (nulls_are values items c.num_values.result c.reach_along-reached.result.values.values pairs count) in
    subst (λ (xs : List Triple). AreStatedBy c.args.is_wanted (leaf_type (type_of a)) p (entries_of (child_of a)) xs stated) (column_is a old items c.in_ok-seen.ensures.ok)
    (subst (λ (t : LeafType). AreStatedBy c.args.is_wanted t p (entries_of (child_of a)) ts stated) (sym (entry_kinds a o p c.know.ensures.sound c.requires.served))
    (subst (λ (x : ArrayTree). AreStatedBy c.args.is_wanted (leaf_type (type_of x)) p (entries_of x) ts stated) c.values-2.ensures told))
