use Rattle.std.proofs.Common.{◌≡◌, ◌∙◌, List, true, ap, option_map, refl, subst, sym}
use Rattle.shredding.specs.Parts.{path_way, path_slots, slot_count}
use Rattle.columns_array.specs.Boxed.{boxed}
use Rattle.columns_core.specs.Shapes.{base, leaf_type}
use Rattle.columns_core.specs.Tree.{TypeTree}
use Rattle.columns_slots.specs.Slots.{tree_len, type_of}
use Rattle.levels.specs.declared.nested.Nested.{Nested}
use Rattle.levels.specs.Nested.{parts_of}
use Rattle.nested_paths.specs.Seen.{leaf_slot}
use Rattle.pq_tree.specs.Views.{physical_view, statistics_view}
use Rattle.write_places.specs.Places.{path_places}
use Rattle.write_values.specs.Rows.{Measures}
use Rattle.write_values.specs.Served.{is_served}
use Rattle.write_values.specs.Stored.{stored_at}
use Rattle.write_pages.specs.Holds.{rows_of}
use Rattle.write_pages.proofs.Moved.{all_rows, measured_moved, stated_moved}
use Rattle.write_pages.proofs.PageRows.{values_stated}
use Rattle.write_pages.proofs.WidePieces.{wide_moved}
use Rattle.write_pages.proofs.known_column.known_column.Goals as goal

pub measured_rows-requires-clause-served : goal.measured_rows-requires-clause-served
measured_rows-requires-clause-served c =
    ap (λ (t : TypeTree). is_served (base t) (physical_view c.args.physical_type)) c.in_ok-rows.ensures.ok.type ∙ c.requires.served

pub measured_rows-requires-clause-held : goal.measured_rows-requires-clause-held
measured_rows-requires-clause-held c = λ w.
    let h = c.in_ok-rows.ensures.ok in
    let own = boxed c.in_ok-rows.rows.array in
    let parts = parts_of c.args.nested.now in
    let rows : path_slots (leaf_slot own) (parts_of c.deref.result.now) ≡ rows_of parts (boxed c.args.array.now) =
    ap (λ (xs : List Nested). path_slots (leaf_slot own) (parts_of xs)) c.deref.ensures.value ∙ (h.rows ∙ all_rows parts (boxed c.args.array.now) (slot_count parts) refl) in
    let way : path_way (parts_of c.deref.result.now) ≡ path_way parts = ap (λ (xs : List Nested). path_way (parts_of xs)) c.deref.ensures.value ∙ h.way in
    c.in_ok-rows.ensures.held (wide_moved _ _ (physical_view c.args.physical_type) _ _ _ _ (ap leaf_type h.type) way rows w)

pub found_statistics-requires-clause-measured : goal.found_statistics-requires-clause-measured
found_statistics-requires-clause-measured c =
    let h = c.in_ok-rows.ensures.ok in
    let own = boxed c.in_ok-rows.rows.array in
    let parts = parts_of c.args.nested.now in
    let rows : path_slots (leaf_slot own) (parts_of c.deref.result.now) ≡ rows_of parts (boxed c.args.array.now) =
    ap (λ (xs : List Nested). path_slots (leaf_slot own) (parts_of xs)) c.deref.ensures.value ∙ (h.rows ∙ all_rows parts (boxed c.args.array.now) (slot_count parts) refl) in
    let way : path_way (parts_of c.deref.result.now) ≡ path_way parts = ap (λ (xs : List Nested). path_way (parts_of xs)) c.deref.ensures.value ∙ h.way in
    measured_moved _ _ (physical_view c.args.physical_type) _ _ _ _ c.in_ok-measured.measured.plain (ap leaf_type h.type) way rows c.in_ok-measured.ensures.measured

pub returns-clause-ok : goal.returns-clause-ok
returns-clause-ok c =
    let h = c.in_ok-rows.ensures.ok in
    let a = boxed c.args.array.now in
    let own = boxed c.in_ok-rows.rows.array in
    let own_path = c.in_ok-rows.rows.nested.items in
    let p = physical_view c.args.physical_type in
    let parts = parts_of c.args.nested.now in
    let rows : path_slots (leaf_slot own) (parts_of own_path) ≡ rows_of parts a = h.rows ∙ all_rows parts a (slot_count parts) refl in
    let served : is_served (base (type_of own)) p ≡ true = ap (λ (t : TypeTree). is_served (base t) p) h.type ∙ c.requires.served in
    let s = option_map statistics_view c.in_ok-found.found.statistics in
    record {
      all = h;
      told = c.in_ok-rows.ensures.told;
      are_known = record {
        measures = subst (λ (xs : List Nested). Measures p (tree_len own) (stored_at own p) (path_places (parts_of xs)) c.in_ok-measured.measured) c.deref.ensures.value c.in_ok-measured.ensures.measures;
        stated =
            values_stated own p own_path c.know.ensures served c.in_ok-rows.ensures.told c.args.is_wanted s
            (stated_moved c.args.is_wanted _ _ p _ _ _ _ s (sym (ap leaf_type h.type)) (sym h.way) (sym rows) c.in_ok-found.ensures.ok.stated);
      };
      pages = c.in_ok-found.ensures.ok.pages;
    }

pub returns-clause-measured : goal.returns-clause-measured
returns-clause-measured c =
    let h = c.in_ok-rows.ensures.ok in
    let own = boxed c.in_ok-rows.rows.array in
    let parts = parts_of c.args.nested.now in
    let rows : path_slots (leaf_slot own) (parts_of c.deref.result.now) ≡ rows_of parts (boxed c.args.array.now) =
    ap (λ (xs : List Nested). path_slots (leaf_slot own) (parts_of xs)) c.deref.ensures.value ∙ (h.rows ∙ all_rows parts (boxed c.args.array.now) (slot_count parts) refl) in
    let way : path_way (parts_of c.deref.result.now) ≡ path_way parts = ap (λ (xs : List Nested). path_way (parts_of xs)) c.deref.ensures.value ∙ h.way in
    measured_moved _ _ (physical_view c.args.physical_type) _ _ _ _ c.in_ok-measured.measured.plain (ap leaf_type h.type) way rows c.in_ok-measured.ensures.measured

pub returns-clause-stated : goal.returns-clause-stated
returns-clause-stated c = c.in_ok-found.ensures.ok.stated
