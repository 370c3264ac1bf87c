use Rattle.std.proofs.Common.{◌≡◌, ◌∙◌, true, false, List, ap, option_map, subst, take, drop}
use Rattle.shredding.specs.Parts.{path_way, path_slots}
use Rattle.columns_array.specs.Boxed.{boxed}
use Rattle.columns_core.specs.Shapes.{base, leaf_type}
use Rattle.columns_core.specs.Tree.{TypeTree}
use Rattle.columns_slots.specs.Slots.{type_of}
use Rattle.columns_slots.specs.Types.{is_null_type}
use Rattle.levels.specs.declared.nested.Nested.{Nested}
use Rattle.levels.specs.Nested.{parts_of}
use Rattle.nested_paths.specs.Seen.{leaf_slot}
use Rattle.pq_tree.specs.Views.{physical_view, statistics_view}
use Rattle.write_values.specs.Known.{AreKnown}
use Rattle.write_values.specs.Nulls.{TellsNulls}
use Rattle.write_values.specs.Served.{is_served}
use Rattle.write_pages.specs.Holds.{rows_of}
use Rattle.write_pages.proofs.HiddenPaths.{others_told}
use Rattle.write_pages.proofs.Moved.{stated_moved}
use Rattle.write_pages.proofs.PageRows.{each_ok, rows_held, rows_stated}
use Rattle.write_pages.proofs.WidePieces.{piece_wide, wide_moved}
use Rattle.write_pages.proofs.known_pages.known_page.Goals as goal

pub known_values-requires-clause-nulls : goal.known_values-requires-clause-nulls
known_values-requires-clause-nulls c =
    let own = boxed c.in_ok-rows.rows.array in
    let values : is_null_type (base (type_of own)) ≡ false = ap (λ (t : TypeTree). is_null_type (base t)) c.in_ok-rows.ensures.ok.type ∙ c.requires.has_values in
    others_told own (parts_of c.deref.result.now) c.know.ensures values

pub known_values-requires-clause-served : goal.known_values-requires-clause-served
known_values-requires-clause-served c =
    ap (λ (t : TypeTree). is_served (base t) (physical_view c.args.physical_type)) c.in_ok-rows.ensures.ok.type ∙ c.requires.served

pub known_values-requires-clause-held : goal.known_values-requires-clause-held
known_values-requires-clause-held c =
    let h = c.in_ok-rows.ensures.ok in
    let own = boxed c.in_ok-rows.rows.array in
    let a = boxed c.args.array.now in
    let p = physical_view c.args.physical_type in
    let parts = parts_of c.args.nested.now in
    let served : is_served (base (type_of own)) p ≡ true = ap (λ (t : TypeTree). is_served (base t) p) h.type ∙ c.requires.served in
    let values : is_null_type (base (type_of own)) ≡ false = ap (λ (t : TypeTree). is_null_type (base t)) h.type ∙ c.requires.has_values in
    let nulls : TellsNulls own (parts_of c.deref.result.now) = others_told own (parts_of c.deref.result.now) c.know.ensures values in
    let way : path_way (parts_of c.deref.result.now) ≡ path_way parts = ap (λ (xs : List Nested). path_way (parts_of xs)) c.deref.ensures.value ∙ h.way in
    let rows : path_slots (leaf_slot own) (parts_of c.deref.result.now) ≡ take c.args.count (drop c.args.first (rows_of parts a)) =
    ap (λ (xs : List Nested). path_slots (leaf_slot own) (parts_of xs)) c.deref.ensures.value ∙ h.rows in
    rows_held own p c.deref.result.now c.know.ensures served nulls
    (λ w. c.requires.held (piece_wide (leaf_type (type_of a)) p (path_way parts) (rows_of parts a) c.args.first c.args.count (wide_moved _ _ p _ _ _ _ (ap leaf_type h.type) way rows w)))

pub returns-clause-ok : goal.returns-clause-ok
returns-clause-ok c =
    let own = boxed c.in_ok-rows.rows.array in
    let p = physical_view c.args.physical_type in
    each_ok c.known_values.result _ _
    (λ k h. record {
      rows = c.in_ok-rows.rows;
      tree = c.in_ok-rows.ensures.tree;
      path = c.in_ok-rows.ensures.path;
      has_values = c.requires.has_values;
      are_known = subst (λ (xs : List Nested). AreKnown true own p xs k) c.deref.ensures.value h;
    }) c.known_values.ensures.ok

pub returns-clause-stated : goal.returns-clause-stated
returns-clause-stated c =
    let h = c.in_ok-rows.ensures.ok in
    let own = boxed c.in_ok-rows.rows.array in
    let a = boxed c.args.array.now in
    let p = physical_view c.args.physical_type in
    let parts = parts_of c.args.nested.now in
    let served : is_served (base (type_of own)) p ≡ true = ap (λ (t : TypeTree). is_served (base t) p) h.type ∙ c.requires.served in
    let values : is_null_type (base (type_of own)) ≡ false = ap (λ (t : TypeTree). is_null_type (base t)) h.type ∙ c.requires.has_values in
    let nulls : TellsNulls own (parts_of c.deref.result.now) = others_told own (parts_of c.deref.result.now) c.know.ensures values in
    let way : path_way (parts_of c.deref.result.now) ≡ path_way parts = ap (λ (xs : List Nested). path_way (parts_of xs)) c.deref.ensures.value ∙ h.way in
    let rows : path_slots (leaf_slot own) (parts_of c.deref.result.now) ≡ take c.args.count (drop c.args.first (rows_of parts a)) =
    ap (λ (xs : List Nested). path_slots (leaf_slot own) (parts_of xs)) c.deref.ensures.value ∙ h.rows in
    each_ok c.known_values.result _ _
    (λ k known. stated_moved true _ _ p _ _ _ _ (option_map statistics_view k.statistics) (ap leaf_type h.type) way rows
    (rows_stated own p c.deref.result.now c.know.ensures served nulls true (option_map statistics_view k.statistics) known.stated)) c.known_values.ensures.ok
