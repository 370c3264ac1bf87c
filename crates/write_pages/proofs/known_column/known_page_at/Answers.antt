use Rattle.std.proofs.Common.{◌≡◌, ◌∙◌, false, List, ap, inl, inr, subst, sym}
use Rattle.shredding.specs.Parts.{path_way, path_slots}
use Rattle.columns_array.specs.Boxed.{boxed}
use Rattle.columns_core.specs.Shapes.{base, leaf_type}
use Rattle.columns_core.specs.Tree.{TypeTree}
use Rattle.columns_slots.specs.Slots.{type_of}
use Rattle.columns_slots.specs.Types.{is_null_type}
use Rattle.levels.specs.declared.nested.Nested.{Nested}
use Rattle.levels.specs.Nested.{parts_of}
use Rattle.nested_paths.specs.Seen.{leaf_slot}
use Rattle.pq_tree.specs.Physical.{Physical}
use Rattle.pq_tree.specs.Views.{physical_view}
use Rattle.shredding.specs.Shred.{column}
use Rattle.write_values.specs.Decimals.{HasWide}
use Rattle.write_pages.specs.Holds.{rows_of}
use Rattle.write_pages.proofs.HiddenPaths.{others_told}
use Rattle.write_pages.proofs.JoinedRows.{known_same}
use Rattle.write_pages.proofs.WidePieces.{physical_in, past_moved, piece_wide, wide_moved}
use Rattle.write_pages.proofs.known_column.known_page_at.Goals as goal

pub known_page-requires-clause-nulls : goal.known_page-requires-clause-nulls
known_page-requires-clause-nulls c =
    let own = boxed c.in_ok-rows.rows.array in
    let values : is_null_type (base (type_of own)) ≡ false = ap (λ (t : TypeTree). is_null_type (base t)) c.in_ok-rows.ensures.ok.type ∙ c.requires.known.has_values in
    others_told own (parts_of c.deref.result.now) c.know.ensures values

pub known_page-requires-clause-held : goal.known_page-requires-clause-held
known_page-requires-clause-held c = λ w.
    let h = c.in_ok-rows.ensures.ok in
    let a = boxed c.args.array.now in
    let parts = parts_of c.args.nested.now in
    let same : physical_view c.in_ok-type_.type_.physical_type ≡ physical_view c.args.type_.now.physical_type = ap physical_in c.in_ok-type_.ensures.same in
    c.requires.held
    (piece_wide (leaf_type (type_of a)) (physical_view c.args.type_.now.physical_type) (path_way parts) (rows_of parts a) c.args.first c.args.count
    (wide_moved _ _ (physical_view c.args.type_.now.physical_type) _ _ _ _ (ap leaf_type h.type) (ap (λ (xs : List Nested). path_way (parts_of xs)) c.deref.ensures.value ∙ h.way)
    (ap (λ (xs : List Nested). path_slots (leaf_slot (boxed c.in_ok-rows.rows.array)) (parts_of xs)) c.deref.ensures.value ∙ h.rows)
    (subst (λ (q : Physical). HasWide (leaf_type (type_of (boxed c.in_ok-rows.rows.array))) q (column (path_way (parts_of c.deref.result.now)) (path_slots (leaf_slot (boxed c.in_ok-rows.rows.array)) (parts_of c.deref.result.now)))) same w)))

pub known_page-requires-clause-known : goal.known_page-requires-clause-known
known_page-requires-clause-known c =
    let k = c.requires.known in
    let same : physical_view c.in_ok-type_.type_.physical_type ≡ physical_view c.args.type_.now.physical_type = ap physical_in c.in_ok-type_.ensures.same in
    known_same c.args.options.write_statistics _ _ _ _ _ _ c.args.known.now _ (k.tree ∙ sym c.in_ok-rows.ensures.tree) (sym same)
    (k.path ∙ (sym c.in_ok-rows.ensures.path ∙ ap parts_of (sym c.deref.ensures.value))) (sym c.in_ok-known.ensures.measured) (sym c.in_ok-known.ensures.statistics) k.are_known

pub returns-clause-err : goal.returns-clause-err
returns-clause-err c =
    let h = c.in_ok-rows.ensures.ok in
    let same : physical_view c.in_ok-type_.type_.physical_type ≡ physical_view c.args.type_.now.physical_type = ap physical_in c.in_ok-type_.ensures.same in
    let own = leaf_slot (boxed c.in_ok-rows.rows.array) in
    elim c.in-Err.ensures.err [
      | inl m ↦ inl m
      | inr e ↦
          inr (
            e.0,
            past_moved _ _ _ _ _ _ _ _ (ap leaf_type h.type) same (ap (λ (xs : List Nested). path_way (parts_of xs)) c.deref.ensures.value ∙ h.way)
                (ap (λ (xs : List Nested). path_slots own (parts_of xs)) c.deref.ensures.value ∙ h.rows) e.1,
          )
    ]
