use Rattle.std.proofs.Common.{◌≡◌, ◌∙◌, ℕ, List, All, ap, arith, drop, refl, subst, sym, take}
use Rattle.std.proofs.lemmas.List.{length-map}
use Rattle.shredding.specs.Parts.{path_slots, slot_count}
use Rattle.shredding.specs.Shape.{LeafType}
use Rattle.columns_array.specs.Boxed.{boxed}
use Rattle.columns_core.specs.Shapes.{leaf_type}
use Rattle.columns_slots.specs.Slots.{type_of}
use Rattle.levels.specs.Nested.{part_of, parts_of}
use Rattle.nested_paths.specs.Seen.{leaf_slot}
use Rattle.pq_tree.specs.TreeViews.{leaf_view}
use Rattle.pq_tree.specs.Views.{physical_view}
use Rattle.write_values.specs.Deltas.{page_encoding}
use Rattle.write_pages.specs.declared.known_pages.KnownPage.{KnownPage}
use Rattle.write_pages.specs.Holds.{rows_of}
use Rattle.write_pages.specs.KnownColumns.{IsKnownPage}
use Rattle.write_pages.proofs.KnownRows.{holds_moved}
use Rattle.write_pages.proofs.Moved.{all_rows}
use Rattle.write_pages.proofs.PageRows.{each_ok}
use Rattle.write_pages.proofs.WidePieces.{past_moved, past_told, wide_moved}
use Rattle.write_pages.proofs.leaf_pages.piece_page.Goals as goal

pub some_page-requires-clause-known : goal.some_page-requires-clause-known
some_page-requires-clause-known c =
    subst (λ (ks : List KnownPage). All (IsKnownPage c.args.options.write_statistics (boxed c.args.array.now) (parts_of c.args.nested.now) (physical_view c.args.type_.now.physical_type)) ks) (sym c.deref.ensures.value) c.requires.known.pages

pub whole_page-requires-clause-parts : goal.whole_page-requires-clause-parts
whole_page-requires-clause-parts c =
    omega (arith, c.requires.known.all.few, length-map c.args.nested.now part_of, c.requires.parts)

pub whole_page-requires-clause-held : goal.whole_page-requires-clause-held
whole_page-requires-clause-held c = λ w.
    let h = c.requires.known.all in
    let parts = parts_of c.args.nested.now in
    let a = boxed c.args.array.now in
    c.requires.held (wide_moved _ _ (physical_view c.args.type_.now.physical_type) _ _ _ _ (ap leaf_type h.type) h.way (h.rows ∙ all_rows parts a (slot_count parts) refl) w)

pub returns-clause-ok : goal.returns-clause-ok
returns-clause-ok c =
    let h = c.requires.known.all in
    let parts = parts_of c.args.nested.now in
    let a = boxed c.args.array.now in
    let own = boxed c.args.whole.now.rows.array in
    let p = physical_view c.args.type_.now.physical_type in
    let first : c.args.first ≡ 0 = omega (arith, c.requires.rows, c.slot_count.ensures, c.if-count-slot_count.false) in
    let count : c.args.count ≡ slot_count parts = omega (arith, c.requires.rows, c.slot_count.ensures, c.if-count-slot_count.false) in
    let rows : path_slots (leaf_slot own) (parts_of c.args.whole.now.rows.nested.items) ≡ take c.args.count (drop c.args.first (rows_of parts a)) =
    h.rows ∙ (ap (λ (n : ℕ). take n (drop 0 (rows_of parts a))) (sym count) ∙ ap (λ (n : ℕ). take c.args.count (drop n (rows_of parts a))) (sym first)) in
    each_ok c.whole_page.result _ _
    (λ page. holds_moved c.args.options (λ (t : LeafType). page_encoding c.args.with_deltas t p) (leaf_type (type_of own)) (leaf_type (type_of a)) (leaf_view c.args.type_.now) p _ _ _ _ page (ap leaf_type h.type) h.way rows) c.whole_page.ensures.ok

pub returns-clause-err : goal.returns-clause-err
returns-clause-err c =
    let h = c.requires.known.all in
    let parts = parts_of c.args.nested.now in
    let a = boxed c.args.array.now in
    let own = boxed c.args.whole.now.rows.array in
    let first : c.args.first ≡ 0 = omega (arith, c.requires.rows, c.slot_count.ensures, c.if-count-slot_count.false) in
    let count : c.args.count ≡ slot_count parts = omega (arith, c.requires.rows, c.slot_count.ensures, c.if-count-slot_count.false) in
    let rows : path_slots (leaf_slot own) (parts_of c.args.whole.now.rows.nested.items) ≡ take c.args.count (drop c.args.first (rows_of parts a)) =
    h.rows ∙ (ap (λ (n : ℕ). take n (drop 0 (rows_of parts a))) (sym count) ∙ ap (λ (n : ℕ). take c.args.count (drop n (rows_of parts a))) (sym first)) in
    past_told c.whole_page.result _ _ (past_moved _ _ _ _ _ _ _ _ (ap leaf_type h.type) refl h.way rows) c.whole_page.ensures.err
