use Rattle.std.proofs.Common.{◌≡◌, List, ap, inl, inr, refl, sym}
use Rattle.shredding.specs.Parts.{path_way, path_slots}
use Rattle.columns_array.specs.Boxed.{boxed}
use Rattle.levels.specs.declared.nested.Nested.{Nested}
use Rattle.levels.specs.Nested.{parts_of}
use Rattle.nested_paths.specs.Seen.{leaf_slot}
use Rattle.pq_tree.specs.Views.{physical_view}
use Rattle.write_pages.proofs.KnownRows.{known_moved}
use Rattle.write_pages.proofs.WidePieces.{physical_in, past_moved}
use Rattle.write_pages.proofs.known_column.whole_page.Goals as goal

pub known_page-requires-clause-known : goal.known_page-requires-clause-known
known_page-requires-clause-known c =
    let same : physical_view c.in_ok-type_.type_.physical_type ≡ physical_view c.args.type_.now.physical_type = ap physical_in c.in_ok-type_.ensures.same in
    known_moved c.args.options.write_statistics (boxed c.args.whole.now.rows.array) _ _ _ _ c.args.whole.now.known _ (sym same) (sym c.deref.ensures.value) (sym c.in_ok-known.ensures.measured) (sym c.in_ok-known.ensures.statistics) c.requires.known

pub returns-in-Err-clause-err : goal.returns-in-Err-clause-err
returns-in-Err-clause-err c =
    let same : physical_view c.in_ok-type_.type_.physical_type ≡ physical_view c.args.type_.now.physical_type = ap physical_in c.in_ok-type_.ensures.same in
    let own = leaf_slot (boxed c.args.whole.now.rows.array) in
    elim c.in-Err.ensures.err [
      | inl m ↦ inl m
      | inr h ↦ inr (h.0, past_moved _ _ _ _ _ _ _ _ refl same (ap (λ (xs : List Nested). path_way (parts_of xs)) c.deref.ensures.value) (ap (λ (xs : List Nested). path_slots own (parts_of xs)) c.deref.ensures.value) h.1)
    ]
