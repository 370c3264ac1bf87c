use Rattle.std.proofs.Common.{◌∙◌, Bool, ap, option_map, refl, sym, subst}
use Rattle.shredding.specs.Parts.{slot_count}
use Rattle.columns_array.specs.Boxed.{boxed}
use Rattle.columns_core.specs.Shapes.{base, leaf_type}
use Rattle.columns_core.specs.Tree.{TypeTree}
use Rattle.levels.specs.Nested.{parts_of}
use Rattle.pq_tree.specs.Views.{physical_view, statistics_view}
use Rattle.write_values.specs.Served.{is_served}
use Rattle.write_pages.specs.KnownColumns.{AreFound, IsKnownPage}
use Rattle.write_pages.proofs.JoinedRows.{all_none, both_ok}
use Rattle.write_pages.proofs.Moved.{all_rows, stated_moved}
use Rattle.write_pages.proofs.PageRows.{each_ok}
use Rattle.write_pages.proofs.WidePieces.{wide_moved}
use Rattle.write_pages.proofs.known_pages.found_statistics.Goals as goal

pub returns-in-Some-clause-ok : goal.returns-in-Some-clause-ok
returns-in-Some-clause-ok c =
    let a = boxed c.args.array.now in
    let p = physical_view c.args.physical_type in
    let parts = parts_of c.args.nested.now in
    each_ok c.statistics_by_pages.result _ _ (λ f. subst (λ (b : Bool). AreFound b a parts p f) (sym c.in-Some.ensures.wanted)) c.statistics_by_pages.ensures.ok

pub statistics_at_once-requires-clause-served : goal.statistics_at_once-requires-clause-served
statistics_at_once-requires-clause-served c =
    ap (λ (t : TypeTree). is_served (base t) (physical_view c.args.physical_type)) c.requires.all.type ∙ c.requires.served

pub statistics_at_once-requires-clause-held : goal.statistics_at_once-requires-clause-held
statistics_at_once-requires-clause-held c = λ w.
    let h = c.requires.all in
    let a = boxed c.args.array.now in
    let parts = parts_of c.args.nested.now in
    c.requires.held (wide_moved _ _ (physical_view c.args.physical_type) _ _ _ _ (ap leaf_type h.type) h.way (h.rows ∙ all_rows parts a (slot_count parts) refl) w)

pub returns-in-None-clause-ok : goal.returns-in-None-clause-ok
returns-in-None-clause-ok c =
    let h = c.requires.all in
    let a = boxed c.args.array.now in
    let p = physical_view c.args.physical_type in
    let parts = parts_of c.args.nested.now in
    both_ok c.statistics_at_once.result _ _ _
    (λ f s e. record {
      pages = all_none (IsKnownPage c.args.is_wanted a parts p) f.pages.items e;
      stated = stated_moved c.args.is_wanted _ _ p _ _ _ _ (option_map statistics_view f.statistics) (ap leaf_type h.type) h.way (h.rows ∙ all_rows parts a (slot_count parts) refl) s;
    }) c.statistics_at_once.ensures.stated c.statistics_at_once.ensures.none
