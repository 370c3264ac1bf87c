use Rattle.std.proofs.Common.{◌≤◌, List, length, refl, subst}
use Rattle.shredding.specs.Parts.{path_way, slot_count}
use Rattle.shredding.specs.Shred.{column}
use Rattle.shredding.specs.Slot.{Slot}
use Rattle.columns_array.specs.Boxed.{boxed}
use Rattle.columns_core.specs.Shapes.{leaf_type}
use Rattle.columns_slots.specs.Slots.{type_of}
use Rattle.joined_statistics.proofs.Stated.{is_ordered, stated}
use Rattle.joined_statistics.specs.Told.{AreTold}
use Rattle.levels.specs.Nested.{parts_of}
use Rattle.pq_files.specs.Room.{max_count}
use Rattle.pq_tree.specs.Views.{physical_view, statistics_view}
use Rattle.write_pages.specs.Holds.{rows_of}
use Rattle.write_pages.proofs.JoinedRows.{has_some}
use Rattle.write_pages.proofs.Moved.{all_rows}
use Rattle.write_pages.proofs.known_pages.statistics_by_pages.Goals as goal

pub returns-clause-ok : goal.returns-clause-ok
returns-clause-ok c =
    let a = boxed c.args.array.now in
    let p = physical_view c.args.physical_type in
    let parts = parts_of c.args.nested.now in
    let t = leaf_type (type_of a) in
    let j = c.in_ok-joined.ensures.ok in
    let s = statistics_view c.in_ok-joined.joined.statistics in
    record {
      pages = j.pages;
      stated =
          stated t p (column (path_way parts) (rows_of parts a)) s (is_ordered c.args.order t c.requires.order)
          (subst (λ (rows : List Slot). length (column (path_way parts) rows) ≤ max_count → AreTold t p (column (path_way parts) rows) s) (all_rows parts a (slot_count parts) refl) j.told)
          (has_some t p (path_way parts) (rows_of parts a) c.args.plain c.requires.measured);
    }
