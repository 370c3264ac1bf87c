use Rattle.shredding.specs.Parts.{path_way}
use Rattle.columns_array.specs.Boxed.{boxed}
use Rattle.columns_core.specs.Shapes.{leaf_type}
use Rattle.columns_slots.specs.Slots.{type_of}
use Rattle.levels.specs.Nested.{parts_of}
use Rattle.pq_tree.specs.Views.{physical_view}
use Rattle.write_pages.specs.Holds.{rows_of}
use Rattle.write_pages.proofs.JoinedRows.{ordered_values, told_joined}
use Rattle.write_pages.proofs.known_pages.with_rows.Goals as goal

pub known_page-requires-clause-has_values : goal.known_page-requires-clause-has_values
known_page-requires-clause-has_values c = ordered_values c.args.order (type_of (boxed c.args.array.now)) c.requires.order

pub returns-clause-ok : goal.returns-clause-ok
returns-clause-ok c =
    let a = boxed c.args.array.now in
    let p = physical_view c.args.physical_type in
    let parts = parts_of c.args.nested.now in
    let t = leaf_type (type_of a) in
    record {
      pages = c.in_ok-pages.ensures.ok a parts p c.requires.joined.pages c.in_ok-known.ensures.ok;
      told =
          told_joined t p (path_way parts) (rows_of parts a) c.args.first c.args.count _ _ _
          (λ xs ys few l r. c.in_ok-statistics.ensures.ok t p xs ys c.requires.order few l r) c.requires.joined.told c.in_ok-known.ensures.stated;
    }
