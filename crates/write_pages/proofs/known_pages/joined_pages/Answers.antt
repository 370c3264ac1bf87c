use Rattle.std.proofs.Common.{arith, true}
use Rattle.columns_array.specs.Boxed.{boxed}
use Rattle.columns_core.specs.Shapes.{leaf_type}
use Rattle.columns_slots.specs.Slots.{type_of}
use Rattle.levels.specs.Nested.{parts_of}
use Rattle.pq_tree.specs.Views.{physical_view}
use Rattle.write_pages.specs.KnownColumns.{IsKnownPage}
use Rattle.write_pages.proofs.JoinedRows.{all_none}
use Rattle.write_pages.proofs.known_pages.joined_pages.Goals as goal

pub loop-first-init : goal.loop-first-init
loop-first-init c =
    let a = boxed c.args.array.now in
    let p = physical_view c.args.physical_type in
    let parts = parts_of c.args.nested.now in
    record {
      within = omega (arith);
      joined = record {
        pages = all_none (IsKnownPage true a parts p) c.new.result.items c.new.ensures.items;
        told = λ few. c.no_statistics.ensures (leaf_type (type_of a)) p;
      };
    }
