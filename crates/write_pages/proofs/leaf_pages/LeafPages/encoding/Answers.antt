use Rattle.std.proofs.Common.{sym, subst}
use Rattle.columns_array.specs.Boxed.{boxed}
use Rattle.columns_slots.specs.Slots.{type_of}
use Rattle.pq_tree.specs.Views.{physical_view}
use Rattle.write_values.specs.Deltas.{IsLeafType}
use Rattle.write_values.proofs.ServedDeltas.{leaf_types}
use Rattle.write_pages.proofs.leaf_pages.LeafPages.encoding.Goals as goal

pub page_encoding-requires : goal.page_encoding-requires
page_encoding-requires c =
    let s = c.self.inside in
    subst IsLeafType (sym c.data_type.ensures) (leaf_types (type_of (boxed s.array)) (physical_view s.type_.physical_type) c.self.invariant.0.served)
