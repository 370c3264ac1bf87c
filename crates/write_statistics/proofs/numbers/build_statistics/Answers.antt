use Rattle.columns_core.specs.Shapes.{base, leaf_type}
use Rattle.pq_tree.specs.Views.{physical_view}
use Rattle.write_statistics.specs.Extremes.{present}
use Rattle.write_statistics.proofs.Bounds.{extremes_hold, nothing_stated, stored_bounds}
use Rattle.write_statistics.proofs.numbers.build_statistics.Goals as goal

pub stored_of-requires : goal.stored_of-requires
stored_of-requires g c = (extremes_hold g.T.StoredAs.is_storable g.T.OrderedNative.ordinal _ _ _ c.requires.storable c.extremes_of-extremes.ensures).0

pub stored_of-requires-2 : goal.stored_of-requires-2
stored_of-requires-2 g c = (extremes_hold g.T.StoredAs.is_storable g.T.OrderedNative.ordinal _ _ _ c.requires.storable c.extremes_of-extremes.ensures).1

pub returns-clause-bounds : goal.returns-clause-bounds
returns-clause-bounds g c =
    let t = base c.args.array.now.0 in
    stored_bounds (leaf_type t) (physical_view g.P.ParquetNativeType.physical) (g.T.NativeType.value t) g.T.OrderedNative.ordinal g.T.StoredAs.stored_number g.P.ParquetNativeType.stored g.P.PlainNumber.plain_number
    (λ x. g.met.T.OrderedNative.in_order t x c.know.ensures.typed c.requires.ordered) (present c.args.array.now.1.1 c.args.array.now.1.0)
    (λ k d h. g.met.T.StoredAs.by_the_table t _ (c.requires.storable k d h) c.know.ensures.typed c.requires.ordered) c.extremes_of-extremes.result.least c.extremes_of-extremes.result.greatest c.stored_of.result c.stored_of-2.result
    c.extremes_of-extremes.ensures c.stored_of.ensures.number c.stored_of-2.ensures.number c.stored_of.ensures.spelled c.stored_of-2.ensures.spelled

pub returns-clause-none : goal.returns-clause-none
returns-clause-none g c =
    nothing_stated g.T.OrderedNative.ordinal g.T.StoredAs.stored_number g.P.PlainNumber.plain_number (present c.args.array.now.1.1 c.args.array.now.1.0) c.extremes_of-extremes.result.least c.extremes_of-extremes.result.greatest c.stored_of.result c.stored_of-2.result c.extremes_of-extremes.ensures
    c.stored_of.ensures.number c.stored_of-2.ensures.number
