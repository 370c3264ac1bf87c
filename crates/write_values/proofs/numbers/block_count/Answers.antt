use Rattle.pq_tree.specs.Views.{physical_view}
use Rattle.write_values.proofs.NumberPlaces.{block_counts, four_or_eight}
use Rattle.write_values.proofs.numbers.block_count.Goals as goal

pub nonzero_div-result : goal.nonzero_div-result
nonzero_div-result g c =
    let P = g.met.P.StoredNumber in
    (block_counts g.P.PlainNumber.byte_count c.width.result c.width.ensures (four_or_eight (physical_view g.P.ParquetNativeType.physical) g.P.PlainNumber.byte_count P.is_number_type P.size_is)).0

pub returns-clause-some : goal.returns-clause-some
returns-clause-some g c =
    let P = g.met.P.StoredNumber in
    (block_counts g.P.PlainNumber.byte_count c.width.result c.width.ensures (four_or_eight (physical_view g.P.ParquetNativeType.physical) g.P.PlainNumber.byte_count P.is_number_type P.size_is)).1

pub returns-clause-whole : goal.returns-clause-whole
returns-clause-whole g c =
    let P = g.met.P.StoredNumber in
    (block_counts g.P.PlainNumber.byte_count c.width.result c.width.ensures (four_or_eight (physical_view g.P.ParquetNativeType.physical) g.P.PlainNumber.byte_count P.is_number_type P.size_is)).2
