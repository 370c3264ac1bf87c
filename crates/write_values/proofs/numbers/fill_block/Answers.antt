use Rattle.std.proofs.Common.{◌∙◌}
use Rattle.shredding.specs.Slot.{number}
use Rattle.pq_tree.specs.Views.{physical_view}
use Rattle.write_values.proofs.NumberPlaces.{number_filled}
use Rattle.write_values.proofs.numbers.fill_block.Goals as goal

pub loop-i-preserved : goal.loop-i-preserved
loop-i-preserved g c = (
  c.put_number.ensures.len ∙ c.loop-i.invariant.0,
  number_filled (physical_view g.P.ParquetNativeType.physical) (λ x. number (g.T.StoredAs.stored_number x)) c.args.values.now c.loop-i.i c.index-values-i.result c.width.result g.P.PlainNumber.byte_count c.loop-i.block c.put_number.new.places c.loop-i-test.true c.index-values-i.is c.width.ensures c.loop-i.invariant.1 c.put_number.ensures.is,
)
