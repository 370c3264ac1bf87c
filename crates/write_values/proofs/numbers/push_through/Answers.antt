use Rattle.std.proofs.Common.{arith, take}
use Rattle.shredding.specs.Slot.{number}
use Rattle.pq_tree.specs.Views.{physical_view}
use Rattle.write_values.proofs.NumberPlaces.{numbers_further}
use Rattle.write_values.proofs.numbers.push_through.Goals as goal

pub loop-at-preserved : goal.loop-at-preserved
loop-at-preserved g c = (
  c.part_end-end.ensures.within,
  omega (arith, c.loop-at.invariant.1, c.put_numbers-size.ensures.len),
  numbers_further (physical_view g.P.ParquetNativeType.physical) (λ x. number (g.T.StoredAs.stored_number x)) c.args.values.now c.loop-at.at c.part_end-end.result c.args.out.now.items c.loop-at.out.items (take c.put_numbers-size.result c.put_numbers-size.new.places) c.extend_from_slice.new.self.items (omega (arith, c.part_end-end.ensures.past)) c.in_ok-extend_from_slice.ensures.items c.loop-at.invariant.2 c.put_numbers-size.ensures.are,
)
