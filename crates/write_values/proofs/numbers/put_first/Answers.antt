use Rattle.std.proofs.Common.{◌∙◌, length, take, arith}
use Rattle.shredding.specs.Slot.{number}
use Rattle.pq_tree.specs.Views.{physical_view}
use Rattle.write_values.proofs.NumberPlaces.{room_left}
use Rattle.write_values.proofs.NumberRuns.{first_more}
use Rattle.write_values.proofs.numbers.put_first.Goals as goal

pub loop-value-preserved : goal.loop-value-preserved
loop-value-preserved g c =
    let at = c.args.at in
    let next = c.loop-value.next in
    let i = c.loop-value.value-index in
    let w = g.P.PlainNumber.byte_count in
    let xs = c.args.values.now in
    let so_far = c.loop-value.invariant in
    let within = c.loop-value-test.true in
    let width = c.width-next.ensures in
    let same = c.put_number.ensures.len in (
      room_left next i (length xs) w c.width-next.result (length c.loop-value.places) (length c.put_number.new.places) within so_far.0 width same,
      same ∙ so_far.1,
      omega (arith, so_far.2, width),
      first_more (physical_view g.P.ParquetNativeType.physical) (λ x. number (g.T.StoredAs.stored_number x)) xs i c.args.few c.value-item.result at next w (take at c.args.places.now) c.loop-value.places c.put_number.new.places within c.value-item.is so_far.2 so_far.0 same so_far.3 c.put_number.ensures.is,
    )
