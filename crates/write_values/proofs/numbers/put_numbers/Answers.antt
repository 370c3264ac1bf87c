use Rattle.std.proofs.Common.{◌∙◌, length}
use Rattle.shredding.specs.Slot.{number}
use Rattle.pq_tree.specs.Views.{physical_view}
use Rattle.write_values.proofs.NumberPlaces.{number_placed, room_left}
use Rattle.write_values.proofs.numbers.put_numbers.Goals as goal

pub loop-value-preserved : goal.loop-value-preserved
loop-value-preserved g c =
    let at = c.loop-value.at in
    let i = c.loop-value.value-index in
    let w = g.P.PlainNumber.byte_count in
    let so_far = c.loop-value.invariant in
    let within = c.loop-value-test.true in
    let width = c.width-at.ensures in
    let same = c.put_number.ensures.len in (
      room_left at i (length c.args.values.now) w c.width-at.result (length c.loop-value.places) (length c.put_number.new.places) within so_far.0 width same,
      same ∙ so_far.1,
      number_placed (physical_view g.P.ParquetNativeType.physical) (λ x. number (g.T.StoredAs.stored_number x)) c.args.values.now i c.value-item.result at c.width-at.result w c.loop-value.places c.put_number.new.places within c.value-item.is width so_far.2 c.put_number.ensures.is,
    )
