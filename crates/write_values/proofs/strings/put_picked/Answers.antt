use Rattle.std.proofs.Common.{◌+◌, ◌-◌, ◌<◌, [], length, map, take, drop, refl, subst, sym, ◌∙◌, arith}
use Rattle.std.specs.Int.{w64, trailing_zeros}
use Rattle.columns_slots.specs.Bytes.{pieces_values}
use Rattle.columns_leaf.proofs.Texts.{step_of_places}
use Rattle.shredding.specs.Slot.{bytes}
use Rattle.pq_tree.specs.Physical.{byte_array}
use Rattle.write_places.specs.Places.{picked}
use Rattle.write_places.proofs.Picked.{IsNext, next_picked}
use Rattle.write_values.specs.Numbers.{at_place}
use Rattle.write_values.proofs.Picked.{partly_none, partly_more, partly_all, one_less}
use Rattle.write_values.proofs.StringPlaces.{picked_less, picked_short, others_fit, piece_between, string_size}
use Rattle.write_values.proofs.strings.put_picked.Goals as goal

pub loop-left-init : goal.loop-left-init
loop-left-init g c = record {
  low = c.requires.low;
  small = c.requires.small;
  room = omega (arith, c.requires.room);
  len = refl;
  row = partly_none byte_array [] (map (at_place (pieces_values c.args.offsets.now c.args.all.now)) (picked c.args.bits c.args.from c.args.count));
}

pub overflow_add-from : goal.overflow_add-from
overflow_add-from g c =
    let n = next_picked c.loop-left.left c.args.from c.args.count (omega (arith, c.loop-left-test.true)) c.requires.few c.loop-left.invariant.low in
    omega (arith, n.within, c.requires.within, c.len_proxy-strings.ensures, c.len_proxy-strings.type_inv)

pub place-start-requires : goal.place-start-requires
place-start-requires g c =
    let n = next_picked c.loop-left.left c.args.from c.args.count (omega (arith, c.loop-left-test.true)) c.requires.few c.loop-left.invariant.low in
    omega (arith, n.within, c.requires.within)

pub overflow_add-from-in-loop-left : goal.overflow_add-from-in-loop-left
overflow_add-from-in-loop-left g c =
    let n = next_picked c.loop-left.left c.args.from c.args.count (omega (arith, c.loop-left-test.true)) c.requires.few c.loop-left.invariant.low in
    omega (arith, n.within, c.requires.within, c.len_proxy-strings.ensures, c.len_proxy-strings.type_inv)

pub overflow_add-from-in-loop-left-2 : goal.overflow_add-from-in-loop-left-2
overflow_add-from-in-loop-left-2 g c =
    let n = next_picked c.loop-left.left c.args.from c.args.count (omega (arith, c.loop-left-test.true)) c.requires.few c.loop-left.invariant.low in
    omega (arith, n.within, c.requires.within, c.len_proxy-strings.ensures, c.len_proxy-strings.type_inv)

pub place-requires : goal.place-requires
place-requires g c =
    let n = next_picked c.loop-left.left c.args.from c.args.count (omega (arith, c.loop-left-test.true)) c.requires.few c.loop-left.invariant.low in
    omega (arith, n.within, c.requires.within)

pub put_string-at-requires-clause-ordered : goal.put_string-at-requires-clause-ordered
put_string-at-requires-clause-ordered g c =
    let n = next_picked c.loop-left.left c.args.from c.args.count (omega (arith, c.loop-left-test.true)) c.requires.few c.loop-left.invariant.low in
    let s = step_of_places c.args.offsets.now (length c.args.all.now) (c.args.from + trailing_zeros w64 c.loop-left.left) c.requires.places (omega (arith, n.within, c.requires.within)) in
    omega (arith, s.0, c.place-start.ensures, c.place.ensures)

pub put_string-at-requires-clause-within : goal.put_string-at-requires-clause-within
put_string-at-requires-clause-within g c =
    let n = next_picked c.loop-left.left c.args.from c.args.count (omega (arith, c.loop-left-test.true)) c.requires.few c.loop-left.invariant.low in
    let s = step_of_places c.args.offsets.now (length c.args.all.now) (c.args.from + trailing_zeros w64 c.loop-left.left) c.requires.places (omega (arith, n.within, c.requires.within)) in
    omega (arith, s.1, c.place.ensures)

pub put_string-at-requires-clause-short : goal.put_string-at-requires-clause-short
put_string-at-requires-clause-short g c =
    let n = next_picked c.loop-left.left c.args.from c.args.count (omega (arith, c.loop-left-test.true)) c.requires.few c.loop-left.invariant.low in
    picked_short c.args.offsets.now c.args.all.now c.loop-left.left _ c.args.from c.args.count _ _ c.requires.places n c.requires.within c.loop-left.invariant.small (omega (arith, c.place-start.ensures, c.place.ensures))

pub put_string-at-requires-clause-room : goal.put_string-at-requires-clause-room
put_string-at-requires-clause-room g c =
    let n = next_picked c.loop-left.left c.args.from c.args.count (omega (arith, c.loop-left-test.true)) c.requires.few c.loop-left.invariant.low in
    let less = picked_less c.args.offsets.now c.args.all.now c.loop-left.left _ c.args.from c.args.count _ n in
    let one = string_size c.args.offsets.now c.args.all.now (c.args.from + trailing_zeros w64 c.loop-left.left) c.requires.places (omega (arith, n.within, c.requires.within)) in
    omega (arith, less, one, c.place-start.ensures, c.place.ensures, c.loop-left.invariant.room)

pub loop-left-smaller : goal.loop-left-smaller
loop-left-smaller g c =
    let n = subst (λ k. IsNext c.loop-left.left k c.args.from c.args.count (trailing_zeros w64 c.loop-left.left)) (sym c.without_lowest-left.ensures) (next_picked c.loop-left.left c.args.from c.args.count (omega (arith, c.loop-left-test.true)) c.requires.few c.loop-left.invariant.low) in
    omega (arith, one_less _ _ _ _ _ n)

pub loop-left-preserved : goal.loop-left-preserved
loop-left-preserved g c =
    let i = c.loop-left.invariant in
    let os = c.args.offsets.now in
    let bs = c.args.all.now in
    let f = at_place (pieces_values os bs) in
    let n = subst (λ k. IsNext c.loop-left.left k c.args.from c.args.count (trailing_zeros w64 c.loop-left.left)) (sym c.without_lowest-left.ensures) (next_picked c.loop-left.left c.args.from c.args.count (omega (arith, c.loop-left-test.true)) c.requires.few c.loop-left.invariant.low) in
    let e = c.put_string-at.ensures in
    let within : c.args.from + trailing_zeros w64 c.loop-left.left + 1 < length os = omega (arith, n.within, c.requires.within) in
    let less = picked_less os bs c.loop-left.left _ c.args.from c.args.count _ n in
    let one = string_size os bs (c.args.from + trailing_zeros w64 c.loop-left.left) c.requires.places within in
    record {
      low = n.low;
      small = others_fit os bs c.loop-left.left _ c.args.from c.args.count _ n i.small;
      room = omega (arith, less, one, c.place-start.ensures, c.place.ensures, i.room, e.at, e.len);
      len = e.len ∙ i.len;
      row = partly_more byte_array [] (take c.loop-left.at c.loop-left.places) (take c.put_string-at.result c.put_string-at.new.places) (map f (picked c.args.bits c.args.from c.args.count)) f c.loop-left.left _ c.args.from c.args.count _ (bytes (take (c.place.result - c.place-start.result) (drop c.place-start.result bs))) i.row n e.is (piece_between os bs (c.args.from + trailing_zeros w64 c.loop-left.left) c.place-start.result c.place.result within c.place-start.ensures c.place.ensures);
    }

pub returns-clause-are : goal.returns-clause-are
returns-clause-are g c =
    let f = at_place (pieces_values c.args.offsets.now c.args.all.now) in
    partly_all byte_array [] (take c.loop-left.at c.loop-left.places) (map f (picked c.args.bits c.args.from c.args.count)) f c.loop-left.left c.args.from c.args.count c.loop-left.invariant.row c.loop-left-test.false
