use Rattle.std.proofs.Common.{◌<◌, ◌∷◌, [], length, map, take, arith, ap, ◌∙◌}
use Rattle.std.proofs.lemmas.List.{map-append, take_more_set, length-set}
use Rattle.read_leaf.proofs.Reading.{one-read, one-outside}
use Rattle.read_leaf.proofs.primitive.fill_singly.Goals as goal

pub returns-in-None : goal.returns-in-None
returns-in-None g c = rw c.loop-place.auto.places at (one-outside g.T.FromStored.loaded g.P.StoredNumber.spelled g.P.PlainNumber.byte_count c.loop-place.place-index (length c.loop-place.places) c.args.bytes.now c.loop-place.rest.now _ _ (omega (arith, c.loop-place-test.true, c.loop-place.auto.places)) c.loop-place.invariant.is c.in-None.ensures)

pub loop-place-preserved : goal.loop-place-preserved
loop-place-preserved g c =
    let number = g.T.FromStored.loaded_number in
    let i = c.loop-place.place-index in
    let xs = c.loop-place.places in
    let there : i < length xs = omega (arith, c.loop-place-test.true, c.loop-place.auto.places) in
    let more = ap (map number) (take_more_set xs i c.in-Some.number there) ∙ map-append number (take i xs) (c.in-Some.number ∷ []) in
    record { is = rw length-set (one-read g.T.FromStored.loaded g.P.StoredNumber.spelled g.P.PlainNumber.byte_count i (length xs) c.args.bytes.now c.loop-place.rest.now _ _ _ _ (number c.in-Some.number) there c.loop-place.invariant.is c.in-Some.ensures (rw c.width.ensures at c.skip-rest.ensures) more) }
