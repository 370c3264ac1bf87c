use Rattle.std.proofs.Common.{arith, ap}
use Rattle.columns_slots.specs.Bytes.{pieces_values}
use Rattle.write_places.proofs.Picked.{next_picked}
use Rattle.write_values.specs.Feeding.{text_of}
use Rattle.write_values.specs.Numbers.{at_place}
use Rattle.write_values.proofs.Picked.{one_less}
use Rattle.write_values.proofs.Fed.{joined_next, joined_last}
use Rattle.write_values.proofs.pieces.push_picked.Goals as goal

pub overflow_add-from : goal.overflow_add-from
overflow_add-from g c =
    let n = next_picked c.loop-left.left c.args.from c.args.count (omega (arith, c.loop-left-test.true)) c.requires.few c.loop-left.invariant.low in
    omega (arith, n.within, c.requires.within, c.len_proxy-strings.ensures, c.len_proxy-strings.type_inv)

pub string_at-requires-clause-within : goal.string_at-requires-clause-within
string_at-requires-clause-within g c =
    let n = next_picked c.loop-left.left c.args.from c.args.count (omega (arith, c.loop-left-test.true)) c.requires.few c.loop-left.invariant.low in
    omega (arith, n.within, c.requires.within)

pub loop-left-smaller : goal.loop-left-smaller
loop-left-smaller g c =
    let n = next_picked c.loop-left.left c.args.from c.args.count (omega (arith, c.loop-left-test.true)) c.requires.few c.loop-left.invariant.low in
    omega (arith, one_less _ _ _ _ _ n)

pub loop-left-preserved : goal.loop-left-preserved
loop-left-preserved g c =
    let f = at_place (pieces_values c.args.offsets.now c.args.all.now) in
    let n = next_picked c.loop-left.left c.args.from c.args.count (omega (arith, c.loop-left-test.true)) c.requires.few c.loop-left.invariant.low in
    record {
      low = n.low;
      joined = joined_next f c.loop-left.left _ c.args.from c.args.count _ _ _ _ _ n (ap text_of c.string_at.ensures.is) c.in_ok-extend_from_slice.ensures.items c.loop-left.invariant.joined;
    }

pub returns : goal.returns
returns g c =
    let f = at_place (pieces_values c.args.offsets.now c.args.all.now) in
    joined_last f c.loop-left.left c.args.from c.args.count _ _ c.loop-left.invariant.joined c.loop-left-test.false
