use Rattle.std.proofs.Common.{map, arith}
use Rattle.columns_slots.specs.Bytes.{pieces_values}
use Rattle.shredding.specs.Slot.{bytes}
use Rattle.pq_tree.specs.Physical.{byte_array}
use Rattle.write_places.specs.Places.{picked}
use Rattle.write_places.proofs.Picked.{next_picked}
use Rattle.write_values.specs.Numbers.{at_place}
use Rattle.write_values.proofs.Picked.{partly_more, partly_all, one_less}
use Rattle.write_values.proofs.StringPlaces.{picked_short, others_fit}
use Rattle.write_values.proofs.strings.push_each.Goals as goal

pub overflow_add-from : goal.overflow_add-from
overflow_add-from g c =
    let n = next_picked c.loop-left.left c.args.from c.args.count (omega (arith, c.loop-left-test.true)) c.requires.few c.loop-left.invariant.low in
    omega (arith, n.within, c.requires.within, c.len_proxy-strings.ensures, c.len_proxy-strings.type_inv)

pub string_at-requires-clause-within : goal.string_at-requires-clause-within
string_at-requires-clause-within g c =
    let n = next_picked c.loop-left.left c.args.from c.args.count (omega (arith, c.loop-left-test.true)) c.requires.few c.loop-left.invariant.low in
    omega (arith, n.within, c.requires.within)

pub push_string-requires : goal.push_string-requires
push_string-requires g c =
    let n = next_picked c.loop-left.left c.args.from c.args.count (omega (arith, c.loop-left-test.true)) c.requires.few c.loop-left.invariant.low in
    picked_short c.args.offsets.now c.args.all.now c.loop-left.left _ c.args.from c.args.count _ _ c.requires.places n c.requires.within c.loop-left.invariant.small c.string_at.ensures.size

pub loop-left-smaller : goal.loop-left-smaller
loop-left-smaller g c =
    let n = next_picked c.loop-left.left c.args.from c.args.count (omega (arith, c.loop-left-test.true)) c.requires.few c.loop-left.invariant.low in
    omega (arith, one_less _ _ _ _ _ n)

pub loop-left-preserved : goal.loop-left-preserved
loop-left-preserved g c =
    let i = c.loop-left.invariant in
    let os = c.args.offsets.now in
    let bs = c.args.all.now in
    let f = at_place (pieces_values os bs) in
    let n = next_picked c.loop-left.left c.args.from c.args.count (omega (arith, c.loop-left-test.true)) c.requires.few i.low in
    record {
      low = n.low;
      small = others_fit os bs c.loop-left.left _ c.args.from c.args.count _ n i.small;
      row = partly_more byte_array c.args.out.now.items c.loop-left.out.items c.push_string.new.out.items (map f (picked c.args.bits c.args.from c.args.count)) f c.loop-left.left _ c.args.from c.args.count _ (bytes c.string_at.result.now) i.row n c.in_ok-push_string.ensures.ok c.string_at.ensures.is;
    }

pub returns-clause-ok : goal.returns-clause-ok
returns-clause-ok g c =
    let f = at_place (pieces_values c.args.offsets.now c.args.all.now) in
    partly_all byte_array c.args.out.now.items c.loop-left.out.items (map f (picked c.args.bits c.args.from c.args.count)) f c.loop-left.left c.args.from c.args.count c.loop-left.invariant.row c.loop-left-test.false
