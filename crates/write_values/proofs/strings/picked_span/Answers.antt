use Rattle.std.proofs.Common.{◌<◌, ◌^◌, length, subst, sym, arith}
use Rattle.std.specs.Int.{w64, trailing_zeros}
use Rattle.write_places.specs.Places.{picked}
use Rattle.write_places.proofs.Picked.{IsNext, next_picked}
use Rattle.write_values.proofs.Picked.{one_less}
use Rattle.write_values.proofs.StringSpans.{span_less, span_room, span_all}
use Rattle.write_values.proofs.strings.picked_span.Goals as goal

pub overflow_add-from : goal.overflow_add-from
overflow_add-from g c =
    let n = next_picked c.loop-left.left c.args.from c.args.count (omega (arith, c.loop-left-test.true)) c.requires.few c.loop-left.invariant.low in
    omega (arith, n.within, c.requires.within, c.len_proxy-strings.ensures, c.len_proxy-strings.type_inv)

pub span_at-span-requires : goal.span_at-span-requires
span_at-span-requires g c =
    let n = next_picked c.loop-left.left c.args.from c.args.count (omega (arith, c.loop-left-test.true)) c.requires.few c.loop-left.invariant.low in
    omega (arith, n.within, c.requires.within)

pub overflow_add-span : goal.overflow_add-span
overflow_add-span g c =
    let os = c.args.offsets.now in
    let bs = c.args.all.now in
    let n = next_picked c.loop-left.left c.args.from c.args.count (omega (arith, c.loop-left-test.true)) c.requires.few c.loop-left.invariant.low in
    let room = span_room os bs c.args.bits c.loop-left.left _ c.args.from c.args.count _ c.loop-left.span c.span_at-span.result c.requires.places c.requires.within n c.span_at-span.ensures c.loop-left.invariant.sum in
    let short : length bs < 2 ^ 64 = omega (arith, c.well_formed) in
    omega (arith, room, short)

pub loop-left-smaller : goal.loop-left-smaller
loop-left-smaller g c =
    let n = subst (λ k. IsNext c.loop-left.left k c.args.from c.args.count (trailing_zeros w64 c.loop-left.left)) (sym c.without_lowest-left.ensures) (next_picked c.loop-left.left c.args.from c.args.count (omega (arith, c.loop-left-test.true)) c.requires.few c.loop-left.invariant.low) in
    omega (arith, one_less _ _ _ _ _ n)

pub loop-left-preserved : goal.loop-left-preserved
loop-left-preserved g c =
    let n = subst (λ k. IsNext c.loop-left.left k c.args.from c.args.count (trailing_zeros w64 c.loop-left.left)) (sym c.without_lowest-left.ensures) (next_picked c.loop-left.left c.args.from c.args.count (omega (arith, c.loop-left-test.true)) c.requires.few c.loop-left.invariant.low) in
    record {
      low = n.low;
      sum = span_less c.args.offsets.now c.args.all.now c.loop-left.left _ c.args.from c.args.count _ c.loop-left.span c.span_at-span.result (picked c.args.bits c.args.from c.args.count) c.requires.places c.requires.within n c.span_at-span.ensures c.loop-left.invariant.sum;
    }

pub returns : goal.returns
returns g c = span_all c.args.offsets.now c.args.all.now c.loop-left.left c.args.from c.args.count c.loop-left.span (picked c.args.bits c.args.from c.args.count) c.loop-left-test.false c.loop-left.invariant.sum
