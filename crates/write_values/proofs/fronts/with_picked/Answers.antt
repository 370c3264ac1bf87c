use Rattle.std.proofs.Common.{Some, sym, subst, arith}
use Rattle.std.specs.Int.{w64, trailing_zeros}
use Rattle.columns_slots.specs.Bytes.{pieces_values}
use Rattle.write_places.specs.Places.{picked}
use Rattle.write_places.proofs.Picked.{IsNext, next_picked}
use Rattle.page_statistics.proofs.Places.{IsPartly, partly_all, partly_more, partly_none, one_less}
use Rattle.write_values.specs.FirstBytes.{places_of}
use Rattle.write_values.specs.Numbers.{at_place}
use Rattle.write_values.proofs.fronts.with_picked.Goals as goal

pub loop-left-init : goal.loop-left-init
loop-left-init g c =
    let value = at_place (pieces_values c.args.offsets.now c.args.all.now) in
    let all = picked c.args.bits c.args.from c.args.count in
    record {
      low = c.requires.low;
      fronts = c.fronts_at-fronts.ensures.fronts;
      partly = subst (λ e. IsPartly value (Some c.args.extremes) (Some e) all all) (sym c.fronts_at-fronts.ensures.places) (partly_none value (Some c.args.extremes) all);
    }

pub overflow_add-from : goal.overflow_add-from
overflow_add-from g c =
    let n = next_picked c.loop-left.left c.args.from c.args.count (omega (arith, c.loop-left-test.true)) c.requires.few c.loop-left.invariant.low in
    omega (arith, n.within, c.requires.within, c.len_proxy-strings.ensures, c.len_proxy-strings.type_inv)

pub with_string-fronts-requires-clause-within : goal.with_string-fronts-requires-clause-within
with_string-fronts-requires-clause-within g c =
    let n = next_picked c.loop-left.left c.args.from c.args.count (omega (arith, c.loop-left-test.true)) c.requires.few c.loop-left.invariant.low in
    omega (arith, n.within, c.requires.within)

pub loop-left-smaller : goal.loop-left-smaller
loop-left-smaller g c =
    let n = subst (λ k. IsNext c.loop-left.left k c.args.from c.args.count (trailing_zeros w64 c.loop-left.left)) (sym c.without_lowest-left.ensures) (next_picked c.loop-left.left c.args.from c.args.count (omega (arith, c.loop-left-test.true)) c.requires.few c.loop-left.invariant.low) in
    omega (arith, one_less _ _ _ _ _ n)

pub loop-left-preserved : goal.loop-left-preserved
loop-left-preserved g c =
    let value = at_place (pieces_values c.args.offsets.now c.args.all.now) in
    let n = subst (λ k. IsNext c.loop-left.left k c.args.from c.args.count (trailing_zeros w64 c.loop-left.left)) (sym c.without_lowest-left.ensures) (next_picked c.loop-left.left c.args.from c.args.count (omega (arith, c.loop-left-test.true)) c.requires.few c.loop-left.invariant.low) in
    record {
      low = n.low;
      fronts = c.with_string-fronts.ensures.fronts;
      partly = partly_more value (Some c.args.extremes) (Some (places_of c.loop-left.fronts)) _ (picked c.args.bits c.args.from c.args.count) c.loop-left.left _ c.args.from c.args.count _ c.loop-left.invariant.partly n c.with_string-fronts.ensures.are;
    }

pub returns-clause-are : goal.returns-clause-are
returns-clause-are g c =
    let value = at_place (pieces_values c.args.offsets.now c.args.all.now) in
    partly_all value (Some c.args.extremes) (Some (places_of c.loop-left.fronts)) (picked c.args.bits c.args.from c.args.count) c.loop-left.left c.args.from c.args.count c.loop-left.invariant.partly c.loop-left-test.false
