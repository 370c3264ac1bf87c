use Rattle.std.proofs.Common.{◌-◌, ◌++◌, Some, sym, subst, arith}
use Rattle.columns_slots.specs.Bytes.{pieces_values}
use Rattle.write_places.specs.Places.{range}
use Rattle.page_statistics.specs.Extremes.{AreExtremes}
use Rattle.page_statistics.proofs.Places.{stretch_none, stretch_more}
use Rattle.write_values.specs.Numbers.{at_place}
use Rattle.write_values.proofs.fronts.with_strings.Goals as goal

pub loop-place-init : goal.loop-place-init
loop-place-init g c =
    let value = at_place (pieces_values c.args.offsets.now c.args.all.now) in
    record {
      fronts = c.fronts_at-fronts.ensures.fronts;
      from = omega arith;
      are = λ places h. subst (λ e. AreExtremes value (places ++ range c.args.from (c.args.from - c.args.from)) (Some e)) (sym c.fronts_at-fronts.ensures.places) (stretch_none value c.args.from (Some c.args.extremes) places h);
    }

pub loop-place-preserved : goal.loop-place-preserved
loop-place-preserved g c =
    let value = at_place (pieces_values c.args.offsets.now c.args.all.now) in
    let i = c.loop-place.invariant in
    record {
      fronts = c.with_string-fronts.ensures.fronts;
      from = omega (arith, i.from);
      are = λ places h. stretch_more value c.args.from c.loop-place.place _ places i.from (c.with_string-fronts.ensures.are (places ++ range c.args.from (c.loop-place.place - c.args.from)) (i.are places h));
    }
