use Rattle.std.proofs.Common.{◌-◌, arith}
use Rattle.levels.specs.Sizes.{total, empty_size}
use Rattle.levels.proofs.Wholes.{empty-more, empty-end, no-items, has-items}
use Rattle.levels.proofs.whole.count_some.Goals.{then-place, else-place}
use Rattle.levels.proofs.whole.count_some.Goals as goal

pub loop-i-preserved : goal.loop-i-preserved
loop-i-preserved g c =
    let offsets = c.args.offsets.now in
    let place = c.loop-i.i in
    let below = c.loop-i-test.true in
    elim c.if-place.branch [
      | then-place w ↦
          let none = no-items offsets c.know.ensures place c.place.result c.place-in-loop-i.result c.place.ensures c.place-in-loop-i.ensures w.if-place.true in
          record {
            few = omega (arith, c.loop-i.invariant.few, w.empty-is);
            sums = empty-more offsets place c.args.end c.loop-i.empty c.if-place.empty (total (empty_size offsets) c.args.place (c.args.end - c.args.place)) below c.loop-i.invariant.sums (omega (arith, none, w.empty-is));
          }
      | else-place w ↦
          let some = has-items offsets c.know.ensures place c.place.result c.place-in-loop-i.result (omega (arith, below, c.requires.within)) c.place.ensures c.place-in-loop-i.ensures w.if-place.false in
          record {
            few = omega (arith, c.loop-i.invariant.few, w.empty-is);
            sums = empty-more offsets place c.args.end c.loop-i.empty c.if-place.empty (total (empty_size offsets) c.args.place (c.args.end - c.args.place)) below c.loop-i.invariant.sums (omega (arith, some, w.empty-is));
          }
    ]

pub returns : goal.returns
returns g c = empty-end c.args.offsets.now c.loop-i.i c.args.end c.loop-i.empty _ c.loop-i-test.false c.loop-i.invariant.sums
