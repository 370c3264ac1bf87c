use Rattle.std.proofs.Common.{◌≤◌, ◌+◌, ◌-◌, arith}
use Rattle.levels.proofs.Wholes.{empty-on, empty-end, total-few}
use Rattle.levels.proofs.whole.count_empty.Goals as goal

pub overflow_add-empty : goal.overflow_add-empty
overflow_add-empty g c =
    let few = total-few c.args.offsets.now c.loop-place.place (c.loop-place.place + c.min.result - c.loop-place.place) in
    omega (arith, few, c.count_some.ensures, c.loop-place.invariant.few, c.min.ensures, c.loop-place-test.true, c.ranges.to.fits)

pub loop-place-preserved : goal.loop-place-preserved
loop-place-preserved g c =
    let place = c.loop-place.place in
    let end = place + c.min.result in
    let within : end ≤ c.args.to = omega (arith, c.min.ensures, c.loop-place-test.true) in
    let few = total-few c.args.offsets.now place (end - place) in
    record {
      after = omega (arith, c.loop-place.invariant.after);
      before = within;
      few = omega (arith, few, c.count_some.ensures, c.loop-place.invariant.few);
      sums = empty-on c.args.offsets.now place end c.args.to _ _ _ (omega arith) within c.loop-place.invariant.sums c.count_some.ensures;
    }

pub returns : goal.returns
returns g c = empty-end c.args.offsets.now c.loop-place.place c.args.to c.loop-place.empty _ c.loop-place-test.false c.loop-place.invariant.sums
