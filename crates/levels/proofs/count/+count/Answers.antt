use Rattle.std.proofs.Common.{◌+◌, ◌-◌, arith, ◌∙◌}
use Rattle.levels.specs.Nested.{parts_of}
use Rattle.levels.specs.Stretch.{level_of}
use Rattle.levels.specs.declared.walk.Level.TheVariants.{Definition}
use Rattle.levels.proofs.Sizes.{total-steps, total-end, stretch-size, length-like, length-slots}
use Rattle.levels.proofs.count.+count.Goals as goal

pub count_stretch-returns-in-Ends-clause-pairs : goal.count_stretch-returns-in-Ends-clause-pairs
count_stretch-returns-in-Ends-clause-pairs t c =
    let size = stretch-size (level_of Definition) (parts_of c.args.parts.now) c.args.place (c.in-Ends.end - c.args.place) _ (c.in-Ends.ensures.levels 0 0 0) ∙ length-like 0 0 (0 + c.in-Ends.field-0) (c.in-Ends.end - c.args.place) in
    omega (arith, size, c.in-Ends.ensures.fits.1, c.ranges.to.fits)

pub count_stretch-returns-in-Below-clause-pairs : goal.count_stretch-returns-in-Below-clause-pairs
count_stretch-returns-in-Below-clause-pairs t c =
    let size = stretch-size (level_of Definition) (parts_of c.args.parts.now) c.args.place (c.in-Below.end - c.args.place) _ (c.in-Below.ensures.levels 0 0 0) ∙ length-slots (parts_of c.in-Below.rest.now) (0 + c.in-Below.field-1) 0 0 0 c.args.place (c.in-Below.end - c.args.place) in
    omega (arith, size, c.count.ensures)

pub count_stretch-returns-in-Items-clause-pairs : goal.count_stretch-returns-in-Items-clause-pairs
count_stretch-returns-in-Items-clause-pairs t c =
    let size = stretch-size (level_of Definition) (parts_of c.args.parts.now) c.args.place (c.in-Items.end - c.args.place) _ (c.in-Items.ensures.levels 0 0 0) ∙ length-slots (parts_of c.in-Items.rest.now) (0 + c.in-Items.field-1) (0 + 1) 0 (0 + 1) c.in-Items.first (c.in-Items.last - c.in-Items.first) in
    omega (arith, size, c.count-in-Items.ensures)

pub count-loop-place-preserved : goal.count-loop-place-preserved
count-loop-place-preserved t c =
    let e = c.count_stretch-pairs.ensures in
    record {
      after = omega (arith, c.loop-place.invariant.after, e.after);
      before = e.within;
      fits = omega arith;
      sums = total-steps _ _ _ _ _ _ _ _ _ e.after e.within c.loop-place.invariant.sums e.pairs c.saturating_add-sum.ensures;
    }

pub count-returns : goal.count-returns
count-returns t c = total-end _ _ _ _ _ _ c.loop-place-test.false c.loop-place.invariant.fits c.loop-place.invariant.sums
