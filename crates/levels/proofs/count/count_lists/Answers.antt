use Rattle.std.proofs.Common.{arith, ◌+◌, ◌-◌, ◌≡◌, ◌<◌, ◌≤◌, min, ◌^◌}
use Rattle.levels.specs.Sizes.{total, list_size}
use Rattle.levels.proofs.Sizes.{total-steps, total-end}
use Rattle.levels.proofs.count.count_lists.Goals as goal

pub loop-place-preserved : goal.loop-place-preserved
loop-place-preserved g c =
    let list = c.args.list.now in
    let size = list_size list.is_optional list.validity list.offsets in
    let place = c.loop-place.place in
    let count = c.min-count.result in
    let more : place < place + count = omega (arith, c.min-count.ensures, c.loop-place-test.true) in
    let within : place + count ≤ c.args.to = omega (arith, c.min-count.ensures, c.loop-place-test.true) in
    let many : place + count - place ≡ count = omega arith in
    let pairs : c.count_some.result ≡ min (total size place (place + count - place)) (2 ^ 64 - 1) = rw many (c.count_some.ensures list.is_optional list.validity c.present_word-word.ensures) in
    record {
      after = omega (arith, c.loop-place.invariant.after);
      before = within;
      fits = omega arith;
      sums = total-steps size place (place + count) c.args.to _ _ _ _ _ more within c.loop-place.invariant.sums pairs c.saturating_add-sum.ensures;
    }

pub returns : goal.returns
returns g c = total-end _ _ _ _ _ _ c.loop-place-test.false c.loop-place.invariant.fits c.loop-place.invariant.sums
