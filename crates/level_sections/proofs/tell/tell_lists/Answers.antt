use Rattle.std.proofs.Common.{◌+◌, ◌-◌, arith}
use Rattle.levels.specs.Sizes.{list_size}
use Rattle.level_sections.proofs.Repeats.{reps-more, reps-none}
use Rattle.level_sections.proofs.Bytes.{told-more, told-end}
use Rattle.level_sections.proofs.tell.tell_lists.Goals as goal

pub loop-place-preserved : goal.loop-place-preserved
loop-place-preserved g c =
    let h = c.loop-place.invariant in
    let list = c.args.list.now in
    let size = list_size list.is_optional list.validity list.offsets in
    record {
      after = omega (arith, h.after);
      before = omega (arith, c.loop-place-test.true);
      first = omega arith;
      told = told-more c.loop-place.told c.push_first.new.self _ _ _ _ (c.push_first.ensures c.if-not-push_first.false) (reps-more size c.loop-place.rep c.args.above.depth c.loop-place.place (c.args.to - c.loop-place.place) (c.args.to - (c.loop-place.place + 1)) c.pairs_at-pairs.result (omega (arith, c.loop-place-test.true)) c.pairs_at-pairs.ensures.size) h.told;
    }

pub returns : goal.returns
returns g c = λ t. told-end c.loop-place.told _ _ (reps-none _ c.loop-place.rep c.args.above.depth c.loop-place.place (c.args.to - c.loop-place.place) (omega (arith, c.loop-place-test.false))) c.loop-place.invariant.told
