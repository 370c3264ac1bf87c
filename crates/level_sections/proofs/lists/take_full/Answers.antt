use Rattle.std.proofs.Common.{◌+◌, ◌∙◌, arith}
use Rattle.levels.specs.Sizes.{list_size}
use Rattle.levels.proofs.Rising.{rising}
use Rattle.level_sections.proofs.Told.{taken_at, full_size}
use Rattle.level_sections.proofs.lists.take_full.Goals as goal

pub overflow_sub-items : goal.overflow_sub-items
overflow_sub-items g c =
    let h = c.loop-i.invariant in
    omega (arith, rising c.args.offsets.now c.args.place (c.loop-i.i + 1) c.know.ensures (omega (arith, h.before)) (omega (arith, c.loop-i-test.true, c.requires.within)), c.place-first.ensures, c.place.ensures)

pub overflow_sub-end : goal.overflow_sub-end
overflow_sub-end g c =
    let h = c.loop-i.invariant in
    omega (arith, h.count, rising c.args.offsets.now c.loop-i.i (c.loop-i.i + 1) c.know.ensures (omega arith) (omega (arith, c.loop-i-test.true, c.requires.within)), c.place-first.ensures, c.place.ensures)

pub with_list-after-requires-clause-some : goal.with_list-after-requires-clause-some
with_list-after-requires-clause-some g c =
    let h = c.loop-i.invariant in
    omega (arith, h.count, rising c.args.offsets.now c.loop-i.i (c.loop-i.i + 1) c.know.ensures (omega arith) (omega (arith, c.loop-i-test.true, c.requires.within)), c.place-first.ensures, c.place.ensures, c.if-end-after.false)

pub loop-i-preserved : goal.loop-i-preserved
loop-i-preserved g c =
    let h = c.loop-i.invariant in
    let i = c.loop-i.i in
    let offsets = c.args.offsets.now in
    let next = rising offsets i (i + 1) c.know.ensures (omega arith) (omega (arith, c.loop-i-test.true, c.requires.within)) in
    let begin = rising offsets c.args.place i c.know.ensures h.before (omega (arith, c.loop-i-test.true, c.requires.within)) in
    let zero = rising offsets 0 i c.know.ensures (omega arith) (omega (arith, c.loop-i-test.true, c.requires.within)) in
    record {
      is_open = c.with_list-after.ensures.open;
      before = omega (arith, h.before);
      within = omega (arith, c.loop-i-test.true);
      count = omega (arith, c.with_list-after.ensures.count, h.count, next, begin, c.place-first.ensures, c.place.ensures);
      levels = λ depth is_optional mask all.
          h.levels depth is_optional mask all
          ∙ taken_at (list_size is_optional mask offsets) depth i c.args.to _ c.loop-i.after c.with_list-after.result c.loop-i-test.true
          (full_size is_optional mask offsets i _ (all i h.before c.loop-i-test.true) zero (omega (arith, h.count, next, c.place-first.ensures, c.place.ensures, c.if-end-after.false)) (omega (arith, h.count, next, begin, c.place-first.ensures, c.place.ensures))) (c.with_list-after.ensures.levels depth);
    }
