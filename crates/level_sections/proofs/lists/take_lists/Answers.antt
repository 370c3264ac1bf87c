use Rattle.std.proofs.Common.{◌+◌, ◌==◌, ◌∙◌, ap, arith, refl}
use Rattle.std.specs.Prelude.{slice_index}
use Rattle.std.proofs.lemmas.Nat.Bits.{shr_and_one}
use Rattle.levels.specs.Sizes.{list_size}
use Rattle.levels.proofs.Rising.{rising}
use Rattle.level_sections.proofs.Told.{size-between, taken_more}
use Rattle.level_sections.proofs.lists.take_lists.Goals as goal

pub loop-i-init : goal.loop-i-init
loop-i-init g c = record {
  is_open = c.requires.open;
  before = omega arith;
  within = c.requires.ordered;
  start = c.place-at.ensures;
  levels = λ depth is_optional mask bits. refl;
}

pub pairs_between-pairs-requires : goal.pairs_between-pairs-requires
pairs_between-pairs-requires g c =
    let h = c.loop-i.invariant in
    omega (arith, h.start, c.place-next.ensures, rising c.args.offsets.now (c.args.place + c.loop-i.i) (c.args.place + c.loop-i.i + 1) c.know.ensures (omega arith) (omega (arith, c.loop-i-test.true, c.requires.within)))

pub loop-i-preserved : goal.loop-i-preserved
loop-i-preserved g c =
    let h = c.loop-i.invariant in
    let place = c.args.place + c.loop-i.i in
    let zero = rising c.args.offsets.now 0 place c.know.ensures (omega arith) (omega (arith, c.loop-i-test.true, c.requires.within)) in
    record {
      is_open = c.with_list-after.ensures.open;
      before = omega (arith, h.before);
      within = omega (arith, c.loop-i-test.true);
      start = c.place-next.ensures ∙ ap (slice_index c.args.offsets.now) (omega arith);
      levels = λ depth is_optional mask bits.
          let there = ap (λ n. n == 1) (shr_and_one c.args.word c.loop-i.i) ∙ bits c.loop-i.i c.loop-i-test.true in
          let size = size-between is_optional mask c.args.offsets.now place c.pairs_between-pairs.result _ _ _ there h.start c.place-next.ensures zero c.pairs_between-pairs.ensures.size in
          h.levels depth is_optional mask bits ∙ taken_more (list_size is_optional mask c.args.offsets.now) depth c.args.place c.loop-i.i c.args.count c.pairs_between-pairs.result c.loop-i.after c.with_list-after.result c.loop-i-test.true size (c.with_list-after.ensures.levels depth);
    }
