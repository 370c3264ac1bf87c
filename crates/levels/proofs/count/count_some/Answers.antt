use Rattle.std.proofs.Common.{arith, ◌∙◌, ap, ◌==◌, refl}
use Rattle.std.proofs.lemmas.Nat.Bits.{shr_and_one}
use Rattle.levels.specs.Sizes.{list_size}
use Rattle.levels.proofs.Flat.{first_size, next_size, last_size}
use Rattle.levels.proofs.count.count_some.Goals as goal

pub loop-i-init : goal.loop-i-init
loop-i-init g c = record {
  fits = omega arith;
  sums = λ is_optional mask bits. first_size (list_size is_optional mask c.args.offsets.now) c.args.place c.args.count _ _ refl;
}

pub loop-i-preserved : goal.loop-i-preserved
loop-i-preserved g c = record {
  fits = omega arith;
  sums = λ is_optional mask bits.
      let there = ap (λ n. n == 1) (shr_and_one c.args.word c.loop-i.i) ∙ bits c.loop-i.i c.loop-i-test.true in
      next_size (list_size is_optional mask c.args.offsets.now) c.args.place c.loop-i.i c.args.count _ _ _ _ _ c.loop-i-test.true (c.loop-i.invariant.sums is_optional mask bits) (c.list_pairs.ensures is_optional mask there) c.saturating_add-sum.ensures;
}

pub returns : goal.returns
returns g c = λ is_optional mask bits. last_size (list_size is_optional mask c.args.offsets.now) c.args.place c.loop-i.i c.args.count _ _ _ c.loop-i-test.false c.loop-i.invariant.fits (c.loop-i.invariant.sums is_optional mask bits)
