use Rattle.std.proofs.Common.{◌+◌, ◌-◌, ◌++◌, ◌==◌, ◌∙◌, ap, arith}
use Rattle.std.proofs.lemmas.Nat.Bits.{shr_and_one}
use Rattle.levels.specs.Sizes.{list_size}
use Rattle.level_sections.specs.Lists.{pending, reps_from}
use Rattle.level_sections.proofs.Told.{some_taken, some_more}
use Rattle.level_sections.proofs.lists.push_word.Goals as goal

pub returns-then-next-count-clause-added : goal.returns-then-next-count-clause-added
returns-then-next-count-clause-added g c = λ is_optional mask bits start rest whole k.
    some_taken start _ _ (pending c.args.depth c.args.starts) _ (pending c.args.depth c.take_some-next.result.0) _ rest whole (c.take_some-next.ensures.levels c.args.depth is_optional mask bits) k

pub returns-clause-added : goal.returns-clause-added
returns-clause-added g c =
    let i = c.take_some-next.result.1 in
    λ is_optional mask bits start rest whole k.
    let size = list_size is_optional mask c.args.offsets.now in
    let there = ap (λ n. n == 1) (shr_and_one c.args.word i) ∙ bits i (omega (arith, c.take_some-next.ensures.before, c.if-next-count.false)) in
    let taken = some_taken start _ _ (pending c.args.depth c.args.starts) _ (pending c.args.depth c.take_some-next.result.0) _ rest whole (c.take_some-next.ensures.levels c.args.depth is_optional mask bits) k in
    c.in_ok-after.ensures.added start (reps_from size c.args.depth c.args.depth (c.args.place + (i + 1)) (c.args.count - (i + 1)) ++ rest) whole
    (some_more start _ _ size c.args.depth c.args.place i c.args.count c.pairs_at-pairs.result (pending c.args.depth c.take_some-next.result.0) rest whole (omega (arith, c.take_some-next.ensures.before, c.if-next-count.false)) (c.pairs_at-pairs.ensures.size is_optional mask there) taken)
