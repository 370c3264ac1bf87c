use Rattle.level_sections.proofs.Repeats.{numbers-below}
use Rattle.level_sections.proofs.Told.{none_opens, told_then, told_all}
use Rattle.level_sections.proofs.lists.push_long.Goals as goal
use Rattle.std.proofs.Common.{◌^◌, refl}

pub push_bits-requires-clause-low : goal.push_bits-requires-clause-low
push_bits-requires-clause-low c = numbers-below c.args.depth c.args.starts.word 0 c.args.starts.count (2 ^ c.args.writer.now.width) c.requires.holds

pub with_list-requires-clause-open : goal.with_list-requires-clause-open
with_list-requires-clause-open c = none_opens

pub returns-then-pairs-le64-clause-added : goal.returns-then-pairs-le64-clause-added
returns-then-pairs-le64-clause-added c = λ start rest whole g. told_then start _ _ _ _ c.args.depth c.args.starts _ c.with_list.result _ rest whole refl (c.with_list.ensures.levels c.args.depth) c.in_ok-push_bits.ensures.added g

pub returns-clause-open : goal.returns-clause-open
returns-clause-open c = none_opens

pub returns-clause-added : goal.returns-clause-added
returns-clause-added c = λ start rest whole g. told_all start _ _ _ _ _ _ _ _ c.args.depth c.args.pairs c.args.starts _ rest whole refl c.in_ok-push_bits.ensures.added c.in_ok-push.ensures.added c.in_ok-push-2.ensures.added g
