use Rattle.std.proofs.Common.{ap, ◌∙◌}
use Rattle.shredding.specs.Local.{inside}
use Rattle.read_laws.specs.State.{kept_way}
use Rattle.read_walk.proofs.Following.{plainly}
use Rattle.read_walk.proofs.order.check_pairs.Goals as goal

pub returns-then-plainly_follow-clause-ok : goal.returns-then-plainly_follow-clause-ok
returns-then-plainly_follow-clause-ok c = plainly (kept_way c.args.nested.now) c.args.before c.args.reps.now c.args.defs.now _ _ _ c.requires.defs c.requires.levels.0 c.requires.levels.1 (c.requires.levels.2 ∙ ap (inside (kept_way c.args.nested.now)) c.requires.levels.0) (c.plainly_follow.ensures c.if-plainly_follow.true)
