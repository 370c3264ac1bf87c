use Rattle.read_laws.specs.State.{kept_way}
use Rattle.read_walk.proofs.Following.{list-comes}
use Rattle.read_walk.proofs.order.list_word.Goals as goal

pub returns : goal.returns
returns c k h e = list-comes (kept_way c.args.nested.now) c.args.before c.args.reps.now c.args.defs.now c.args.list c.inside-floor.result c.at.result c.inner_word.result k c.requires.reps c.inside-floor.ensures c.at.ensures h (c.inner_word.ensures k h) e
