use Rattle.read_laws.specs.State.{kept_way}
use Rattle.read_walk.proofs.Following.{plain-comes}
use Rattle.read_walk.proofs.order.plain_word.Goals as goal

pub returns : goal.returns
returns c k h e = plain-comes (kept_way c.args.nested.now) c.args.before c.args.reps.now c.args.defs.now c.args.lists c.args.floor c.at-begun.result c.inner_behind.result k c.requires.reps c.requires.lists c.requires.floor (c.requires.within k h) c.at-begun.ensures h (c.inner_behind.ensures k h) e
