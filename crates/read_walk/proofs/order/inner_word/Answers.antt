use Rattle.read_walk.proofs.Following.{inner-pair}
use Rattle.read_walk.proofs.order.inner_word.Goals as goal

pub returns : goal.returns
returns c k h e = inner-pair c.args.before c.args.defs.now c.args.floor c.from-inner.result c.from.result k c.reaches.result c.requires c.from.ensures c.reaches.ensures c.from-inner.ensures e h
