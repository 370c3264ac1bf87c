use Rattle.std.proofs.lemmas.Bool.Decides.{Decides-at}
use Rattle.pq_tree.proofs.TellsTrees.{tells_leaf}
use Rattle.pq_tree.proofs.equal.is_same_leaf.Goals as goal

pub returns : goal.returns
returns c = Decides-at _ _ c.eq.ensures (tells_leaf c.args.a.now c.args.b.now)
