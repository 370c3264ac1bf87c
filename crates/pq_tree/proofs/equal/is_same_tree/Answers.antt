use Rattle.std.proofs.lemmas.Bool.Decides.{Decides-at}
use Rattle.pq_tree.proofs.TellsTrees.{tells_tree}
use Rattle.pq_tree.proofs.equal.is_same_tree.Goals as goal

pub returns : goal.returns
returns c = Decides-at _ _ c.eq.ensures (tells_tree c.args.a.now c.args.b.now)
