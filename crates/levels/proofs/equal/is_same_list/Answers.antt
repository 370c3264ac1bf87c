use Rattle.std.proofs.lemmas.Bool.Decides.{Decides-at}
use Rattle.levels.proofs.Same.{tells_list}
use Rattle.levels.proofs.equal.is_same_list.Goals as goal

pub returns : goal.returns
returns g c = Decides-at _ _ c.eq.ensures (tells_list c.args.a.now c.args.b.now)
