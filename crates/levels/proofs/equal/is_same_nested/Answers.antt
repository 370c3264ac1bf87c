use Rattle.std.proofs.lemmas.Bool.Decides.{Decides-at}
use Rattle.levels.proofs.Same.{tells_nested}
use Rattle.levels.proofs.equal.is_same_nested.Goals as goal

pub returns : goal.returns
returns c = Decides-at _ _ c.eq.ensures (tells_nested c.args.a.now c.args.b.now)
