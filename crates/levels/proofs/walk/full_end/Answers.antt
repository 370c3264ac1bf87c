use Rattle.levels.proofs.ItemEnds.{full_lists}
use Rattle.levels.proofs.walk.full_end.Goals as goal

pub returns-clause-full : goal.returns-clause-full
returns-clause-full g c =
    let list = c.args.list.now in
    full_lists list.is_optional list.validity list.offsets c.args.place c.items_end.result c.alike-end.result.1 c.alike-end.result.0 c.requires.full c.alike-end.ensures.alike c.items_end.ensures.within c.items_end.ensures.full
