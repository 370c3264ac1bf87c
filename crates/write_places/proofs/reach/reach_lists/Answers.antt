use Rattle.std.proofs.Common.{length}
use Rattle.levels.specs.Nested.{parts_of}
use Rattle.write_places.proofs.Reached.{all_lists}
use Rattle.write_places.proofs.reach.reach_lists.Goals as goal

pub returns : goal.returns
returns g c = all_lists (parts_of c.args.parts.now) c.args.rest _ _ _ _ _ _ _ c.requires.foot c.next_range-first.ensures
