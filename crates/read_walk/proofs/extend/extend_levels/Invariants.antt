use Rattle.std.proofs.Common.{length}
use Rattle.read_laws.specs.State.{kept_way}
use Rattle.read_walk.specs.Order.{AreLevels}
use Rattle.read_walk.specs.Ticks.{TicksEach}
use Rattle.read_walk.proofs.Walking.{Progress}
use Rattle.read_walk.proofs.extend.extend_levels.Given as goal

abbrev pub invariant-pairs : goal.invariant-pairs
invariant-pairs g l = Progress l.additional l.rows l.before l.initial.page l.page (g.D.NestedDecoder.left l.decoder l.initial.values) (g.D.NestedDecoder.left l.decoder l.values) l.initial.nested l.nested (g.D.NestedDecoder.slots l.initial.decoded) (g.D.NestedDecoder.slots l.decoded) × TicksEach (length l.initial.nested) l.initial.page l.page l.initial.steps l.steps × AreLevels (kept_way l.nested) l.levels.lists l.levels.top l.levels.floor × g.D.NestedDecoder.suits l.decoder l.decoded

abbrev pub decreases-pairs : goal.decreases-pairs
decreases-pairs g l = length l.page
