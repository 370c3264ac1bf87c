use Rattle.std.proofs.Common.{IsTrue}
use Rattle.levels.specs.Stretch.{HaveItems}
use Rattle.levels.proofs.items.have_items.Given as goal

abbrev pub invariant-loop-i : goal.invariant-loop-i
invariant-loop-i g l = IsTrue l.all → HaveItems l.offsets l.place l.i
