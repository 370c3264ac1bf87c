use Rattle.std.proofs.Common.{◌≡◌, ◌+◌, ◌-◌, ◌*◌, ◌≤◌, ◌++◌, length}
use Rattle.levels.specs.Nested.{parts_of}
use Rattle.level_sections.specs.Walk.{walked}
use Rattle.level_sections.proofs.tell.+tell.Given as goal

abbrev pub decreases-tell_stretch : goal.decreases-tell_stretch
decreases-tell_stretch l = 3 * length l.parts.now

abbrev pub decreases-tell_stretches : goal.decreases-tell_stretches
decreases-tell_stretches l = 3 * length l.parts.now + 1

abbrev pub decreases-tell : goal.decreases-tell
decreases-tell l = 3 * length l.parts.now + 2

abbrev pub invariant-tell_stretches-loop-place : goal.invariant-tell_stretches-loop-place
invariant-tell_stretches-loop-place l = record {
  after : l.from ≤ l.place;
  before : l.place ≤ l.to;
  first : l.here.rep ≤ l.here.depth;
  def : l.here.def ≡ l.fn.above.def;
  depth : l.here.depth ≡ l.fn.above.depth;
  told : l.told ++ walked l.level (parts_of l.parts) l.here l.place (l.to - l.place) ≡ l.fn.told ++ walked l.level (parts_of l.parts) l.fn.above l.from (l.to - l.from);
}

abbrev pub decreases-tell_stretches-loop-place : goal.decreases-tell_stretches-loop-place
decreases-tell_stretches-loop-place l = l.to - l.place
