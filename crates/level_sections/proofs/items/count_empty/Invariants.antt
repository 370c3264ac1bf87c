use Rattle.std.proofs.Common.{◌-◌, ◌≤◌}
use Rattle.level_sections.proofs.items.count_empty.Given as goal

abbrev pub invariant-loop-i : goal.invariant-loop-i
invariant-loop-i g l = l.empty ≤ l.i - l.place
