use Rattle.std.proofs.Common.{◌≡◌, ◌+◌, ◌*◌, ◌≤◌}
use Rattle.levels.proofs.Maxima.{definition_from}
use Rattle.levels.proofs.nested.max_def_level.Given as goal

abbrev pub invariant-loop-part : goal.invariant-loop-part
invariant-loop-part l = record { low : l.levels ≤ 2 * l.part-index; whole : l.levels + definition_from l.nested l.part-index ≡ definition_from l.nested 0 }
